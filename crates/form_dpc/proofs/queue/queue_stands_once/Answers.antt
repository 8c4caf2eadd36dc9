use Rattle.form_dpc.specs.Queue.{queue_size}
use Rattle.form_dpc.proofs.FormDpcLaws.{counted_is}
use Rattle.form_dpc.proofs.queue.queue_stands_once.Goals as goal

pub returns : goal.returns
returns c = cc (counted_is (queue_size c.args.w.now) c.args.queued)
