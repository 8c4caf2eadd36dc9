use Rattle.form_dpc.proofs.FormDpcLaws.{counted_is}
use Rattle.form_chains.specs.Chain.{ready_size}
use Rattle.form_chains.proofs.ready_stand_once.Goals as goal

pub returns : goal.returns
returns c = cc (counted_is (ready_size c.args.w.now) c.args.ready)
