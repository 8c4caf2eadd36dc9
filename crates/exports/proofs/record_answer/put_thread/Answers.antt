use Rattle.exports.specs.RecordAnswer.{thread_in}
use mathlib.Core.Path.{refl}
use Rattle.exports.proofs.record_answer.put_thread.Goals as goal

pub returns : goal.returns
unfolding thread_in
returns c = (refl, cc)
