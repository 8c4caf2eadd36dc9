use Rattle.exports.specs.RecordAnswer.{busy_in}
use Rattle.exports.proofs.record_answer.put_busy.Goals as goal

pub returns : goal.returns
unfolding busy_in
returns c = cc
