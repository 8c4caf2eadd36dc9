use Rattle.exports.specs.RecordAnswer.{wait_in}
use Rattle.exports.proofs.record_answer.put_wait.Goals as goal

pub returns : goal.returns
unfolding wait_in
returns c = cc
