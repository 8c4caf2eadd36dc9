use Rattle.exports.specs.RecordAnswer.{work_in}
use Rattle.exports.proofs.record_answer.put_work.Goals as goal

pub returns : goal.returns
unfolding work_in
returns c = cc
