use Rattle.exports.specs.RecordAnswer.{located_in}
use Rattle.exports.proofs.record_answer.put_located.Goals as goal

pub returns : goal.returns
unfolding located_in
returns c = cc
