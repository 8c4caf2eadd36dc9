use Rattle.exports.specs.RecordAnswer.{state_in}
use Rattle.exports.proofs.record_answer.put_state.Goals as goal

pub returns : goal.returns
unfolding state_in
returns c = cc
