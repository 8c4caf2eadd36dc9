use Rattle.exports.specs.RecordAnswer.{origin_in}
use Rattle.exports.proofs.record_answer.put_origin.Goals as goal

pub returns-in-Caller : goal.returns-in-Caller
unfolding origin_in
returns-in-Caller c = cc

pub returns-in-Timer : goal.returns-in-Timer
unfolding origin_in
returns-in-Timer c = simp c.in-Timer.is (cc)
