use Rattle.exports.specs.RecordAnswer.{phase_in}
use Rattle.exports.proofs.record_answer.put_phase.Goals as goal

pub returns-in-Idle : goal.returns-in-Idle
unfolding phase_in
returns-in-Idle c = cc

pub returns-in-Queued : goal.returns-in-Queued
unfolding phase_in
returns-in-Queued c = simp c.in-Queued.is c.put_busy.ensures

pub returns-in-Running : goal.returns-in-Running
unfolding phase_in
returns-in-Running c = simp c.in-Running.is c.put_busy-in-Running.ensures

pub returns-in-Returning : goal.returns-in-Returning
unfolding phase_in
returns-in-Returning c = simp c.in-Returning.is c.put_busy-in-Returning.ensures
