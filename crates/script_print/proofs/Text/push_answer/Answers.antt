use Rattle.script_print.specs.Print.{answer_text}
use Rattle.script_print.proofs.Text.push_answer.Goals as goal

pub returns-in-Refused : goal.returns-in-Refused
unfolding answer_text
returns-in-Refused c = simp c.in-Refused.is c.push_named.ensures

pub returns-in-Done : goal.returns-in-Done
unfolding answer_text
returns-in-Done c = simp c.in-Done.is c.push_bytes.ensures

pub returns-in-None : goal.returns-in-None
unfolding answer_text
returns-in-None c = simp c.in-None.is c.push_bytes-in-None.ensures

pub returns-in-Thread : goal.returns-in-Thread
unfolding answer_text
returns-in-Thread c = simp c.in-Thread.is c.push_named-in-Thread.ensures

pub returns-in-Flag : goal.returns-in-Flag
unfolding answer_text
returns-in-Flag c = simp c.in-Flag.is c.push_flag.ensures

pub returns-in-Count : goal.returns-in-Count
unfolding answer_text
returns-in-Count c = simp c.in-Count.is c.push_number.ensures

pub returns-in-Satisfied : goal.returns-in-Satisfied
unfolding answer_text
returns-in-Satisfied c = simp c.in-Satisfied.is c.push_named-in-Satisfied.ensures

pub returns-in-Timeout : goal.returns-in-Timeout
unfolding answer_text
returns-in-Timeout c = simp c.in-Timeout.is c.push_bytes-in-Timeout.ensures

pub returns-in-Blocked : goal.returns-in-Blocked
unfolding answer_text
returns-in-Blocked c = simp c.in-Blocked.is c.push_bytes-in-Blocked.ensures

pub returns-in-Run : goal.returns-in-Run
unfolding answer_text
returns-in-Run c = simp c.in-Run.is c.push_named-in-Run.ensures

pub returns-in-AdvanceTo : goal.returns-in-AdvanceTo
unfolding answer_text
returns-in-AdvanceTo c = simp c.in-AdvanceTo.is c.push_named-in-AdvanceTo.ensures

pub returns-in-Deadlocked : goal.returns-in-Deadlocked
unfolding answer_text
returns-in-Deadlocked c = simp c.in-Deadlocked.is c.push_deadlocked.ensures

pub returns-in-Finished : goal.returns-in-Finished
unfolding answer_text
returns-in-Finished c = simp c.in-Finished.is c.push_bytes-in-Finished.ensures

pub returns-in-Event : goal.returns-in-Event
unfolding answer_text
returns-in-Event c = simp c.in-Event.is c.push_bytes-in-Event.ensures
