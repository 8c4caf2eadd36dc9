use mathlib.Core.Path.{◌∙◌, sym, ap}
use Rattle.exports.specs.SchedulerAnswer.{refusal_of, answer_in, valued}
use Rattle.exports.proofs.scheduler_answer.put_answer.Goals as goal

pub returns-in-Done : goal.returns-in-Done
returns-in-Done c = (cc, cc)

pub returns-in-None : goal.returns-in-None
returns-in-None c = (cc, cc)

pub returns-in-Thread : goal.returns-in-Thread
returns-in-Thread c = (c.value.ensures.0 ∙ ap refusal_of (sym c.in-Thread.is), c.value.ensures.1 ∙ ap (answer_in c.args.out.now) (sym c.in-Thread.is))

pub returns-in-Flag : goal.returns-in-Flag
returns-in-Flag c = (c.value-in-Flag.ensures.0 ∙ ap refusal_of (sym c.in-Flag.is), c.value-in-Flag.ensures.1 ∙ ap (valued c.args.out.now 4) c.flag.ensures ∙ ap (answer_in c.args.out.now) (sym c.in-Flag.is))

pub returns-in-Count : goal.returns-in-Count
returns-in-Count c = (c.value-in-Count.ensures.0 ∙ ap refusal_of (sym c.in-Count.is), c.value-in-Count.ensures.1 ∙ ap (answer_in c.args.out.now) (sym c.in-Count.is))

pub returns-in-Satisfied : goal.returns-in-Satisfied
returns-in-Satisfied c = (c.value-in-Satisfied.ensures.0 ∙ ap refusal_of (sym c.in-Satisfied.is), c.value-in-Satisfied.ensures.1 ∙ ap (answer_in c.args.out.now) (sym c.in-Satisfied.is))

pub returns-in-Timeout : goal.returns-in-Timeout
returns-in-Timeout c = (cc, cc)

pub returns-in-Blocked : goal.returns-in-Blocked
returns-in-Blocked c = (cc, cc)

pub returns-in-Run : goal.returns-in-Run
returns-in-Run c = (c.value-in-Run.ensures.0 ∙ ap refusal_of (sym c.in-Run.is), c.value-in-Run.ensures.1 ∙ ap (answer_in c.args.out.now) (sym c.in-Run.is))

pub returns-in-AdvanceTo : goal.returns-in-AdvanceTo
returns-in-AdvanceTo c = (c.value-in-AdvanceTo.ensures.0 ∙ ap refusal_of (sym c.in-AdvanceTo.is), c.value-in-AdvanceTo.ensures.1 ∙ ap (answer_in c.args.out.now) (sym c.in-AdvanceTo.is))

pub returns-in-Deadlocked : goal.returns-in-Deadlocked
returns-in-Deadlocked c = (c.value-in-Deadlocked.ensures.0 ∙ ap refusal_of (sym c.in-Deadlocked.is), c.value-in-Deadlocked.ensures.1 ∙ ap (answer_in c.args.out.now) (sym c.in-Deadlocked.is))

pub returns-in-Finished : goal.returns-in-Finished
returns-in-Finished c = (cc, cc)

pub returns-in-Event : goal.returns-in-Event
returns-in-Event c = (c.event.ensures.0 ∙ ap refusal_of (sym c.in-Event.is), c.event.ensures.1 ∙ ap (answer_in c.args.out.now) (sym c.in-Event.is))
