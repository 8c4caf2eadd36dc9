use mathlib.Core.Path.{refl, ◌∙◌, subst, ◌≡◌}
use Rattle.std.proofs.Common.{rules, tests}
use Rattle.calls.specs.Guard as kind
use Rattle.timers.specs.Reads as timers
use Rattle.timers.specs.TimerAnswer as timer
use Rattle.exports.specs.RecordAnswer.{told_by_number, refusal_as, answer_as}
use Rattle.exports.specs.RecordCall.{by_number}
use Rattle.exports.proofs.RecordLaws.{told-by-number}
use Rattle.exports.proofs.record_answer.timer_answer.Goals as goal

pub returns : goal.returns
returns g c = λ a tells w. c.in_room.ensures kind.timers refl a (λ r ran out n after puts.
    let e : told_by_number timers.told timer.Refused (by_number r) ≡ a = told-by-number timers.told timer.Refused r ∙ tells r ran in
    subst (λ x. (n ≡ refusal_as kind.timers x) × (after.now ≡ answer_as kind.timers out.now x)) e (search (rules, tests))) w
