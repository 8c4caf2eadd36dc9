use mathlib.Core.Path.{refl, ◌∙◌, subst, ◌≡◌}
use Rattle.std.proofs.Common.{rules, tests}
use Rattle.calls.specs.Guard as kind
use Rattle.dispatcher.specs.Read as read
use Rattle.dispatcher.specs.PlaceAnswer as place
use Rattle.exports.specs.RecordAnswer.{told_by_number, refusal_as, answer_as}
use Rattle.exports.specs.RecordCall.{by_number}
use Rattle.exports.proofs.RecordLaws.{told-by-number}
use Rattle.exports.proofs.record_answer.place_answer.Goals as goal

pub returns : goal.returns
returns g c = λ a tells w. c.in_room.ensures kind.places refl a (λ r ran out n after puts.
    let e : told_by_number read.told_place place.Refused (by_number r) ≡ a = told-by-number read.told_place place.Refused r ∙ tells r ran in
    subst (λ x. (n ≡ refusal_as kind.places x) × (after.now ≡ answer_as kind.places out.now x)) e (search (rules, tests))) w
