use mathlib.Core.Path.{refl, ◌∙◌, subst, ◌≡◌}
use Rattle.std.proofs.Common.{rules, tests}
use Rattle.calls.specs.Guard as kind
use Rattle.dpc_reads.specs.Reads as dpcs
use Rattle.dpc_reads.specs.PolicyAnswer as policy
use Rattle.exports.specs.RecordAnswer.{told_by_number, refusal_as, answer_as}
use Rattle.exports.specs.RecordCall.{by_number}
use Rattle.exports.proofs.RecordLaws.{told-by-number}
use Rattle.exports.proofs.record_answer.policy_answer.Goals as goal

pub returns : goal.returns
returns g c = λ a tells w. c.in_room.ensures kind.policies refl a (λ r ran out n after puts.
    let e : told_by_number dpcs.selected policy.Refused (by_number r) ≡ a = told-by-number dpcs.selected policy.Refused r ∙ tells r ran in
    subst (λ x. (n ≡ refusal_as kind.policies x) × (after.now ≡ answer_as kind.policies out.now x)) e (search (rules, tests))) w
