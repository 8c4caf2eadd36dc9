use Rattle.std.proofs.Common.{sym, ◌∙◌, ◌+◌, ◌-◌, ◌≡◌, arith, rules}
use Rattle.std.proofs.lemmas.Grind.{common_steps}
use Rattle.images.proofs.FieldLaws.{number-end, number_more}
use Rattle.images.proofs.field.put_number.Goals as goal

pub loop-place-preserved : goal.loop-place-preserved
loop-place-preserved c =
    let e : c.args.at + c.args.count - (c.loop-place.place + 1) ≡ c.args.at + c.args.count - c.loop-place.place - 1 = omega arith in
    (search rules, rw e (sym (number_more c.loop-place.place (c.args.at + c.args.count - c.loop-place.place) c.loop-place.rest c.loop-place.out (omega arith)) ∙ c.loop-place.invariant.1))

pub returns : goal.returns
returns c =
    sym (number-end c.loop-place.place (c.args.at + c.args.count - c.loop-place.place) c.loop-place.rest c.loop-place.out (λ h. grind (arith, common_steps)))
    ∙ c.loop-place.invariant.1
