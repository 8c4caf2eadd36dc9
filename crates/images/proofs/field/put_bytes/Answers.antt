use Rattle.std.proofs.Common.{sym, ◌≡◌, ◌+◌, ◌-◌, arith, rules, take, length}
use Rattle.std.proofs.lemmas.Grind.{common_steps}
use Rattle.images.proofs.FieldLaws.{placed-out, placed-mid, placed-cut}
use Rattle.images.proofs.field.put_bytes.Goals as goal

pub returns-then-at-out : goal.returns-then-at-out
returns-then-at-out c =
    let n : length (take c.min-n.result c.args.bytes.now) ≡ c.min-n.result = grind (arith, common_steps) in
    let k : c.args.at + c.min-n.result - c.args.at ≡ c.min-n.result = omega arith in
    cc (
      n,
      k,
      placed-cut c.args.bytes.now c.args.at c.min-n.result c.args.out.now (λ i l m. grind (arith, common_steps)),
      placed-mid c.args.at (take c.min-n.result c.args.bytes.now) c.args.out.now (grind (arith, common_steps, n)),
    )

pub returns-else-at-out : goal.returns-else-at-out
returns-else-at-out c = sym (placed-out c.args.bytes.now c.args.at c.args.out.now (search rules))
