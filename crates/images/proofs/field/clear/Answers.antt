use Rattle.std.proofs.Common.{arith, replicate, ℕ, length, ◌≡◌, rules}
use Rattle.std.proofs.lemmas.Grind.{common_steps}
use Rattle.std.proofs.lemmas.List.{take-replicate}
use Rattle.images.proofs.FieldLaws.{placed-start, placed-cut}
use Rattle.images.proofs.field.clear.Goals as goal

pub returns : goal.returns
returns c =
    let e : c.fill.new.self ≡ replicate {A = ℕ} c.min-n.result 0 = search rules in
    let n : length (replicate {A = ℕ} c.min-n.result 0) ≡ c.min-n.result = grind (arith, common_steps) in
    cc (
      e,
      n,
      take-replicate {X = ℕ} c.min-n.result c.args.count 0 (omega arith),
      placed-cut (replicate {A = ℕ} c.args.count 0) 0 c.min-n.result c.args.out.now (λ i l m. grind (arith, common_steps)),
      placed-start (replicate {A = ℕ} c.min-n.result 0) c.args.out.now (omega (arith, n)),
    )
