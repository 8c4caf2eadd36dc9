use Rattle.std.proofs.Common.{arith, ◌≡◌, ◌∙◌, ◌+◌, ◌-◌, ℕ, get_or, ap, refl}
use native.Mathlib.Decide.{dec_lt}
use Rattle.tables.proofs.TableLaws.{raised-is}
use Rattle.tables.proofs.raise.Goals as goal

pub returns-then-start-stop : goal.returns-then-start-stop
returns-then-start-stop c =
    let start : ℕ = c.args.end - c.args.m in
    raised-is c.args.m c.args.w.now c.copy_within.new.self c.args.end c.requires.0 c.copy_within.ensures.len
    (λ j k a b. let e : start + (j - (start + 32)) ≡ j - 32 = omega arith in
    c.copy_within.ensures.by_index.0 j 0 (omega arith) (omega arith) ∙ ap (λ (i : ℕ). get_or c.args.w.now i 0) e)
    (λ j k far. elim (dec_lt j (start + 32)) [
      | yes h ↦ c.copy_within.ensures.by_index.1 j 0 h
      | no h ↦ c.copy_within.ensures.by_index.2 j 0 (omega arith)
    ])

pub returns-else-start-stop : goal.returns-else-start-stop
returns-else-start-stop c =
    raised-is c.args.m c.args.w.now c.args.w.now c.args.end c.requires.0 refl
    (λ j k a b. absurd (omega arith)) (λ j k far. refl)
