use mathlib.Core.Path.{◌∙◌, ap}
use Prim.Native.Nat.{ℕ, ◌/◌, ◌%◌, ◌^◌}
use Rattle.wide.proofs.wrapping_mul_tenth.Goals as goal

pub returns : goal.returns
returns c = c.tenth.ensures ∙ ap (λ (n : ℕ). n / 10 % 2 ^ 64) c.product.ensures
