-- A table with marks: the records that stay are as they were, and word 1 tells which go.
use Prim.Native.Nat.{ℕ, ◌+◌, ◌*◌}
use mathlib.Core.List.{List}
use mathlib.Core.Bool.{Bool, true, false, cond, not}
use mathlib.Core.Option.{some}
use mathlib.Core.Path.{◌≡◌, refl, sym, ap, ◌∙◌}
use native.Mathlib.Omega.{arith}
use native.Mathlib.Decide.{ℕ_discrete}
use lib.Dec.{eqb}
use lib.ListN.{get_or, length}
use Rattle.model.specs.Lists.{nth}
use Rattle.agreement_tables.specs.Tables.{Copied, Whole, Local, Holds}
use Rattle.agreement_tables.proofs.Lists.{nth_in}
use Rattle.agreement_tables.proofs.Compacts.{Marked}
use Rattle.agreement_release.proofs.Marks.{Marks}

module _ {A : Type 0} (test : List ℕ → ℕ → Bool) (base : ℕ) (f : A → Bool) (w w' : List ℕ) (xs : List A) (m : Marks test base w w' 0 (length xs))
    (tells : Holds (λ v p x. test v p ≡ not (f x)) w base xs) where
  -- word 1 of a record afterwards
  word-is : (i : ℕ) (x : A) → nth xs i ≡ some x → get_or w' (base + 32 * i + 1) 0 ≡ cond (not (f x)) 9 (get_or w (base + 32 * i + 1) 0)
  word-is i x e = let h = nth_in xs i x e in
      m.marks i (omega arith) (omega arith) ∙ ap (λ (b : Bool). cond b 9 (get_or w (base + 32 * i + 1) 0)) (tells i x e)

  pub stays_same : (i : ℕ) (x : A) → nth xs i ≡ some x → f x ≡ true → Copied Whole w (base + 32 * i) w' (base + 32 * i)
  stays_same i x e t k l d = go (ℕ_discrete k 1)
    where
      go : Dec (k ≡ 1) → get_or w' (base + 32 * i + k) 0 ≡ get_or w (base + 32 * i + k) 0
      go (yes q) =
          ap (λ (z : ℕ). get_or w' (base + 32 * i + z) 0) q ∙ word-is i x e ∙ ap (λ (b : Bool). cond (not b) 9 (get_or w (base + 32 * i + 1) 0)) t
          ∙ ap (λ (z : ℕ). get_or w (base + 32 * i + z) 0) (sym q)
      go (no n) = m.others (base + 32 * i + k) (λ t a b z. n (omega arith))

  -- what is said of those that stay
  pub stays-holds : (P : List ℕ → ℕ → A → Type 0) → Local Whole P → Holds P w base xs → Holds (λ v p x. f x ≡ true → P v p x) w' base xs
  stays-holds P local h i x e t = local w w' (base + 32 * i) (base + 32 * i) x (stays_same i x e t) (h i x e)

  -- those that go are marked
  pub marked-are : (word : A → ℕ) → ((x : A) → eqb (word x) 9 ≡ false) → Holds (λ v p x. get_or v (p + 1) 0 ≡ word x) w base xs → Holds (Marked f 1 9) w' base xs
  marked-are word other words i x e = ap (λ (n : ℕ). eqb n 9) (word-is i x e) ∙ go (f x)
    where
      go : (b : Bool) → eqb (cond (not b) 9 (get_or w (base + 32 * i + 1) 0)) 9 ≡ not b
      go true = ap (λ (n : ℕ). eqb n 9) (words i x e) ∙ other x
      go false = refl
