-- How many numbers of a range pass a test: those of a list without repeats that has exactly them.
use Prim.Native.Nat.{ℕ, zero, suc, ◌+◌, ◌≤◌, ◌<◌}
use mathlib.Core.List.{List, [], ◌∷◌}
use mathlib.Core.Bool.{Bool, cond, true, false, not}
use mathlib.Core.Path.{◌≡◌, refl, sym, ap, ◌∙◌, subst}
use mathlib.Core.Logic.{inl}
use native.Mathlib.Omega.{arith}
use native.Mathlib.Decide.{ℕ_discrete}
use lib.ListN.{length}
use lib.Dec.{eqb}
use Rattle.model.specs.Lists.{Mem, Distinct, member, without}
use Rattle.model.proofs.ListLaws.{not-both, mem-without, distinct-keep, length_without, member-mem, member-not, out-other}

-- of the `m` numbers from `i` on
abbrev pub tally : (ℕ → Bool) → ℕ → ℕ → ℕ
tally f zero i = 0
tally f (suc m) i = cond (f i) 1 0 + tally f m (i + 1)

pub tally-same : (f g : ℕ → Bool) (m i : ℕ) → ((y : ℕ) → i ≤ y → y < i + m → f y ≡ g y) → tally f m i ≡ tally g m i
tally-same f g zero i h = refl
tally-same f g (suc m) i h =
    ap (λ (b : Bool). cond b 1 0 + tally f m (i + 1)) (h i (omega arith) (omega arith))
    ∙ ap (λ (n : ℕ). cond (g i) 1 0 + n) (tally-same f g m (i + 1) (λ y p q. h y (omega arith) (omega arith)))

pub tally-list : (m i : ℕ) (xs : List ℕ) → Distinct xs → ((y : ℕ) → Mem y xs → (i ≤ y) × (y < i + m)) → tally (λ y. member y xs) m i ≡ length xs
tally-list zero i [] d h = refl
tally-list zero i (x ∷ xs) d h = absurd (omega (arith, (h x (inl refl)).0, (h x (inl refl)).1))
tally-list (suc m) i xs d h = go (tally-list m (i + 1)) (member i xs) refl
  where
    go : ((ys : List ℕ) → Distinct ys → ((y : ℕ) → Mem y ys → (i + 1 ≤ y) × (y < i + 1 + m)) → tally (λ y. member y ys) m (i + 1) ≡ length ys)
        → (b : Bool) → member i xs ≡ b → tally (λ y. member y xs) (suc m) i ≡ length xs
    go ih true e =
        ap (λ (b : Bool). cond b 1 0 + tally (λ y. member y xs) m (i + 1)) e
        ∙ ap (λ (n : ℕ). 1 + n) (tally-same (λ y. member y xs) (λ y. member y (without i xs)) m (i + 1) (λ y p q. sym (out-other y i xs (λ z. omega arith)))
        ∙ ih (without i xs) (distinct-keep (λ x. not (eqb x i)) xs d) (λ y k. within y (mem-without y i xs k)))
        ∙ (let z : 1 + length (without i xs) ≡ length xs = omega (arith, length_without i xs d (member-mem i xs e)) in z)
      where
        within : (y : ℕ) → (Mem y xs) × (y ≡ i → ⊥) → (i + 1 ≤ y) × (y < i + 1 + m)
        within y (k, q) = (omega (arith, (h y k).0, q), omega (arith, (h y k).1))
    go ih false e =
        ap (λ (b : Bool). cond b 1 0 + tally (λ y. member y xs) m (i + 1)) e
        ∙ (let z : 0 + tally (λ y. member y xs) m (i + 1) ≡ tally (λ y. member y xs) m (i + 1) = omega arith in z)
        ∙ ih xs d (λ y k. (omega (arith, (h y k).0, above y k), omega (arith, (h y k).1)))
      where
        above : (y : ℕ) → Mem y xs → y ≡ i → ⊥
        above y k q = member-not i xs e (subst (λ (z : ℕ). Mem z xs) q k)

-- ---- a list as long as the tally has all that pass

module _ (f g : ℕ → Bool) where
  tally-le : (m i : ℕ) → ((y : ℕ) → i ≤ y → y < i + m → g y ≡ true → f y ≡ true) → tally g m i ≤ tally f m i
  tally-le zero i h = omega arith
  tally-le (suc m) i h = go (f i) (g i) refl refl (tally-le m (i + 1) (λ y p q. h y (omega arith) (omega arith)))
    where
      go : (a b : Bool) → f i ≡ a → g i ≡ b → tally g m (i + 1) ≤ tally f m (i + 1) → cond (g i) 1 0 + tally g m (i + 1) ≤ cond (f i) 1 0 + tally f m (i + 1)
      go true true p q ih = subst (λ (t : Bool). cond t 1 0 + tally g m (i + 1) ≤ cond (f i) 1 0 + tally f m (i + 1)) (sym q) (subst (λ (t : Bool). 1 + tally g m (i + 1) ≤ cond t 1 0 + tally f m (i + 1)) (sym p) (omega arith))
      go true false p q ih = subst (λ (t : Bool). cond t 1 0 + tally g m (i + 1) ≤ cond (f i) 1 0 + tally f m (i + 1)) (sym q) (subst (λ (t : Bool). 0 + tally g m (i + 1) ≤ cond t 1 0 + tally f m (i + 1)) (sym p) (omega arith))
      go false true p q ih = absurd (not-both (sym (h i (omega arith) (omega arith) q) ∙ p))
      go false false p q ih = subst (λ (t : Bool). cond t 1 0 + tally g m (i + 1) ≤ cond (f i) 1 0 + tally f m (i + 1)) (sym q) (subst (λ (t : Bool). 0 + tally g m (i + 1) ≤ cond t 1 0 + tally f m (i + 1)) (sym p) (omega arith))

  tally-equal : (m i : ℕ) → ((y : ℕ) → i ≤ y → y < i + m → g y ≡ true → f y ≡ true) → tally f m i ≡ tally g m i → (y : ℕ) → i ≤ y → y < i + m → f y ≡ g y
  tally-equal zero i h e y p q = absurd (omega arith)
  tally-equal (suc m) i h e y p q =
      first (f i) (g i) refl refl (ℕ_discrete i y) (λ r s. tally-equal m (i + 1) (λ z u v. h z (omega arith) (omega arith)) s y (omega arith) (omega arith))
    where
      rest : tally g m (i + 1) ≤ tally f m (i + 1)
      rest = tally-le m (i + 1) (λ z u v. h z (omega arith) (omega arith))

      both-are : (a b : Bool) → f i ≡ a → g i ≡ b → cond a 1 0 + tally f m (i + 1) ≡ cond b 1 0 + tally g m (i + 1)
      both-are a b u v = ap (λ (t : Bool). cond t 1 0 + tally f m (i + 1)) (sym u) ∙ e ∙ ap (λ (t : Bool). cond t 1 0 + tally g m (i + 1)) v

      last : Dec (i ≡ y) → f i ≡ g i → tally f m (i + 1) ≡ tally g m (i + 1) → ((i ≡ y → ⊥) → tally f m (i + 1) ≡ tally g m (i + 1) → f y ≡ g y) → f y ≡ g y
      last (yes r) u v ih = subst (λ (z : ℕ). f z ≡ g z) r u
      last (no r) u v ih = ih r v

      first : (a b : Bool) → f i ≡ a → g i ≡ b → Dec (i ≡ y) → ((i ≡ y → ⊥) → tally f m (i + 1) ≡ tally g m (i + 1) → f y ≡ g y) → f y ≡ g y
      first true true u v r ih = last r (u ∙ sym v) (let z : 1 + tally f m (i + 1) ≡ 1 + tally g m (i + 1) = both-are true true u v in omega (arith, z)) ih
      first false false u v r ih = last r (u ∙ sym v) (let z : 0 + tally f m (i + 1) ≡ 0 + tally g m (i + 1) = both-are false false u v in omega (arith, z)) ih
      first true false u v r ih = let z : 1 + tally f m (i + 1) ≡ 0 + tally g m (i + 1) = both-are true false u v in absurd (omega (arith, z, rest))
      first false true u v r ih = absurd (not-both (sym (h i (omega arith) (omega arith) v) ∙ u))

pub tally-exact : (f : ℕ → Bool) (m i : ℕ) (xs : List ℕ) → Distinct xs → ((y : ℕ) → Mem y xs → (i ≤ y) × (y < i + m)) → ((y : ℕ) → Mem y xs → f y ≡ true)
    → tally f m i ≡ length xs → (y : ℕ) → i ≤ y → y < i + m → f y ≡ member y xs
tally-exact f m i xs d within passes e =
    tally-equal f (λ y. member y xs) m i (λ y p q h. passes y (member-mem y xs h)) (e ∙ sym (tally-list m i xs d within))
