-- Walks along a chain: a function that goes from record to record with enough fuel goes along the list that the chain holds.
use Prim.Native.Nat.{ℕ, zero, suc, ◌≤◌, ◌<◌}
use mathlib.Core.List.{List, [], ◌∷◌}
use mathlib.Core.Bool.{Bool, cond}
use mathlib.Core.Path.{◌≡◌, refl, sym, ap, ◌∙◌}
use mathlib.Core.Logic.{inl, inr}
use native.Mathlib.Omega.{arith}
use borrow.Author.Tests.{ne_eqb}
use lib.ListN.{get_or, length}
use Rattle.chains.specs.declared.Chain.{Chain}
use Rattle.chains.specs.Chain.{link_at, first_of, next_of}
use Rattle.dpc_reads.specs.Reads.{stepped}
use Rattle.model.specs.Lists.{Mem}
use Rattle.agreement_chains.specs.Chains.{Linked, Holds, Standing, along, back}
use Rattle.agreement_chains.proofs.Frames.{link-first, standing-length}

-- ---- `k` steps from the first record on

stepped-linked : (k : ℕ) (w : List ℕ) (c : Chain) (b : ℕ) (xs : List ℕ) → Linked w c b xs → ((y : ℕ) → Mem y xs → 1 ≤ y)
    → stepped k w c (get_or w (link_at c b) 0) ≡ get_or xs k 0
unfolding stepped next_of
stepped-linked zero w c b [] l pos = l
stepped-linked zero w c b (x ∷ xs) l pos = l.0
stepped-linked (suc k) w c b [] l pos = ap (stepped (suc k) w c) l
stepped-linked (suc k) w c b (x ∷ xs) l pos =
    ap (stepped (suc k) w c) l.0
    ∙ ap (λ (t : Bool). cond t 0 (stepped k w c (get_or w (link_at c x) 0))) (ne_eqb x 0 (λ e. omega (arith, e, pos x (inl refl))))
    ∙ stepped-linked k w c x xs l.1 (λ y m. pos y (inr m))

-- the record at position `k`; 0 past the last
pub stepped-is : (n k : ℕ) (w : List ℕ) (c : Chain) (xs : List ℕ) → Standing n xs → Holds w c xs → stepped k w c (first_of w c) ≡ get_or xs k 0
unfolding first_of
stepped-is n k w c xs st h =
    ap (λ (i : ℕ). stepped k w c (get_or w i 0)) (sym (link-first c)) ∙ stepped-linked k w c 0 xs h.chain (λ y m. (st.within y m).0)

-- ---- walks that carry something along, or put something together on the way back

module _ {A B : Type 0} (w : List ℕ) (c : Chain) (F : ℕ → A → ℕ → B) (step : A → ℕ → A) (end : A → B)
    (done : (k : ℕ) (a : A) → F (suc k) a 0 ≡ end a)
    (more : (k : ℕ) (a : A) (y : ℕ) → 1 ≤ y → F (suc k) a y ≡ F k (step a y) (next_of w c y)) where
  -- the fuel is more than the list is long
  pub along-linked : (k : ℕ) (a : A) (b : ℕ) (xs : List ℕ) → Linked w c b xs → ((y : ℕ) → Mem y xs → 1 ≤ y) → length xs < k
      → F k a (get_or w (link_at c b) 0) ≡ end (along step a xs)
  unfolding next_of
  along-linked zero a b xs l pos h = absurd (omega arith)
  along-linked (suc k) a b [] l pos h = ap (F (suc k) a) l ∙ done k a
  along-linked (suc k) a b (x ∷ xs) l pos h =
      ap (F (suc k) a) l.0 ∙ more k a x (pos x (inl refl)) ∙ along-linked k (step a x) x xs l.1 (λ y m. pos y (inr m)) (omega arith)

  pub along-is : (n k : ℕ) (a : A) (xs : List ℕ) → Standing n xs → Holds w c xs → n < k → F k a (first_of w c) ≡ end (along step a xs)
  unfolding first_of
  along-is n k a xs st h le =
      ap (λ (i : ℕ). F k a (get_or w i 0)) (sym (link-first c))
      ∙ along-linked k a 0 xs h.chain (λ y m. (st.within y m).0) (omega (arith, standing-length n xs st))

module _ {B : Type 0} (w : List ℕ) (c : Chain) (F : ℕ → ℕ → B) (join : ℕ → B → B) (end : B)
    (done : (k : ℕ) → F (suc k) 0 ≡ end)
    (more : (k : ℕ) (y : ℕ) → 1 ≤ y → F (suc k) y ≡ join y (F k (next_of w c y))) where
  pub back-linked : (k : ℕ) (b : ℕ) (xs : List ℕ) → Linked w c b xs → ((y : ℕ) → Mem y xs → 1 ≤ y) → length xs < k
      → F k (get_or w (link_at c b) 0) ≡ back join end xs
  unfolding next_of
  back-linked zero b xs l pos h = absurd (omega arith)
  back-linked (suc k) b [] l pos h = ap (F (suc k)) l ∙ done k
  back-linked (suc k) b (x ∷ xs) l pos h =
      ap (F (suc k)) l.0 ∙ more k x (pos x (inl refl)) ∙ ap (join x) (back-linked k x xs l.1 (λ y m. pos y (inr m)) (omega arith))

  pub back_is : (n k : ℕ) (xs : List ℕ) → Standing n xs → Holds w c xs → n < k → F k (first_of w c) ≡ back join end xs
  unfolding first_of
  back_is n k xs st h le =
      ap (λ (i : ℕ). F k (get_or w i 0)) (sym (link-first c))
      ∙ back-linked k 0 xs h.chain (λ y m. (st.within y m).0) (omega (arith, standing-length n xs st))
