-- A chain depends on its own places alone, and the operations on a chain write its own places alone.
use Prim.Native.Nat.{ℕ, ◌+◌, ◌*◌, ◌≤◌, ◌<◌}
use mathlib.Core.List.{List, [], ◌∷◌}
use mathlib.Core.Bool.{Bool, true, false, cond}
use mathlib.Core.Path.{◌≡◌, refl, sym, ap, ◌∙◌, subst}
use mathlib.Core.Logic.{inl, inr}
use native.Mathlib.Omega.{arith}
use borrow.Author.Tests.{ne_eqb, le-leb}
use lib.Dec.{eqb}
use lib.ListN.{get_or, set, length, length-set}
use lib.Seq.{get_or-set_same, get_or-set_other}
use Rattle.chains.specs.declared.Chain.{Chain}
use Rattle.chains.specs.Chain.{link_at, first_of, next_of, pushed, unlinked, removed, find_before}
use Rattle.model.specs.Lists.{Mem, Distinct, first}
use Rattle.agreement_chains.specs.Chains.{last_from, Holds, Standing, Same, Own, Places}
use Rattle.agreement_chains.proofs.Links.{relink, last_mem, linked-first, length-bound}

pub read-other : (w : List ℕ) (i j v : ℕ) → (j ≡ i → ⊥) → get_or (set w i v) j 0 ≡ get_or w j 0
read-other w i j v n = get_or-set_other w i j v 0 n

pub read_same : (w : List ℕ) (i v : ℕ) → i < length w → get_or (set w i v) i 0 ≡ v
read_same w i v h = get_or-set_same w i v 0 h

-- a store outside a region
pub set-outside : (R : ℕ → Type 0) (w : List ℕ) (j v : ℕ) → (R j → ⊥) → Same R w (set w j v)
set-outside R w j v n i r = read-other w j i v (λ e. n (subst R e r))

pub same_then : (R : ℕ → Type 0) (w w' w'' : List ℕ) → Same R w w' → Same R w' w'' → Same R w w''
same_then R w w' w'' a b j r = b j r ∙ a j r

-- ---- where links stand

pub link-first : (c : Chain) → link_at c 0 ≡ c.first
unfolding link_at
link-first c = refl

pub link-of : (c : Chain) (y : ℕ) → 1 ≤ y → y ≤ 4096 → link_at c y ≡ c.link + c.stride * y
unfolding link_at
link-of c y one few = simp (ne_eqb y 0 (λ e. omega (arith, e)), le-leb y 4096 few)

-- ---- numbers of 1 to `n`, none twice

module _ (n : ℕ) (xs : List ℕ) (st : Standing n xs) where
  pub in-range : (y : ℕ) → Mem y (0 ∷ xs) → y ≤ n
  in-range y (inl e) = omega arith
  in-range y (inr m) = (st.within y m).1

  pub distinct-zero : Distinct (0 ∷ xs)
  distinct-zero = (λ m. omega (arith, (st.within 0 m).0), st.once)

  pub standing-length : length xs ≤ n
  standing-length = length-bound n xs st.once st.within

  -- the places of a chain that holds them are among those of the records 1 to `n`
  pub own-place : (c : Chain) (j : ℕ) → Own c xs j → Places c n j
  own-place c j (inl e) = inl e
  own-place c j (inr (y, m, e)) = inr (y, in-range y m, e)

-- ---- what a chain that holds a list says

pub holds-none : (w : List ℕ) (c : Chain) → get_or w c.first 0 ≡ 0 → get_or w c.last 0 ≡ 0 → Holds w c []
holds-none w c a b = record { chain = ap (λ (i : ℕ). get_or w i 0) (link-first c) ∙ a; last = b }

module _ (w : List ℕ) (c : Chain) (xs : List ℕ) (h : Holds w c xs) where
  pub first-is : first_of w c ≡ first xs
  unfolding first_of
  first-is = ap (λ (i : ℕ). get_or w i 0) (sym (link-first c)) ∙ linked-first w c 0 xs h.chain

  -- it depends on its own places alone
  pub holds-depends : (w' : List ℕ) → Same (Own c xs) w w' → Holds w' c xs
  holds-depends w' same = record {
    chain = relink w w' c 0 0 xs (same (link_at c 0) (inr (0, inl refl, refl))) (λ y m. same (link_at c y) (inr (y, inr m, refl))) h.chain;
    last = same c.last (inl refl) ∙ h.last;
  }

-- ---- the operations keep the number of words

pub length-pushed : (w : List ℕ) (c : Chain) (id : ℕ) → length (pushed w c id) ≡ length w
unfolding pushed
length-pushed w c id = simp length-set

pub length-unlinked : (w : List ℕ) (c : Chain) (before id : ℕ) → length (unlinked w c before id) ≡ length w
unfolding unlinked next_of
length-unlinked w c before id = go (eqb (get_or w (link_at c id) 0) 0)
  where
    go : (t : Bool) → length (cond t (set (set w (link_at c before) (get_or w (link_at c id) 0)) c.last before) (set w (link_at c before) (get_or w (link_at c id) 0))) ≡ length w
    go true = simp length-set
    go false = simp length-set

pub length_removed : (w : List ℕ) (c : Chain) (id : ℕ) → length (removed w c id) ≡ length w
unfolding removed
length_removed w c id = length-unlinked w c (find_before w c id) id

-- ---- the operations, read elsewhere

pub pushed-other : (w : List ℕ) (c : Chain) (id j : ℕ) → (j ≡ link_at c id → ⊥) → (j ≡ link_at c (get_or w c.last 0) → ⊥) → (j ≡ c.last → ⊥)
    → get_or (pushed w c id) j 0 ≡ get_or w j 0
unfolding pushed
pushed-other w c id j a b d = simp read-other

pub unlinked-other : (w : List ℕ) (c : Chain) (before id j : ℕ) → (j ≡ link_at c before → ⊥) → (j ≡ c.last → ⊥) → get_or (unlinked w c before id) j 0 ≡ get_or w j 0
unfolding unlinked next_of
unlinked-other w c before id j a b = go (eqb (get_or w (link_at c id) 0) 0)
  where
    go : (t : Bool) → get_or (cond t (set (set w (link_at c before) (get_or w (link_at c id) 0)) c.last before) (set w (link_at c before) (get_or w (link_at c id) 0))) j 0 ≡ get_or w j 0
    go true = simp read-other
    go false = simp read-other

-- ---- the operations write their own places alone

module _ (R : ℕ → Type 0) (w : List ℕ) (c : Chain) (xs : List ℕ) where
  pub pushed-outside : Holds w c xs → (id : ℕ) → ((j : ℕ) → Own c (id ∷ xs) j → R j → ⊥) → Same R w (pushed w c id)
  pushed-outside h id out j r =
      pushed-other w c id j (λ e. out j (inr (id, inr (inl refl), e)) r)
      (λ e. out j (inr (last_from 0 xs, more (last_from 0 xs) (last_mem 0 xs), e ∙ ap (link_at c) h.last)) r) (λ e. out j (inl e) r)
    where
      more : (y : ℕ) → Mem y (0 ∷ xs) → Mem y (0 ∷ id ∷ xs)
      more y (inl e) = inl e
      more y (inr m) = inr (inr m)

  pub unlinked-outside : (before id : ℕ) → Mem before (0 ∷ xs) → ((j : ℕ) → Own c xs j → R j → ⊥) → Same R w (unlinked w c before id)
  unlinked-outside before id m out j r =
      unlinked-other w c before id j (λ e. out j (inr (before, m, e)) r) (λ e. out j (inl e) r)
