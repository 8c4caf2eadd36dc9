-- What the operations on a chain do to the list that it holds.
use Prim.Native.Nat.{ℕ, ◌≤◌, ◌<◌}
use mathlib.Core.List.{List, [], ◌∷◌, ◌++◌}
use mathlib.Core.Bool.{Bool, true, false, cond, not}
use mathlib.Core.Path.{◌≡◌, refl, sym, ap, ◌∙◌, subst}
use mathlib.Core.Logic.{inl, inr, ⊎_elim}
use native.Mathlib.Omega.{arith}
use native.Mathlib.Decide.{ℕ_discrete}
use borrow.Author.Tests.{eq-eqb, ne_eqb}
use lib.Dec.{eqb}
use lib.ListN.{get_or, set, length, length-set}
use Rattle.chains.specs.declared.Chain.{Chain}
use Rattle.chains.specs.Chain.{link_at, first_of, next_of, pushed, unlinked, removed, find_before, before_in}
use Rattle.model.specs.Lists.{Mem, keep, without}
use Rattle.model.proofs.ListLaws.{mem-keep, mem-last, append-mem-right, distinct-keep, distinct-last}
use Rattle.agreement_chains.specs.Chains.{last_from, Holds, Standing, Same, Own, Apart}
use Rattle.agreement_chains.proofs.Links.{last_mem, last_snoc, linked-snoc, prior_to, prior-mem, prior-split, found_before, without-split, not-before, linked-removed, last_end, last-kept}
use Rattle.agreement_chains.proofs.Frames.{read-other, read_same, link-first, in-range, distinct-zero, standing-length, unlinked-other, unlinked-outside}

-- ---- who stands in the list

pub standing-last : (n : ℕ) (xs : List ℕ) (id : ℕ) → Standing n xs → 1 ≤ id → id ≤ n → (Mem id xs → ⊥) → Standing n (xs ++ (id ∷ []))
standing-last n xs id st one le absent = record {
  within = λ y m. ⊎_elim (λ (a : Mem y xs). st.within y a) (λ (e : y ≡ id). (omega (arith, e), omega (arith, e))) (mem-last y xs id m);
  once = distinct-last xs id st.once absent;
}

pub standing-keep : (n : ℕ) (f : ℕ → Bool) (xs : List ℕ) → Standing n xs → Standing n (keep f xs)
standing-keep n f xs st = record { within = λ y m. st.within y (mem-keep f y xs m).0; once = distinct-keep f xs st.once }

pub standing-out : (n : ℕ) (xs : List ℕ) (id : ℕ) → Standing n xs → Standing n (without id xs)
standing-out n xs id = standing-keep n (λ x. not (eqb x id)) xs

-- ---- one record more, put last

module _ (n : ℕ) (w : List ℕ) (c : Chain) (xs : List ℕ) (apart : Apart c n (length w)) (st : Standing n xs) (h : Holds w c xs)
    (id : ℕ) (one : 1 ≤ id) (le : id ≤ n) (absent : Mem id xs → ⊥) where
  end : ℕ
  end = last_from 0 xs

  end_known : end ≤ n
  unfolding end
  end_known = in-range n xs st end (last_mem 0 xs)

  id-apart : (y : ℕ) → Mem y (0 ∷ xs) → y ≡ id → ⊥
  id-apart y (inl e) z = omega arith
  id-apart y (inr m) z = absent (subst (λ (x : ℕ). Mem x xs) z m)

  pushed-is : pushed w c id ≡ set (set (set w (link_at c id) 0) (link_at c end) id) c.last id
  unfolding pushed end
  pushed-is = ap (λ (t : ℕ). set (set (set w (link_at c id) 0) (link_at c t) id) c.last id) h.last

  other-link : (y : ℕ) → Mem y (0 ∷ xs) → (y ≡ end → ⊥) → get_or (pushed w c id) (link_at c y) 0 ≡ get_or w (link_at c y) 0
  other-link y m ne =
      let small : y ≤ n = in-range n xs st y m in
      let n₀ : link_at c y ≡ link_at c id → ⊥ = λ e. id-apart y m (apart.links y id small le e) in
      let n₁ : link_at c y ≡ link_at c end → ⊥ = λ e. ne (apart.links y end small end_known e) in
      let n₂ : link_at c y ≡ c.last → ⊥ = apart.not_last y small in
      rw pushed-is (simp read-other)

  end-link : get_or (pushed w c id) (link_at c end) 0 ≡ id
  end-link =
      let n₂ : link_at c end ≡ c.last → ⊥ = apart.not_last end end_known in
      let inside : link_at c end < length (set w (link_at c id) 0) =
      subst (λ (k : ℕ). link_at c end < k) (sym (length-set w (link_at c id) 0)) (apart.link_in end end_known) in
      rw pushed-is (simp (read-other, read_same))

  own-link : get_or (pushed w c id) (link_at c id) 0 ≡ 0
  unfolding end
  own-link =
      let n₁ : link_at c id ≡ link_at c end → ⊥ = λ e. id-apart end (last_mem 0 xs) (apart.links end id end_known le (sym e)) in
      let n₂ : link_at c id ≡ c.last → ⊥ = apart.not_last id le in
      let inside : link_at c id < length w = apart.link_in id le in
      rw pushed-is (simp (read-other, read_same))

  at_last : get_or (pushed w c id) c.last 0 ≡ id
  at_last =
      let inside : c.last < length (set (set w (link_at c id) 0) (link_at c end) id) =
      subst (λ (k : ℕ). c.last < k) (sym (length-set (set w (link_at c id) 0) (link_at c end) id ∙ length-set w (link_at c id) 0)) apart.last_in in
      rw pushed-is (simp read_same)

  pub holds_pushed : Holds (pushed w c id) c (xs ++ (id ∷ []))
  unfolding end
  holds_pushed = record {
    chain = linked-snoc w (pushed w c id) c 0 xs id other-link end-link own-link (distinct-zero n xs st) h.chain;
    last = at_last ∙ sym (last_snoc 0 xs id);
  }

-- ---- one record taken out

module _ (n : ℕ) (w : List ℕ) (c : Chain) (xs : List ℕ) (apart : Apart c n (length w)) (st : Standing n xs) (h : Holds w c xs) (id : ℕ) (present : Mem id xs) where
  before : ℕ
  before = prior_to 0 xs id

  after : ℕ
  after = get_or w (link_at c id) 0

  before-in : Mem before (0 ∷ xs)
  unfolding before
  before-in = prior-mem 0 xs id

  before-known : before ≤ n
  before-known = in-range n xs st before before-in

  joined : List ℕ
  joined = set w (link_at c before) after

  out : List ℕ
  out = unlinked w c before id

  unlinked-is : out ≡ cond (eqb after 0) (set joined c.last before) joined
  unfolding out unlinked next_of joined after
  unlinked-is = refl

  kept-link : (y : ℕ) → Mem y (0 ∷ xs) → (y ≡ before → ⊥) → get_or out (link_at c y) 0 ≡ get_or w (link_at c y) 0
  unfolding out
  kept-link y m ne =
      let small : y ≤ n = in-range n xs st y m in
      unlinked-other w c before id (link_at c y) (λ e. ne (apart.links y before small before-known e)) (apart.not_last y small)

  joined-link : get_or joined (link_at c before) 0 ≡ after
  unfolding joined
  joined-link = read_same w (link_at c before) after (apart.link_in before before-known)

  cut-link : get_or (set joined c.last before) (link_at c before) 0 ≡ after
  cut-link = read-other joined c.last (link_at c before) before (apart.not_last before before-known) ∙ joined-link

  new-link : get_or out (link_at c before) 0 ≡ after
  new-link = ap (λ (v : List ℕ). get_or v (link_at c before) 0) unlinked-is ∙ go (eqb after 0)
    where
      go : (t : Bool) → get_or (cond t (set joined c.last before) joined) (link_at c before) 0 ≡ after
      go true = cut-link
      go false = joined-link

  last-in-joined : c.last < length joined
  unfolding joined
  last-in-joined = subst (λ (k : ℕ). c.last < k) (sym (length-set w (link_at c before) after)) apart.last_in

  joined-last : get_or joined c.last 0 ≡ get_or w c.last 0
  unfolding joined
  joined-last = read-other w (link_at c before) c.last after (λ e. apart.not_last before before-known (sym e))

  new-last : get_or out c.last 0 ≡ last_from 0 (without id xs)
  unfolding before after
  new-last = ap (λ (v : List ℕ). get_or v c.last 0) unlinked-is ∙ go (ℕ_discrete after 0)
    where
      go : Dec (after ≡ 0) → get_or (cond (eqb after 0) (set joined c.last before) joined) c.last 0 ≡ last_from 0 (without id xs)
      go (yes z) =
          ap (λ (t : Bool). get_or (cond t (set joined c.last before) joined) c.last 0) (eq-eqb after 0 z)
          ∙ read_same joined c.last before last-in-joined
          ∙ sym (last_end w c 0 xs id h.chain st.once (λ y m. (st.within y m).0) present z)
      go (no z) =
          ap (λ (t : Bool). get_or (cond t (set joined c.last before) joined) c.last 0) (ne_eqb after 0 z)
          ∙ joined-last ∙ h.last
          ∙ sym (last-kept w c 0 xs id h.chain st.once present z)

  holds-out : Holds out c (without id xs)
  unfolding before after
  holds-out = record {
    chain = linked-removed w out c 0 xs id h.chain (distinct-zero n xs st) present kept-link new-link;
    last = new-last;
  }

  -- taken out where the one before is known
  pub holds-unlinked : (b : ℕ) → b ≡ prior_to 0 xs id → Holds (unlinked w c b id) c (without id xs)
  unfolding out before
  holds-unlinked b e = subst (λ (z : ℕ). Holds (unlinked w c z id) c (without id xs)) (sym e) holds-out

  pub found : find_before w c id ≡ prior_to 0 xs id
  unfolding find_before first_of
  found =
      ap (λ (i : ℕ). before_in 4096 w c 0 (get_or w i 0) id) (sym (link-first c))
      ∙ found_before 4096 w c 0 xs id h.chain present (omega (arith, apart.few, standing-length n xs st))

  pub holds-removed : Holds (removed w c id) c (without id xs)
  unfolding removed
  holds-removed = holds-unlinked (find_before w c id) found

  -- what it writes
  pub removed-outside : (R : ℕ → Type 0) → ((j : ℕ) → Own c xs j → R j → ⊥) → Same R w (removed w c id)
  unfolding removed
  removed-outside R out =
      unlinked-outside R w c xs (find_before w c id) id (subst (λ (z : ℕ). Mem z (0 ∷ xs)) (sym found) (prior-mem 0 xs id)) out

-- taken out from between `ys` and `zs`; the first where `ys` is empty
pub holds-cut : (n : ℕ) (w : List ℕ) (c : Chain) (ys : List ℕ) (id : ℕ) (zs : List ℕ) → Apart c n (length w) → Standing n (ys ++ (id ∷ zs))
    → Holds w c (ys ++ (id ∷ zs)) → Holds (unlinked w c (last_from 0 ys) id) c (ys ++ zs)
holds-cut n w c ys id zs apart st h =
    subst (Holds (unlinked w c (last_from 0 ys) id) c) (without-split ys id zs st.once)
    (holds-unlinked n w c (ys ++ (id ∷ zs)) apart st h id (append-mem-right id ys (id ∷ zs) (inl refl)) (last_from 0 ys)
    (sym (prior-split 0 ys id zs (not-before ys id zs st.once))))
