-- Records that get new numbers: where every link, the first and the last are the new numbers of what they were, the chain holds the list of new numbers.
use Prim.Native.Nat.{ℕ, ◌≤◌, ◌<◌}
use mathlib.Core.List.{List, [], ◌∷◌, map}
use mathlib.Core.Path.{◌≡◌, refl, sym, ap, ◌∙◌, subst}
use mathlib.Core.Logic.{inl, inr}
use native.Mathlib.Omega.{arith}
use native.Mathlib.Decide.{dec_lt}
use lib.ListN.{get_or}
use Rattle.chains.specs.declared.Chain.{Chain}
use Rattle.chains.specs.Chain.{link_at}
use Rattle.model.specs.Lists.{Mem, Distinct}
use Rattle.agreement_chains.specs.Chains.{Linked, last_from, Holds, Standing}

module _ (f : ℕ → ℕ) where
  pub last-map : (b : ℕ) (xs : List ℕ) → last_from (f b) (map f xs) ≡ f (last_from b xs)
  last-map b [] = refl
  last-map b (x ∷ xs) = last-map x xs

  -- a member of the list of new numbers is the new number of a member
  pub mem-map : (y : ℕ) (xs : List ℕ) → Mem y (map f xs) → (x : ℕ) × (Mem x xs) × (y ≡ f x)
  mem-map y [] m = absurd m
  mem-map y (x ∷ xs) (inl e) = (x, inl refl, e)
  mem-map y (x ∷ xs) (inr m) = let r = mem-map y xs m in (r.0, inr r.1, r.2)

  pub distinct-map : (xs : List ℕ) → ((y z : ℕ) → Mem y xs → Mem z xs → f y ≡ f z → y ≡ z) → Distinct xs → Distinct (map f xs)
  distinct-map [] inj d = tt
  distinct-map (x ∷ xs) inj d = (
    λ m. let r = mem-map (f x) xs m in d.0 (subst (λ (z : ℕ). Mem z xs) (sym (inj x r.0 (inl refl) (inr r.1) r.2)) r.1),
    distinct-map xs (λ y z a b. inj y z (inr a) (inr b)) d.1,
  )

  pub linked-map : (w w' : List ℕ) (c c' : Chain) → f 0 ≡ 0 → (b : ℕ) (xs : List ℕ)
      → ((y : ℕ) → Mem y (b ∷ xs) → get_or w' (link_at c' (f y)) 0 ≡ f (get_or w (link_at c y) 0)) → Linked w c b xs → Linked w' c' (f b) (map f xs)
  linked-map w w' c c' z b [] at l = at b (inl refl) ∙ ap f l ∙ z
  linked-map w w' c c' z b (x ∷ xs) at l = (at b (inl refl) ∙ ap f l.0, linked-map w w' c c' z x xs (λ y m. at y (inr m)) l.1)

  pub holds-renumbered : (w w' : List ℕ) (c c' : Chain) (xs : List ℕ) → Holds w c xs → f 0 ≡ 0
      → ((y : ℕ) → Mem y (0 ∷ xs) → get_or w' (link_at c' (f y)) 0 ≡ f (get_or w (link_at c y) 0))
      → get_or w' c'.last 0 ≡ f (get_or w c.last 0) → Holds w' c' (map f xs)
  holds-renumbered w w' c c' xs h z at end = record {
    chain = subst (λ (b : ℕ). Linked w' c' b (map f xs)) z (linked-map w w' c c' z 0 xs at h.chain);
    last = end ∙ ap f h.last ∙ sym (last-map 0 xs) ∙ ap (λ (b : ℕ). last_from b (map f xs)) z;
  }

  -- no two members get one number
  pub standing-renumbered : (n n' : ℕ) (xs : List ℕ) → Standing n xs → ((y : ℕ) → Mem y xs → (1 ≤ f y) × (f y ≤ n'))
      → ((y z : ℕ) → Mem y xs → Mem z xs → f y ≡ f z → y ≡ z) → Standing n' (map f xs)
  standing-renumbered n n' xs st range inj = record {
    within = λ y m. let r = mem-map y xs m in subst (λ (k : ℕ). (1 ≤ k) × (k ≤ n')) (sym r.2) (range r.0 r.1);
    once = distinct-map xs inj st.once;
  }

  -- rising numbers stay apart
  pub rising-apart : (xs : List ℕ) → ((y z : ℕ) → Mem y xs → Mem z xs → y < z → f y < f z) → (y z : ℕ) → Mem y xs → Mem z xs → f y ≡ f z → y ≡ z
  rising-apart xs up y z a b e = elim (dec_lt y z) [
    | yes l ↦ absurd (omega (arith, up y z a b l, e))
    | no n ↦ elim (dec_lt z y) [ yes l ↦ absurd (omega (arith, up z y b a l, e)) | no k ↦ omega (arith, n, k) ]
  ]
