-- A chain whose walk ends as the check asks holds a list of members, none twice: a record that came again would lead on for ever.
use Prim.Native.Nat.{ℕ, zero, suc, ◌+◌, ◌≤◌, ◌<◌}
use mathlib.Core.List.{List, [], ◌∷◌}
use mathlib.Core.Bool.{Bool, cond, true, false}
use mathlib.Core.Path.{◌≡◌, refl, sym, ap, ◌∙◌, subst}
use mathlib.Core.Logic.{inl, inr}
use native.Mathlib.Omega.{arith}
use borrow.Author.Tests.{eqb-true, eqb-false}
use lib.ListN.{get_or, length}
use lib.Dec.{eqb}
use Rattle.chains.specs.declared.Chain.{Chain}
use Rattle.chains.specs.Chain.{link_at, first_of, next_of}
use Rattle.form_dpc.specs.Queue.{chain_end, queued_at, queue_in}
use Rattle.form_chains.specs.Chain.{member_passes, chain_in, chain_size}
use Rattle.model.specs.Lists.{Mem, Distinct}
use Rattle.agreement_chains.specs.Chains.{Linked, last_from}
use Rattle.agreement_chains.proofs.Frames.{link-first}
use Rattle.agreement_form.specs.Decoded.{chain_from, chain_of}

-- ---- a chain leads to one list

linked-same : (w : List ℕ) (c : Chain) (b : ℕ) (xs ys : List ℕ) → Linked w c b xs → Linked w c b ys → ((z : ℕ) → Mem z xs → 1 ≤ z) → ((z : ℕ) → Mem z ys → 1 ≤ z) → length xs ≡ length ys
linked-same w c b [] [] p q f g = refl
linked-same w c b [] (y ∷ ys) p q f g = absurd (omega (arith, p, q.0, g y (inl refl)))
linked-same w c b (x ∷ xs) [] p q f g = absurd (omega (arith, q, p.0, f x (inl refl)))
linked-same w c b (x ∷ xs) (y ∷ ys) p q f g =
    let e : y ≡ x = sym q.0 ∙ p.0 in
    ap suc (linked-same w c x xs ys p.1 (subst (λ (z : ℕ). Linked w c z ys) e q.1) (λ z m. f z (inr m)) (λ z m. g z (inr m)))

-- what comes behind a member
pub record Behind (w : List ℕ) (c : Chain) (y : ℕ) (xs : List ℕ) : Type 0 where
  pub rest : List ℕ
  pub links : Linked w c y rest
  pub fewer : length rest < length xs
  pub among : (z : ℕ) → Mem z rest → Mem z xs

behind : (w : List ℕ) (c : Chain) (b : ℕ) (xs : List ℕ) (y : ℕ) → Linked w c b xs → Mem y xs → Behind w c y xs
behind w c b [] y l m = absurd m
behind w c b (x ∷ xs) y l (inl e) = record { rest = xs; links = subst (λ (z : ℕ). Linked w c z xs) (sym e) l.1; fewer = omega arith; among = λ z m. inr m }
behind w c b (x ∷ xs) y l (inr m) =
    let h = behind w c x xs y l.1 m in
    record { rest = h.rest; links = h.links; fewer = omega (arith, h.fewer); among = λ z k. inr (h.among z k) }

pub linked-distinct : (w : List ℕ) (c : Chain) (b : ℕ) (xs : List ℕ) → Linked w c b xs → ((z : ℕ) → Mem z xs → 1 ≤ z) → Distinct xs
linked-distinct w c b [] l f = tt
linked-distinct w c b (x ∷ xs) l f = (
  (λ m.
      let h = behind w c x xs x l.1 m in
      omega (arith, h.fewer, linked-same w c x xs h.rest l.1 h.links (λ z k. f z (inr k)) (λ z k. f z (inr (h.among z k))))),
  linked-distinct w c x xs l.1 (λ z k. f z (inr k)),
)

-- ---- walks

-- what a walk of the check that does not answer 0 says
pub record Walked (w : List ℕ) (c : Chain) (passes : ℕ → Bool) (b : ℕ) (xs : List ℕ) (n size : ℕ) : Type 0 where
  pub links : Linked w c b xs
  pub last : get_or w c.last 0 ≡ last_from b xs
  pub each-passes : (y : ℕ) → Mem y xs → (1 ≤ y) × (passes y ≡ true)
  pub counts : size ≡ n + length xs

module _ (w : List ℕ) (c : Chain) (passes : ℕ → Bool) (F : ℕ → ℕ → ℕ → ℕ → ℕ)
    (stop : (b i n : ℕ) → F zero b i n ≡ 0)
    (go_on : (k b i n : ℕ) → F (suc k) b i n ≡ cond (eqb i 0) (chain_end w c b n) (cond (passes i) (F k i (next_of w c i) (n + 1)) 0)) where
  walked : (k b i n : ℕ) → get_or w (link_at c b) 0 ≡ i → (F k b i n ≡ 0 → ⊥) → Walked w c passes b (chain_from w k c i) n (F k b i n)
  unfolding chain_from next_of chain_end
  walked zero b i n e h = absurd (h (stop b i n))
  walked (suc k) b i n e h =
      subst (Walked w c passes b (chain_from w (suc k) c i) n) (sym (go_on k b i n))
      (at-end (eqb i 0) refl (λ q. h (go_on k b i n ∙ q)) (λ r q. walked k i (next_of w c i) (n + 1) refl q))
    where
      next : Bool → ℕ
      next p = cond p (F k i (next_of w c i) (n + 1)) 0

      on_list : (p : Bool) → passes i ≡ p → (i ≡ 0 → ⊥) → (next p ≡ 0 → ⊥)
          → (p ≡ true → (F k i (next_of w c i) (n + 1) ≡ 0 → ⊥) → Walked w c passes i (chain_from w k c (next_of w c i)) (n + 1) (F k i (next_of w c i) (n + 1)))
          → Walked w c passes b (i ∷ chain_from w k c (next_of w c i)) n (next p)
      on_list false q z h ih = absurd (h refl)
      on_list true q z h ih =
          let r = ih refl h in
          record {
            links = (e, r.links);
            last = r.last;
            each-passes = λ y m. of-list y m;
            counts = r.counts ∙ (let u : n + 1 + length (chain_from w k c (next_of w c i)) ≡ n + suc (length (chain_from w k c (next_of w c i))) = omega arith in u);
          }
        where
          of-list : (y : ℕ) → Mem y (i ∷ chain_from w k c (next_of w c i)) → (1 ≤ y) × (passes y ≡ true)
          of-list y (inl u) = subst (λ (j : ℕ). (1 ≤ j) × (passes j ≡ true)) (sym u) (omega (arith, z), q)
          of-list y (inr m) = (ih refl h).each-passes y m

      ended : (t : Bool) → eqb (get_or w c.last 0) b ≡ t → (cond t n 0 ≡ 0 → ⊥) → i ≡ 0 → Walked w c passes b [] n (cond t n 0)
      ended false q h z = absurd (h refl)
      ended true q h z = record { links = e ∙ z; last = eqb-true (get_or w c.last 0) b q; each-passes = λ y m. absurd m; counts = (let u : n ≡ n + 0 = omega arith in u) }

      at-end : (t : Bool) → eqb i 0 ≡ t → (cond t (chain_end w c b n) (next (passes i)) ≡ 0 → ⊥)
          → (passes i ≡ true → (F k i (next_of w c i) (n + 1) ≡ 0 → ⊥) → Walked w c passes i (chain_from w k c (next_of w c i)) (n + 1) (F k i (next_of w c i) (n + 1)))
          → Walked w c passes b (cond t [] (i ∷ chain_from w k c (next_of w c i))) n (cond t (chain_end w c b n) (next (passes i)))
      at-end true q h ih = ended (eqb (get_or w c.last 0) b) refl h (eqb-true i 0 q)
      at-end false q h ih = on_list (passes i) refl (eqb-false i 0 q) h ih

  pub walk : (k : ℕ) → (F k 0 (first_of w c) 1 ≡ 0 → ⊥) → Walked w c passes 0 (chain_of w k c) 1 (F k 0 (first_of w c) 1)
  unfolding first_of
  walk k h = walked k 0 (first_of w c) 1 (ap (λ (p : ℕ). get_or w p 0) (link-first c)) h

module _ (w : List ℕ) (c : Chain) (passes : ℕ → Bool) (b n size : ℕ) (xs : List ℕ) (h : Walked w c passes b xs n size) where
  pub walked_once : Distinct xs
  walked_once = linked-distinct w c b xs h.links (λ z m. (h.each-passes z m).0)

-- ---- the two walks of the check

module _ (w : List ℕ) (c : Chain) where
  chain-stops : (state p b i n : ℕ) → chain_in zero w c state p b i n ≡ 0
  unfolding chain_in
  chain-stops state p b i n = refl

  chain-goes-on : (state p k b i n : ℕ) → chain_in (suc k) w c state p b i n
      ≡ cond (eqb i 0) (chain_end w c b n) (cond (member_passes w i state p) (chain_in k w c state p i (next_of w c i) (n + 1)) 0)
  unfolding chain_in
  chain-goes-on state p k b i n = refl

  pub chain-walk : (state p : ℕ) → (chain_size w c state p ≡ 0 → ⊥) → Walked w c (λ y. member_passes w y state p) 0 (chain_of w 4096 c) 1 (chain_size w c state p)
  unfolding chain_size
  chain-walk state p h = walk w c (λ y. member_passes w y state p) (λ k b i n. chain_in k w c state p b i n) (chain-stops state p) (chain-goes-on state p) 4096 h

  queue-stops : (b i n : ℕ) → queue_in zero w c b i n ≡ 0
  unfolding queue_in
  queue-stops b i n = refl

  queue-goes-on : (k b i n : ℕ) → queue_in (suc k) w c b i n ≡ cond (eqb i 0) (chain_end w c b n) (cond (queued_at w i) (queue_in k w c i (next_of w c i) (n + 1)) 0)
  unfolding queue_in
  queue-goes-on k b i n = refl

  pub queue-walk : (k : ℕ) → (queue_in k w c 0 (first_of w c) 1 ≡ 0 → ⊥) → Walked w c (queued_at w) 0 (chain_of w k c) 1 (queue_in k w c 0 (first_of w c) 1)
  queue-walk k h = walk w c (queued_at w) (λ k b i n. queue_in k w c b i n) queue-stops queue-goes-on k h
