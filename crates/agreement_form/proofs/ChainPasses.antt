-- The walk of the check along a chain that holds a list of members counts them.
use Prim.Native.Nat.{ℕ, zero, suc, ◌+◌, ◌<◌, ◌≤◌}
use mathlib.Core.List.{List, [], ◌∷◌}
use mathlib.Core.Bool.{Bool, cond, true}
use mathlib.Core.Path.{◌≡◌, refl, sym, ap, ◌∙◌}
use mathlib.Core.Logic.{inl, inr}
use native.Mathlib.Omega.{arith}
use borrow.Author.Tests.{eq-eqb, ne_eqb}
use lib.ListN.{get_or, length}
use Rattle.chains.specs.declared.Chain.{Chain}
use Rattle.chains.specs.Chain.{link_at, first_of, next_of}
use Rattle.form_dpc.specs.Queue.{chain_end, queued_at, queue_in}
use Rattle.form_chains.specs.Chain.{member_passes, chain_in, chain_size}
use Rattle.model.specs.Lists.{Mem}
use Rattle.agreement_chains.specs.Chains.{Linked, last_from, Holds}
use Rattle.agreement_chains.proofs.Frames.{link-first}

end-counts : (w : List ℕ) (c : Chain) (b n : ℕ) → get_or w c.last 0 ≡ b → chain_end w c b n ≡ n
unfolding chain_end
end-counts w c b n e = ap (λ (t : Bool). cond t n 0) (eq-eqb (get_or w c.last 0) b e)

module _ (w : List ℕ) (c : Chain) where
  -- a chain of threads
  chain-counts : (state p k b n : ℕ) (xs : List ℕ) → Linked w c b xs → get_or w c.last 0 ≡ last_from b xs
      → ((y : ℕ) → Mem y xs → (1 ≤ y) × (member_passes w y state p ≡ true)) → length xs < k
      → chain_in k w c state p b (get_or w (link_at c b) 0) n ≡ n + length xs
  unfolding chain_in next_of
  chain-counts state p zero b n xs l e h few = absurd (omega arith)
  chain-counts state p (suc k) b n [] l e h few =
      ap (λ (i : ℕ). chain_in (suc k) w c state p b i n) l ∙ end-counts w c b n e ∙ (let z : n ≡ n + 0 = omega arith in z)
  chain-counts state p (suc k) b n (x ∷ xs) l e h few =
      ap (λ (i : ℕ). chain_in (suc k) w c state p b i n) l.0
      ∙ ap (λ (t : Bool). cond t (chain_end w c b n) (cond (member_passes w x state p) (chain_in k w c state p x (next_of w c x) (n + 1)) 0)) (ne_eqb x 0 (λ q. omega (arith, q, (h x (inl refl)).0)))
      ∙ ap (λ (t : Bool). cond t (chain_in k w c state p x (next_of w c x) (n + 1)) 0) (h x (inl refl)).1
      ∙ chain-counts state p k x (n + 1) xs l.1 e (λ y m. h y (inr m)) (omega arith)
      ∙ (let z : n + 1 + length xs ≡ n + suc (length xs) = omega arith in z)

  pub size_is : (state p : ℕ) (xs : List ℕ) → Holds w c xs → ((y : ℕ) → Mem y xs → (1 ≤ y) × (member_passes w y state p ≡ true)) → length xs < 4096
      → chain_size w c state p ≡ length xs + 1
  unfolding chain_size first_of
  size_is state p xs hold h few =
      ap (λ (i : ℕ). chain_in 4096 w c state p 0 (get_or w i 0) 1) (sym (link-first c))
      ∙ chain-counts state p 4096 0 1 xs hold.chain hold.last h few
      ∙ (let z : 1 + length xs ≡ length xs + 1 = omega arith in z)

  -- the queue of DPCs
  queue-counts : (k b n : ℕ) (xs : List ℕ) → Linked w c b xs → get_or w c.last 0 ≡ last_from b xs
      → ((y : ℕ) → Mem y xs → (1 ≤ y) × (queued_at w y ≡ true)) → length xs < k
      → queue_in k w c b (get_or w (link_at c b) 0) n ≡ n + length xs
  unfolding queue_in next_of
  queue-counts zero b n xs l e h few = absurd (omega arith)
  queue-counts (suc k) b n [] l e h few =
      ap (λ (i : ℕ). queue_in (suc k) w c b i n) l ∙ end-counts w c b n e ∙ (let z : n ≡ n + 0 = omega arith in z)
  queue-counts (suc k) b n (x ∷ xs) l e h few =
      ap (λ (i : ℕ). queue_in (suc k) w c b i n) l.0
      ∙ ap (λ (t : Bool). cond t (chain_end w c b n) (cond (queued_at w x) (queue_in k w c x (next_of w c x) (n + 1)) 0)) (ne_eqb x 0 (λ q. omega (arith, q, (h x (inl refl)).0)))
      ∙ ap (λ (t : Bool). cond t (queue_in k w c x (next_of w c x) (n + 1)) 0) (h x (inl refl)).1
      ∙ queue-counts k x (n + 1) xs l.1 e (λ y m. h y (inr m)) (omega arith)
      ∙ (let z : n + 1 + length xs ≡ n + suc (length xs) = omega arith in z)

  pub queue-size-is : (k : ℕ) (xs : List ℕ) → Holds w c xs → ((y : ℕ) → Mem y xs → (1 ≤ y) × (queued_at w y ≡ true)) → length xs < k
      → queue_in k w c 0 (first_of w c) 1 ≡ length xs + 1
  unfolding first_of
  queue-size-is k xs hold h few =
      ap (λ (i : ℕ). queue_in k w c 0 (get_or w i 0) 1) (sym (link-first c))
      ∙ queue-counts k 0 1 xs hold.chain hold.last h few
      ∙ (let z : 1 + length xs ≡ length xs + 1 = omega arith in z)
