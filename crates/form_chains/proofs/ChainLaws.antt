-- The laws of the walks of the chains, as the code counts: the end, the stop, and one step; and the bounds that its sums need.
use Prim.Native.Nat.{ℕ, zero, suc, ◌+◌, ◌-◌, ◌≤◌, ◌<◌}
use native.Mathlib.Omega.{arith}
use mathlib.Core.List.{List}
use mathlib.Core.Bool.{Bool, cond, true, false}
use mathlib.Core.Path.{◌≡◌, refl, sym}
use Rattle.std.specs.Prelude.{Some, None}
use Rattle.form_dpc.proofs.FormDpcLaws.{counted_more}
use lib.ListN.{get_or}
use lib.Dec.{eqb}
use borrow.Author.Tests.{eq-eqb, ne_eqb, le-leb, lt-leb}
use Rattle.chains.specs.declared.Chain.{Chain}
use Rattle.chains.specs.Chain.{first_of, next_of}
use Rattle.chains.specs.Ready.{ready_chain, waiters_chain}
use Rattle.form_dpc.specs.Queue.{chain_end, counted}
use Rattle.form_chains.specs.Chain.{sequence_at, sequences_in, member_passes, chain_in, chain_size, bit_passes, queue_size, queues_in}

less_one : (k : ℕ) → suc k - 1 ≡ k
less_one k = omega arith

-- ---- the waiters' sequences

pub sequences-none : (k : ℕ) (w : List ℕ) (at : ℕ) → k ≤ 0 → sequences_in k w at ≡ false
unfolding sequences_in
sequences-none zero w at h = refl
sequences-none (suc k) w at h = absurd (omega arith)

pub sequences-end : (k : ℕ) (w : List ℕ) (at : ℕ) → 0 < k → at ≡ 0 → sequences_in k w at ≡ true
unfolding sequences_in
sequences-end zero w at h e = absurd (omega arith)
sequences-end (suc k) w at h e = simp (eq-eqb _ _ e)

pub sequences-stop : (k : ℕ) (w : List ℕ) (at : ℕ) → 0 < k → (at ≡ 0 → ⊥) → sequence_at w (next_of w waiters_chain at) ≤ sequence_at w at
    → sequences_in k w at ≡ false
unfolding sequences_in
sequences-stop zero w at h n l = absurd (omega arith)
sequences-stop (suc k) w at h n l = simp (ne_eqb _ _ n, le-leb _ _ l)

pub sequences-more : (k : ℕ) (w : List ℕ) (at : ℕ) → 0 < k → (at ≡ 0 → ⊥) → sequence_at w at < sequence_at w (next_of w waiters_chain at)
    → sequences_in k w at ≡ sequences_in (k - 1) w (next_of w waiters_chain at)
unfolding sequences_in
sequences-more zero w at h n l = absurd (omega arith)
sequences-more (suc k) w at h n l = simp (ne_eqb _ _ n, lt-leb _ _ l, less_one k)

-- ---- chains

pub chain-none : (k : ℕ) (w : List ℕ) (c : Chain) (state p before at n : ℕ) → k ≤ 0 → chain_in k w c state p before at n ≡ 0
unfolding chain_in
chain-none zero w c state p before at n h = refl
chain-none (suc k) w c state p before at n h = absurd (omega arith)

pub chain-ends : (k : ℕ) (w : List ℕ) (c : Chain) (state p before at n : ℕ) → 0 < k → at ≡ 0
    → chain_in k w c state p before at n ≡ chain_end w c before n
unfolding chain_in
chain-ends zero w c state p before at n h e = absurd (omega arith)
chain-ends (suc k) w c state p before at n h e = simp (eq-eqb _ _ e)

pub chain-stop : (k : ℕ) (w : List ℕ) (c : Chain) (state p before at n : ℕ) → 0 < k → (at ≡ 0 → ⊥) → member_passes w at state p ≡ false
    → chain_in k w c state p before at n ≡ 0
unfolding chain_in
chain-stop zero w c state p before at n h ne e = absurd (omega arith)
chain-stop (suc k) w c state p before at n h ne e = simp (ne_eqb _ _ ne, e)

pub chain_more : (k : ℕ) (w : List ℕ) (c : Chain) (state p before at n : ℕ) → 0 < k → (at ≡ 0 → ⊥) → member_passes w at state p ≡ true
    → chain_in k w c state p before at n ≡ chain_in (k - 1) w c state p at (next_of w c at) (n + 1)
unfolding chain_in
chain_more zero w c state p before at n h ne e = absurd (omega arith)
chain_more (suc k) w c state p before at n h ne e = simp (ne_eqb _ _ ne, e, less_one k)

chain-small : (k : ℕ) (w : List ℕ) (c : Chain) (state p before at n : ℕ) → chain_in k w c state p before at n ≤ n + k
unfolding chain_in chain_end
chain-small zero w c state p before at n = omega arith
chain-small (suc k) w c state p before at n =
    go (eqb at 0) (eqb (get_or w c.last 0) before) (member_passes w at state p) (chain-small k w c state p at (next_of w c at) (n + 1))
  where
    go : (x y z : Bool) → chain_in k w c state p at (next_of w c at) (n + 1) ≤ n + 1 + k
        → cond x (cond y n 0) (cond z (chain_in k w c state p at (next_of w c at) (n + 1)) 0) ≤ n + suc k
    go true true z ih = omega arith
    go true false z ih = omega arith
    go false y true ih = omega arith
    go false y false ih = omega arith

-- ---- the ready queues

pub queue-small : (w : List ℕ) (p : ℕ) → queue_size w p ≤ 4097
unfolding queue_size chain_size
queue-small w p = chain-small 4096 w (ready_chain p) 2 p 0 (first_of w (ready_chain p)) 1

pub queues-none : (k : ℕ) (w : List ℕ) (p n : ℕ) → k ≤ 0 → queues_in k w p n ≡ n
unfolding queues_in
queues-none zero w p n h = refl
queues-none (suc k) w p n h = absurd (omega arith)

pub queues-stop : (k : ℕ) (w : List ℕ) (p n : ℕ) → 0 < k → queue_size w p ≡ 0 → queues_in k w p n ≡ 0
unfolding queues_in
queues-stop zero w p n h e = absurd (omega arith)
queues-stop (suc k) w p n h e = simp (eq-eqb _ _ e)

pub queues-unmarked : (k : ℕ) (w : List ℕ) (p n : ℕ) → 0 < k → (queue_size w p ≡ 0 → ⊥) → bit_passes w p ≡ false → queues_in k w p n ≡ 0
unfolding queues_in
queues-unmarked zero w p n h ne e = absurd (omega arith)
queues-unmarked (suc k) w p n h ne e = simp (ne_eqb _ _ ne, e)

pub queues-more : (k : ℕ) (w : List ℕ) (p n : ℕ) → 0 < k → (queue_size w p ≡ 0 → ⊥) → bit_passes w p ≡ true
    → queues_in k w p n ≡ queues_in (k - 1) w (p + 1) (n + (queue_size w p - 1))
unfolding queues_in
queues-more zero w p n h ne e = absurd (omega arith)
queues-more (suc k) w p n h ne e = simp (ne_eqb _ _ ne, e, less_one k)

-- ---- how many, from one more

pub counted_zero : (size : ℕ) → None ≡ counted size → size ≡ 0
unfolding counted
counted_zero zero e = refl
counted_zero (suc n) e = let z : ◌≡◌ {A = ℕ} 0 1 = cc in absurd (omega arith)

pub counted_suc : (size n : ℕ) → Some n ≡ counted size → size ≡ n + 1
unfolding counted
counted_suc zero n e = let z : ◌≡◌ {A = ℕ} 0 1 = cc in absurd (omega arith)
counted_suc (suc m) n e = let q : n ≡ m = cc in omega (arith, q)

pub counted_some : (size n : ℕ) → Some n ≡ counted size → size ≡ 0 → ⊥
counted_some size n e z = let q = counted_suc size n e in omega (arith, q)

pub counted_at : (size n : ℕ) → size ≡ n + 1 → Some n ≡ counted size
counted_at size n e = rw e (sym (counted_more n))
