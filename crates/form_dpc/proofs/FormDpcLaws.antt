-- The laws of the passes and walks, as the code counts: the end, the stop, and one step; and the bounds that its sums need.
use Prim.Native.Nat.{ℕ, zero, suc, ◌+◌, ◌-◌, ◌≤◌, ◌<◌}
use native.Mathlib.Omega.{arith}
use mathlib.Core.List.{List}
use mathlib.Core.Bool.{Bool, cond, true, false}
use mathlib.Core.Path.{◌≡◌, refl, sym}
use lib.Dec.{eqb}
use borrow.Author.Tests.{eq-eqb, ne_eqb, eqb-true, eqb-false}
use Rattle.words.specs.Layout.{entry_at}
use Rattle.objects.specs.Objects.{dpcs_base}
use Rattle.chains.specs.declared.Chain.{Chain}
use Rattle.chains.specs.Chain.{next_of}
use Rattle.dpcs.specs.Record.{dpc_count}
use Rattle.dpcs.proofs.RecordLaws.{count_most}
use Rattle.form_dpc.specs.Dpc.{dpc_passes, dpcs_in, dpcs_pass, has_phase, phase_one, phase_count_in, phase_count, dpcs_seen}
use Rattle.form_dpc.specs.Queue.{counted, chain_end, queued_at, queue_in}
use Rattle.form_dpc.specs.declared.dpc_records.Counts.{Counts}
use Rattle.std.specs.Prelude.{Option, Some, None}
use Rattle.std.specs.Option.{option_eq}
use Rattle.std.specs.Int.{from_bool}

less_one : (k : ℕ) → suc k - 1 ≡ k
less_one k = omega arith

-- ---- DPCs

pub dpcs-none : (m : ℕ) (w : List ℕ) (base i : ℕ) → m ≤ 0 → dpcs_in m w base i ≡ true
unfolding dpcs_in
dpcs-none zero w base i h = refl
dpcs-none (suc m) w base i h = absurd (omega arith)

pub dpcs-stop : (m : ℕ) (w : List ℕ) (base i : ℕ) → 0 < m → dpc_passes w base i ≡ false → dpcs_in m w base i ≡ false
unfolding dpcs_in
dpcs-stop zero w base i h e = absurd (omega arith)
dpcs-stop (suc m) w base i h e = simp e

pub dpcs-more : (m : ℕ) (w : List ℕ) (base i : ℕ) → 0 < m → dpc_passes w base i ≡ true → dpcs_in m w base i ≡ dpcs_in (m - 1) w base (i + 1)
unfolding dpcs_in
dpcs-more zero w base i h e = absurd (omega arith)
dpcs-more (suc m) w base i h e = simp (e, less_one m)

-- ---- how many have a phase

one-small : (w : List ℕ) (place phase : ℕ) → phase_one w place phase ≤ 1
unfolding phase_one
one-small w place phase = go (has_phase w place phase)
  where
    go : (b : Bool) → cond b 1 0 ≤ 1
    go true = omega arith
    go false = omega arith

count_none : (m : ℕ) (w : List ℕ) (base i phase : ℕ) → m ≤ 0 → phase_count_in m w base i phase ≡ 0
unfolding phase_count_in
count_none zero w base i phase h = refl
count_none (suc m) w base i phase h = absurd (omega arith)

count-more : (m : ℕ) (w : List ℕ) (base i phase : ℕ) → 0 < m
    → phase_count_in m w base i phase ≡ phase_one w (entry_at base i) phase + phase_count_in (m - 1) w base (i + 1) phase
unfolding phase_count_in
count-more zero w base i phase h = absurd (omega arith)
count-more (suc m) w base i phase h = simp (less_one m)

-- `n` have the phase before place `i`, with `left` DPCs to go
pub record Counting (w : List ℕ) (base i left n phase : ℕ) : Type 0 where
  pub few : n + left ≤ 4096
  pub all : n + phase_count_in left w base i phase ≡ phase_count w phase

pub counting-none : (w : List ℕ) (base left phase : ℕ) → base ≡ dpcs_base w → left ≡ dpc_count w → Counting w base 0 left 0 phase
unfolding phase_count
counting-none w base left phase e f = record {
  few = omega (arith, count_most w);
  all = let q : phase_count_in left w base 0 phase ≡ phase_count_in (dpc_count w) w (dpcs_base w) 0 phase = cc in omega arith;
}

-- the code counts `one` of the DPC's test
counted_one : (w : List ℕ) (place phase : ℕ) (b : Bool) (one : ℕ) → b ≡ has_phase w place phase → one ≡ from_bool b → one ≡ phase_one w place phase
unfolding phase_one
counted_one w place phase true one e f = simp (← e) f
counted_one w place phase false one e f = simp (← e) f

pub counting_more : (w : List ℕ) (base i left n phase place : ℕ) (b : Bool) (one : ℕ) → 0 < left → place ≡ entry_at base i → b ≡ has_phase w place phase → one ≡ from_bool b
    → Counting w base i left n phase → Counting w base (i + 1) (left - 1) (n + one) phase
counting_more w base i left n phase place b one h a e f t =
    let q : one ≡ phase_one w (entry_at base i) phase = rw (← a) (counted_one w place phase b one e f) in
    record { few = omega (arith, one-small w (entry_at base i) phase, q, t.few); all = omega (arith, count-more left w base i phase h, q, t.all) }

pub counting-all : (w : List ℕ) (base i left n phase : ℕ) → left ≤ 0 → Counting w base i left n phase → n ≡ phase_count w phase
counting-all w base i left n phase h t = omega (arith, count_none left w base i phase h, t.all)

-- ---- what one pass says

pub seen_none : (w : List ℕ) → dpcs_pass w ≡ false → ◌≡◌ {A = Option Counts} None (dpcs_seen w)
unfolding dpcs_seen
seen_none w e = simp e

pub seen-made : (w : List ℕ) (q r s : ℕ) → dpcs_pass w ≡ true → q ≡ phase_count w 1 → r ≡ phase_count w 2 → s ≡ phase_count w 3
    → ◌≡◌ {A = Option Counts} (Some (record { queued = q; active = r + s; returning = s })) (dpcs_seen w)
unfolding dpcs_seen
seen-made w q r s e a b d = simp e (cc)

-- ---- the queue

pub queue-none : (k : ℕ) (w : List ℕ) (c : Chain) (before at n : ℕ) → k ≤ 0 → queue_in k w c before at n ≡ 0
unfolding queue_in
queue-none zero w c before at n h = refl
queue-none (suc k) w c before at n h = absurd (omega arith)

pub queue-ends : (k : ℕ) (w : List ℕ) (c : Chain) (before at n : ℕ) → 0 < k → at ≡ 0 → queue_in k w c before at n ≡ chain_end w c before n
unfolding queue_in
queue-ends zero w c before at n h e = absurd (omega arith)
queue-ends (suc k) w c before at n h e = simp (eq-eqb _ _ e)

pub queue-stop : (k : ℕ) (w : List ℕ) (c : Chain) (before at n : ℕ) → 0 < k → (at ≡ 0 → ⊥) → queued_at w at ≡ false → queue_in k w c before at n ≡ 0
unfolding queue_in
queue-stop zero w c before at n h ne e = absurd (omega arith)
queue-stop (suc k) w c before at n h ne e = simp (ne_eqb _ _ ne, e)

pub queue-more : (k : ℕ) (w : List ℕ) (c : Chain) (before at n : ℕ) → 0 < k → (at ≡ 0 → ⊥) → queued_at w at ≡ true
    → queue_in k w c before at n ≡ queue_in (k - 1) w c at (next_of w c at) (n + 1)
unfolding queue_in
queue-more zero w c before at n h ne e = absurd (omega arith)
queue-more (suc k) w c before at n h ne e = simp (ne_eqb _ _ ne, e, less_one k)

-- ---- how many, from one more

pub counted_more : (n : ℕ) → counted (n + 1) ≡ Some n
unfolding counted
counted_more n = let z : n + 1 ≡ suc n = omega arith in rw z refl

pub counted_is : (size n : ℕ) → option_eq eqb (counted size) (Some n) ≡ eqb size (n + 1)
unfolding counted
counted_is zero n = sym (ne_eqb 0 (n + 1) (λ (q : 0 ≡ n + 1). omega arith))
counted_is (suc m) n = go (eqb m n) refl
  where
    go : (b : Bool) → eqb m n ≡ b → b ≡ eqb (suc m) (n + 1)
    go true e = let f : m ≡ n = eqb-true _ _ e in let q : suc m ≡ n + 1 = omega arith in sym (eq-eqb _ _ q)
    go false e = sym (ne_eqb _ _ (λ (q : suc m ≡ n + 1). let f : m ≡ n = omega arith in eqb-false _ _ e f))

pub counted_none : (size : ℕ) → size ≡ 0 → None ≡ counted size
unfolding counted
counted_none size e = simp e
