-- The laws of the pass of the threads, as the code counts: the end, the stop, and one step; and what one pass says.
use Prim.Native.Nat.{ℕ, zero, suc, ◌+◌, ◌-◌, ◌≤◌, ◌<◌}
use native.Mathlib.Omega.{arith}
use mathlib.Core.List.{List}
use mathlib.Core.Bool.{Bool, cond, true, false}
use mathlib.Core.Path.{◌≡◌, refl}
use Rattle.words.specs.Layout as at
use Rattle.threads.specs.Thread.{thread_count}
use Rattle.threads.proofs.ThreadLaws.{count_small}
use Rattle.form_threads.specs.Thread.{has_state, thread_passes, threads_in, threads_pass, one_if, state_count_in, state_count, threads_seen}
use Rattle.form_threads.specs.declared.Counts.{Counts}
use Rattle.std.specs.Prelude.{Option, Some, None}
use Rattle.std.specs.Int.{from_bool}

less_one : (k : ℕ) → suc k - 1 ≡ k
less_one k = omega arith

-- ---- threads

pub threads-none : (m : ℕ) (w : List ℕ) (id : ℕ) → m ≤ 0 → threads_in m w id ≡ true
unfolding threads_in
threads-none zero w id h = refl
threads-none (suc m) w id h = absurd (omega arith)

pub threads-stop : (m : ℕ) (w : List ℕ) (id : ℕ) → 0 < m → thread_passes w id ≡ false → threads_in m w id ≡ false
unfolding threads_in
threads-stop zero w id h e = absurd (omega arith)
threads-stop (suc m) w id h e = simp e

pub threads_more : (m : ℕ) (w : List ℕ) (id : ℕ) → 0 < m → thread_passes w id ≡ true → threads_in m w id ≡ threads_in (m - 1) w (id + 1)
unfolding threads_in
threads_more zero w id h e = absurd (omega arith)
threads_more (suc m) w id h e = simp (e, less_one m)

one-small : (w : List ℕ) (id state : ℕ) → one_if w id state ≤ 1
unfolding one_if
one-small w id state = go (has_state w id state)
  where
    go : (b : Bool) → cond b 1 0 ≤ 1
    go true = omega arith
    go false = omega arith

count_none : (m : ℕ) (w : List ℕ) (id state : ℕ) → m ≤ 0 → state_count_in m w id state ≡ 0
unfolding state_count_in
count_none zero w id state h = refl
count_none (suc m) w id state h = absurd (omega arith)

count-more : (m : ℕ) (w : List ℕ) (id state : ℕ) → 0 < m → state_count_in m w id state ≡ one_if w id state + state_count_in (m - 1) w (id + 1) state
unfolding state_count_in
count-more zero w id state h = absurd (omega arith)
count-more (suc m) w id state h = simp (less_one m)

-- `n` have the state before thread `id`, with `left` threads to go
pub record Counting (w : List ℕ) (id left n state : ℕ) : Type 0 where
  pub few : n + left ≤ at.most_threads
  pub all : n + state_count_in left w id state ≡ state_count w state

pub counting-none : (w : List ℕ) (left state : ℕ) → left ≡ thread_count w → Counting w 1 left 0 state
unfolding state_count
counting-none w left state e = record {
  few = omega (arith, count_small w);
  all = let q : state_count_in left w 1 state ≡ state_count_in (thread_count w) w 1 state = cc in omega arith;
}

-- the code counts `one` of the thread's test
counted : (w : List ℕ) (id state : ℕ) (b : Bool) (one : ℕ) → b ≡ has_state w id state → one ≡ from_bool b → one ≡ one_if w id state
unfolding one_if
counted w id state true one e f = simp (← e) f
counted w id state false one e f = simp (← e) f

pub counting_more : (w : List ℕ) (id left n state : ℕ) (b : Bool) (one : ℕ) → 0 < left → b ≡ has_state w id state → one ≡ from_bool b
    → Counting w id left n state → Counting w (id + 1) (left - 1) (n + one) state
counting_more w id left n state b one h e f t =
    let q = counted w id state b one e f in
    record { few = omega (arith, one-small w id state, q, t.few); all = omega (arith, count-more left w id state h, q, t.all) }

pub counting-all : (w : List ℕ) (id left n state : ℕ) → left ≤ 0 → Counting w id left n state → n ≡ state_count w state
counting-all w id left n state h t = omega (arith, count_none left w id state h, t.all)

-- ---- what one pass says

pub seen_none : (w : List ℕ) → threads_pass w ≡ false → ◌≡◌ {A = Option Counts} None (threads_seen w)
unfolding threads_seen
seen_none w e = simp e

pub seen-made : (w : List ℕ) (q r : ℕ) → threads_pass w ≡ true → q ≡ state_count w 2 → r ≡ state_count w 3
    → ◌≡◌ {A = Option Counts} (Some (record { ready = q; waiting = r })) (threads_seen w)
unfolding threads_seen
seen-made w q r e a b = simp e (cc)
