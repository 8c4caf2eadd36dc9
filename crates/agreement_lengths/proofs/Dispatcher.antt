-- Waits, the passing of time, and dispatches: as many words.
use Prim.Native.Nat.{ℕ, zero, suc, ◌+◌}
use mathlib.Core.List.{List}
use mathlib.Core.Bool.{Bool, true, false, cond}
use mathlib.Core.Path.{◌≡◌, refl, ◌∙◌}
use lib.ListN.{length, length-set}
use Rattle.threads.specs.declared.Wait.{Wait}
use Rattle.threads.specs.Thread.{thread_count}
use Rattle.waiting.specs.Wait.{with_result, left, parked, blocked_words, granted, timed_out, decided, decided_list, waited, delayed}
use Rattle.advancing.specs.Advance.{expired, expired_in, expired_all, advanced}
use Rattle.dispatcher.specs.Dispatch.{Dispatched, ran}
use Rattle.dispatcher.specs.Dispatched.{dispatched}
use Rattle.agreement_chains.proofs.Frames.{length-pushed, length_removed}
use Rattle.agreement_chains.proofs.Marks.{length-unplaced}
use Rattle.agreement_lengths.proofs.Lengths.{length-cond, cond_same, words-cond}
use Rattle.agreement_lengths.proofs.Threads.{length-put-thread, length-put-wait}
use Rattle.agreement_lengths.proofs.Waits.{length-takes-list, length-made-ready, length-awake}
use Rattle.agreement_lengths.proofs.Expiry.{length-expiry-words}

-- ---- waits

length-with-result : (w : List ℕ) (id result : ℕ) → length (with_result w id result) ≡ length w
unfolding with_result
length-with-result w id result = simp length-set

length-left : (w : List ℕ) (sequence : ℕ) → length (left w sequence) ≡ length w
unfolding left
length-left w sequence = simp length-set

length-parked : (w : List ℕ) (id : ℕ) → length (parked w id) ≡ length w
unfolding parked
length-parked w id = simp (length-pushed, length-put-thread)

length-blocked-words : (w : List ℕ) (id : ℕ) (x : Wait) → length (blocked_words w id x) ≡ length w
unfolding blocked_words
length-blocked-words w id x = simp (length-parked, length-put-wait, length-left)

length-granted : (w : List ℕ) (id : ℕ) (list : List ℕ) (n all : ℕ) → length (granted w id list n all).words ≡ length w
unfolding granted
length-granted w id list n all = simp (length-with-result, length-takes-list)

length-timed-out : (w : List ℕ) (id : ℕ) → length (timed_out w id).words ≡ length w
unfolding timed_out
length-timed-out w id = length-with-result w id 1

length-decided : (w : List ℕ) (id : ℕ) (timed : Bool) (irql : ℕ) (x : Wait) → length (decided w id timed irql x).words ≡ length w
unfolding decided
length-decided w id timed irql x = simp (words-cond, cond_same, length-timed-out, length-blocked-words)

length-decided-list : (w : List ℕ) (id : ℕ) (list : List ℕ) (n all : ℕ) (timed : Bool) (deadline irql : ℕ) → length (decided_list w id list n all timed deadline irql).words ≡ length w
unfolding decided_list
length-decided-list w id list n all timed deadline irql = simp length-decided

pub length-waited : (w list : List ℕ) (all timed : Bool) (deadline irql : ℕ) → length (waited w list all timed deadline irql).words ≡ length w
unfolding waited
length-waited w list all timed deadline irql = simp (words-cond, cond_same, length-granted, length-decided-list)

pub length-delayed : (w : List ℕ) (deadline irql : ℕ) → length (delayed w deadline irql).words ≡ length w
unfolding delayed
length-delayed w deadline irql = simp (words-cond, cond_same, length-decided)

-- ---- the passing of time

length-expired : (w : List ℕ) (id time : ℕ) → length (expired w id time) ≡ length w
unfolding expired
length-expired w id time = simp (length-cond, cond_same, length-made-ready, length_removed)

length-expired-in : (m : ℕ) (w : List ℕ) (id time : ℕ) → length (expired_in m w id time) ≡ length w
unfolding expired_in
length-expired-in zero w id time = refl
length-expired-in (suc m) w id time = length-expired-in m (expired w id time) (id + 1) time ∙ length-expired w id time

pub length-expired-all : (w : List ℕ) (time : ℕ) → length (expired_all w time) ≡ length w
unfolding expired_all
length-expired-all w time = length-expired-in (thread_count w) w 1 time

pub length-advanced : (w : List ℕ) (time : ℕ) → length (advanced w time).words ≡ length w
unfolding advanced
length-advanced w time = simp (words-cond, cond_same, length-expired-all, length-awake, length-set, length-expiry-words)

-- ---- dispatches

pub dispatched-cond : (b : Bool) (o p : Dispatched) → length (cond b o p).words ≡ cond b (length o.words) (length p.words)
dispatched-cond true o p = refl
dispatched-cond false o p = refl

pub length-ran : (w : List ℕ) (p : ℕ) → length (ran w p).words ≡ length w
unfolding ran
length-ran w p = simp (length-set, length-put-thread, length-unplaced)

pub length-dispatched : (w out : List ℕ) → length (dispatched w out).words ≡ length w
unfolding dispatched
length-dispatched w out = simp (dispatched-cond, cond_same, length-ran)
