-- The calls on DPC work: as many words.
use Prim.Native.Nat.{ℕ}
use mathlib.Core.List.{List}
use mathlib.Core.Bool.{Bool, true, false, cond}
use mathlib.Core.Path.{◌≡◌, refl}
use lib.ListN.{length, length-set}
use Rattle.dpc_queue.specs.declared.Origin.{Origin}
use Rattle.dpc_queue.specs.Queue.{raised, origin_put, work_put, accepted, withdrawn}
use Rattle.dpc_work.specs.Work.{Started, policy_set, configured, queue_inserted, queue_removed, head_started, work_started, returning, work_returned, idle, work_restored}
use Rattle.agreement_chains.proofs.Frames.{length-pushed, length-unlinked, length_removed}
use Rattle.agreement_lengths.proofs.Lengths.{cond_same, words-cond}

-- ---- the queue

pub length-raised : (w : List ℕ) (i : ℕ) → length (raised w i) ≡ length w
unfolding raised
length-raised w i = simp length-set

length-origin-put : (w : List ℕ) (place : ℕ) (o : Origin) → length (origin_put w place o) ≡ length w
unfolding origin_put
length-origin-put w place o = simp length-set

length-work-put : (w : List ℕ) (place sequence first second : ℕ) → length (work_put w place sequence first second) ≡ length w
unfolding work_put
length-work-put w place sequence first second = simp length-set

pub length-accepted : (w : List ℕ) (n first second : ℕ) (o : Origin) → length (accepted w n first second o) ≡ length w
unfolding accepted
length-accepted w n first second o = simp (length-set, length-pushed, length-origin-put, length-work-put)

pub length-withdrawn : (w : List ℕ) (n : ℕ) → length (withdrawn w n) ≡ length w
unfolding withdrawn
length-withdrawn w n = simp (length-raised, length-set, length_removed)

-- ---- configure_dpc_dispatch, insert_queue_dpc, remove_queue_dpc

length-policy-set : (w : List ℕ) (first second : ℕ) → length (policy_set w first second) ≡ length w
unfolding policy_set
length-policy-set w first second = simp length-set

pub length-configured : (w : List ℕ) (first second : ℕ) → length (configured w first second).words ≡ length w
unfolding configured
length-configured w first second = simp (words-cond, cond_same, length-policy-set)

pub length-queue-inserted : (w : List ℕ) (address first second : ℕ) → length (queue_inserted w address first second).words ≡ length w
unfolding queue_inserted
length-queue-inserted w address first second = simp (words-cond, cond_same, length-raised, length-accepted)

pub length-queue-removed : (w : List ℕ) (address : ℕ) → length (queue_removed w address).words ≡ length w
unfolding queue_removed
length-queue-removed w address = simp (words-cond, cond_same, length-withdrawn)

-- ---- start_dpc

pub started-cond : (b : Bool) (o p : Started) → length (cond b o p).words ≡ cond b (length o.words) (length p.words)
started-cond true o p = refl
started-cond false o p = refl

length-head-started : (w : List ℕ) (n address : ℕ) → length (head_started w n address) ≡ length w
unfolding head_started
length-head-started w n address = simp (length-set, length-raised, length-unlinked)

pub length-work-started : (w : List ℕ) (address : ℕ) → length (work_started w address).words ≡ length w
unfolding work_started
length-work-started w address = simp (started-cond, cond_same, length-head-started)

-- ---- returned_dpc, restored_dpc

length-returning : (w : List ℕ) (n : ℕ) → length (returning w n) ≡ length w
unfolding returning
length-returning w n = simp (length-raised, length-set)

pub length-work-returned : (w : List ℕ) (address sequence : ℕ) → length (work_returned w address sequence).words ≡ length w
unfolding work_returned
length-work-returned w address sequence = simp (words-cond, cond_same, length-returning)

length-idle : (w : List ℕ) (n : ℕ) → length (idle w n) ≡ length w
unfolding idle
length-idle w n = simp (length-set, length-raised)

pub length-work-restored : (w : List ℕ) (address sequence : ℕ) → length (work_restored w address sequence).words ≡ length w
unfolding work_restored
length-work-restored w address sequence = simp (words-cond, cond_same, length-idle)
