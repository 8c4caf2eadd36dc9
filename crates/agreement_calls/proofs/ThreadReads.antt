-- `thread` and `threads`: what they and `waited_object` read together is the log's thread, with what it waits for.
use Prim.Native.Nat.{ℕ, suc, ◌+◌}
use mathlib.Core.List.{List, [], ◌∷◌}
use mathlib.Core.Bool.{Bool, true, false, cond, not}
use mathlib.Core.Option.{Option, none, some}
use mathlib.Core.Path.{◌≡◌, refl, sym, ap, ◌∙◌}
use native.Mathlib.Omega.{arith}
use lib.Dec.{eqb}
use lib.ListN.{length}
use Rattle.dispatcher.specs.declared.read.ThreadView.{ThreadView}
use Rattle.dispatcher.specs.PlaceAnswer.{PlaceAnswer}
use Rattle.dispatcher.specs.PlaceAnswer as object
use Rattle.dispatcher.specs.Read.{view_of, thread_read, threads_at, waited_object}
use Rattle.call_answers.specs.Told.{told_object}
use Rattle.calls.specs.Run.{named_by, objects_read, status_read, result_read, view_read, told_thread}
use Rattle.model.specs.Lists.{nth, given}
use Rattle.model.specs.State.{State, Status, running, ready, waiting, exited, Wait, WaitResult, satisfied, timeout, Named}
use Rattle.model.specs.Threads.{thread_of, is_thread, with_status, with_priority, with_result}
use Rattle.model.specs.Waits.{no_object}
use Rattle.model.specs.Answer.{Answer, None, ObjectIs, ThreadIs}
use Rattle.model.specs.Answer as log
use Rattle.model.specs.Reads.{read_refusal, read_answer, thread_answer}
use Rattle.model.specs.Call as call
use Rattle.model.specs.Step.{step}
use Rattle.agreement.specs.Records.{timed, status_number, result_number, exit_status}
use Rattle.agreement.specs.Agree.{Agree}
use Rattle.agreement.proofs.Records.{flag-read}
use Rattle.agreement_threads.proofs.Views.{WaitViewIs, ViewIs, thread-read, thread-unread, threads-read, waited-is}
use Rattle.agreement_timers.proofs.TimerReads.{read_is}

-- ---- the objects of a wait

-- the object that an answer tells
abbrev object_of : Answer → Named
object_of (log.Refused n) = no_object
object_of log.Done = no_object
object_of log.None = no_object
object_of (log.ThreadNumber n) = no_object
object_of (log.Flag b) = no_object
object_of (log.Number n) = no_object
object_of (log.Satisfied n) = no_object
object_of log.Timeout = no_object
object_of log.Blocked = no_object
object_of (log.Run n) = no_object
object_of (log.AdvanceTo n) = no_object
object_of (log.Deadlocked l) = no_object
object_of log.Finished = no_object
object_of (log.ThreadIs n t) = no_object
object_of (log.ObjectIs n) = n
object_of (log.EventIs e) = no_object
object_of (log.TimerIs t) = no_object
object_of (log.DpcIs d) = no_object
object_of (log.WorkIs w) = no_object
object_of (log.PolicyIs p) = no_object
object_of (log.CountersAre c) = no_object
object_of (log.ImageIs size bytes) = no_object

object-told : (p : PlaceAnswer) → object_of (told_object p) ≡ named_by p
object-told (object.Refused n) = refl
object-told object.None = refl
object-told (object.Object p) = refl

objects-read : (w : List ℕ) (id i : ℕ) (l : List Named) → ((k : ℕ) (n : Named) → nth l k ≡ some n → named_by (waited_object w id (i + k)) ≡ n) → objects_read (length l) w id i ≡ l
objects-read w id i [] h = refl
objects-read w id i (x ∷ xs) h =
    ap (λ (n : Named). n ∷ objects_read (length xs) w id (suc i)) (ap (λ (k : ℕ). named_by (waited_object w id k)) (let e : i ≡ i + 0 = omega arith in e) ∙ h 0 x refl)
    ∙ ap (λ (l : List Named). x ∷ l) (objects-read w id (suc i) xs (λ k n e. ap (λ (j : ℕ). named_by (waited_object w id j)) (let q : suc i + k ≡ i + suc k = omega arith in q) ∙ h (suc k) n e))

-- ---- a status, and a result

abbrev deadline_read : ℕ → ℕ → Option ℕ
deadline_read t d = cond (eqb t 0) none (some d)

deadline-read : (t d : ℕ) (o : Option ℕ) → t ≡ timed o → ((n : ℕ) → o ≡ some n → d ≡ n) → deadline_read t d ≡ o
deadline-read t d none e h = ap (λ (n : ℕ). deadline_read n d) e
deadline-read t d (some n) e h = ap (λ (m : ℕ). deadline_read m d) e ∙ ap some (h n refl)

result-read : (r : Option WaitResult) → result_read (result_number r) ≡ r
result-read none = refl
result-read (some (satisfied i)) = ap result_read (let e : i + 2 ≡ suc (suc i) = omega arith in e)
result-read (some timeout) = refl

module _ (w : List ℕ) (v : ThreadView) where
  abbrev wait_read : Wait
  wait_read = record { objects = objects_read v.count w v.id 0; all = not (eqb v.all 0); deadline = deadline_read v.timed v.deadline; sequence = v.sequence }

  abbrev status_by : ℕ → Status
  status_by n = cond (eqb n 1) running (cond (eqb n 2) ready (cond (eqb n 3) (waiting wait_read) (exited v.status)))

  wait-read : (y : Wait) → WaitViewIs v y → objects_read (length y.objects) w v.id 0 ≡ y.objects → wait_read ≡ y
  wait-read y h o =
      ap (λ (n : ℕ). record { objects = objects_read n w v.id 0; all = not (eqb v.all 0); deadline = deadline_read v.timed v.deadline; sequence = v.sequence }) h.of-count
      ∙ ap (λ (l : List Named). record { objects = l; all = not (eqb v.all 0); deadline = deadline_read v.timed v.deadline; sequence = v.sequence }) o
      ∙ ap (λ (b : Bool). record { objects = y.objects; all = b; deadline = deadline_read v.timed v.deadline; sequence = v.sequence }) (ap (λ (n : ℕ). not (eqb n 0)) h.of-all ∙ flag-read y.all)
      ∙ ap (λ (t : Option ℕ). record { objects = y.objects; all = y.all; deadline = t; sequence = v.sequence }) (deadline-read v.timed v.deadline y.deadline h.of-timed h.of-deadline)
      ∙ ap (λ (n : ℕ). record { objects = y.objects; all = y.all; deadline = y.deadline; sequence = n }) h.of-sequence

  status-read : (x : Status) → v.state ≡ status_number x → v.status ≡ exit_status x
      → ((y : Wait) → x ≡ waiting y → (WaitViewIs v y) × (objects_read (length y.objects) w v.id 0 ≡ y.objects)) → status_read w v ≡ x
  status-read running e f h = ap status_by e
  status-read ready e f h = ap status_by e
  status-read (waiting y) e f h = ap status_by e ∙ ap waiting (wait-read y (h y refl).0 (h y refl).1)
  status-read (exited n) e f h = ap status_by e ∙ ap exited f

-- ---- the reads

module _ (w : List ℕ) (s : State) (a : Agree w s) where
  thread-told : (id : ℕ) → told_thread w (thread_read w id) ≡ thread_answer s.dispatcher id
  unfolding thread_answer
  thread-told id = go (is_thread s.dispatcher id) refl
    where
      go : (b : Bool) → is_thread s.dispatcher id ≡ b → told_thread w (thread_read w id) ≡ cond b (ThreadIs id (thread_of s.dispatcher id)) None
      go false e = ap (told_thread w) (thread-unread w s a id e)
      go true e =
          let r = thread-read w s a id e in
          let v = view_of w id in
          let t = thread_of s.dispatcher id in
          let h : ViewIs v id t = r.1 in
          ap (told_thread w) r.0
          ∙ ap (λ (x : Status). ThreadIs v.id (with_status (view_read w v) x))
          (status-read w v t.status h.of-state h.of-status
          (λ y q. (
            h.of-wait y q,
            ap (λ (k : ℕ). objects_read (length y.objects) w k 0) h.of-id ∙ objects-read w id 0 y.objects
                (λ k n f. sym (object-told (waited_object w id (0 + k))) ∙ ap object_of (waited-is w s a id (0 + k) y e q)
                ∙ ap (λ (j : ℕ). object_of (given (nth y.objects j) None ObjectIs)) (let z : 0 + k ≡ k = omega arith in z) ∙ ap (λ (o : Option Named). object_of (given o None ObjectIs)) f),
          )))
          ∙ ap (λ (p : ℕ). ThreadIs v.id (with_priority (with_status (view_read w v) t.status) p)) h.of-priority
          ∙ ap (λ (x : Option WaitResult). ThreadIs v.id (with_result t x)) (ap result_read h.of-result ∙ result-read t.result)
          ∙ ap (λ (k : ℕ). ThreadIs k t) h.of-id

  pub read-thread : (id : ℕ) → told_thread w (thread_read w id) ≡ (step (call.Reads (call.Thread id)) s).answer
  unfolding read_refusal read_answer
  read-thread id = thread-told id ∙ sym (read_is (call.Thread id) s refl)

  pub read-threads : (position : ℕ) → told_thread w (threads_at w position) ≡ (step (call.Reads (call.Threads position)) s).answer
  unfolding read_refusal read_answer
  read-threads position = ap (told_thread w) (threads-read w s a position) ∙ thread-told (suc position) ∙ sym (read_is (call.Threads position) s refl)
