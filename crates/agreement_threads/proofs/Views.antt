-- What is read of a thread and of what it waits for is what the log has. A thread that does not wait waits for nothing.
use Prim.Native.Nat.{ℕ, suc, ◌+◌, ◌-◌, ◌^◌, ◌≤◌, zero-le}
use mathlib.Core.List.{List}
use mathlib.Core.Bool.{Bool, true, false, cond}
use mathlib.Core.Option.{Option, some}
use mathlib.Core.Path.{◌≡◌, refl, sym, ap, ◌∙◌}
use native.Mathlib.Omega.{arith}
use borrow.Author.Tests.{ne_eqb, le-leb, leb-true, leb-false, lt-leb}
use lib.ListN.{get_or, length}
use lib.Dec.{eqb, leb}
use Rattle.words.specs.Layout as at
use Rattle.call_answers.specs.Told.{told_object}
use Rattle.threads.specs.declared.Thread as stored
use Rattle.threads.specs.Thread as words
use Rattle.waits.specs.Lists.{kind_in, key_in}
use Rattle.dispatcher.specs.declared.read.ThreadView.{ThreadView}
use Rattle.dispatcher.specs.ThreadAnswer as read
use Rattle.dispatcher.specs.PlaceAnswer as object
use Rattle.dispatcher.specs.Dispatch as code
use Rattle.dispatcher.specs.Read.{waited_count, wait_word, view_of, thread_read, threads_at, waited_object}
use Rattle.model.specs.Lists.{nth, given}
use Rattle.model.specs.State.{State, Thread, Status, running, ready, waiting, exited, Wait, Named}
use Rattle.model.specs.Threads.{thread_of, status_of, is_thread, is_waiting, wait_of}
use Rattle.model.specs.Reads.{read_refusal, read_answer}
use Rattle.model.specs.Answer.{Outcome, None, ObjectIs}
use Rattle.model.specs.Call as call
use Rattle.model.specs.Step.{step, refusal, effect}
use Rattle.model.proofs.SoundLaws.{thread-is}
use Rattle.agreement_tables.proofs.Lists.{nth-some, nth-none}
use Rattle.agreement.specs.Records.{flag, timed, status_number, result_number, exit_status}
use Rattle.agreement.specs.Agree.{Agree}
use Rattle.agreement.proofs.Headers.{threads-few}
use Rattle.agreement.proofs.Lookups as lookups
use Rattle.agreement.proofs.Lookups.{known_is, count-is, all-is, timed-is, deadline-is, sequence-is, pair_is}
use Rattle.agreement.proofs.Matches.{step-accepted}
use Rattle.agreement_threads.proofs.Statuses.{number-waiting}

-- ---- a view of a thread

pub record WaitViewIs (x : ThreadView) (y : Wait) : Type 0 where
  pub of-all : x.all ≡ flag y.all
  pub of-timed : x.timed ≡ timed y.deadline
  pub of-deadline : (t : ℕ) → y.deadline ≡ some t → x.deadline ≡ t
  pub of-sequence : x.sequence ≡ y.sequence
  pub of-count : x.count ≡ length y.objects

-- it shows the thread, and what a waiting one waits for
pub record ViewIs (x : ThreadView) (id : ℕ) (t : Thread) : Type 0 where
  pub of-id : x.id ≡ id
  pub of-priority : x.priority ≡ t.priority
  pub of-state : x.state ≡ status_number t.status
  pub of-result : x.result ≡ result_number t.result
  pub of-status : x.status ≡ exit_status t.status
  pub of-wait : (y : Wait) → t.status ≡ waiting y → WaitViewIs x y

module _ (w : List ℕ) (s : State) (a : Agree w s) where
  -- the words of a thread tell whether it waits, and of a waiting one what its wait is
  pub waiting-is : (id : ℕ) → 1 ≤ id → id ≤ length s.dispatcher.threads → code.is_waiting w id ≡ is_waiting (status_of s.dispatcher id)
  unfolding code.is_waiting words.thread_of
  waiting-is id one le =
      ap (λ (t : stored.Thread). eqb t.state 3) (lookups.thread-is w s _ _ a id one le) ∙ number-waiting (status_of s.dispatcher id)

  word-is : (id : ℕ) → 1 ≤ id → id ≤ length s.dispatcher.threads → (y : Wait) → status_of s.dispatcher id ≡ waiting y → (k : ℕ) → wait_word w id k ≡ get_or w (at.thread_at id + k) 0
  unfolding wait_word
  word-is id one le y q k = ap (λ (b : Bool). cond b (get_or w (at.thread_at id + k) 0) 0) (waiting-is id one le ∙ ap is_waiting q)

  pub waited-count : (id : ℕ) → 1 ≤ id → id ≤ length s.dispatcher.threads → (y : Wait) → status_of s.dispatcher id ≡ waiting y → waited_count w id ≡ length y.objects
  unfolding waited_count
  waited-count id one le y q = ap (λ (b : Bool). cond b (words.count_of w id) 0) (waiting-is id one le ∙ ap is_waiting q) ∙ count-is w s _ _ a id one le y q

  pub waits-for-none : (id : ℕ) → 1 ≤ id → id ≤ length s.dispatcher.threads → is_waiting (status_of s.dispatcher id) ≡ false → waited_count w id ≡ 0
  unfolding waited_count
  waits-for-none id one le q = ap (λ (b : Bool). cond b (words.count_of w id) 0) (waiting-is id one le ∙ q)

  pub view-is : (id : ℕ) → 1 ≤ id → id ≤ length s.dispatcher.threads → ViewIs (view_of w id) id (thread_of s.dispatcher id)
  unfolding view_of words.all_of
  view-is id one le =
      let e = lookups.thread-is w s _ _ a id one le in record {
        of-id = refl;
        of-priority = ap (λ (t : stored.Thread). t.priority) e;
        of-state = ap (λ (t : stored.Thread). t.state) e;
        of-result = ap (λ (t : stored.Thread). t.result) e;
        of-status = ap (λ (t : stored.Thread). t.status) e;
        of-wait = λ y q. record {
          of-all = word-is id one le y q at.wait_all ∙ all-is w s _ _ a id one le y q;
          of-timed = word-is id one le y q at.has_deadline ∙ timed-is w s _ _ a id one le y q;
          of-deadline = λ t f. word-is id one le y q at.deadline ∙ deadline-is w s _ _ a id one le y q t f;
          of-sequence = word-is id one le y q at.wait_sequence ∙ sequence-is w s _ _ a id one le y q;
          of-count = waited-count id one le y q;
        };
      }

  -- a thread of the log is read, another is not
  pub thread-read : (id : ℕ) → is_thread s.dispatcher id ≡ true → (thread_read w id ≡ read.Thread (view_of w id)) × ViewIs (view_of w id) id (thread_of s.dispatcher id)
  unfolding thread_read
  thread-read id e =
      let h = thread-is s.dispatcher id e in
      (ap (λ (b : Bool). cond b (read.Thread (view_of w id)) read.None) (known_is w s _ _ a id ∙ e), view-is id h.0 h.1)

  pub thread-unread : (id : ℕ) → is_thread s.dispatcher id ≡ false → thread_read w id ≡ read.None
  unfolding thread_read
  thread-unread id e = ap (λ (b : Bool). cond b (read.Thread (view_of w id)) read.None) (known_is w s _ _ a id ∙ e)

  -- by position: numbers from 1 on
  pub threads-read : (position : ℕ) → threads_at w position ≡ thread_read w (suc position)
  unfolding threads_at
  threads-read position = go (leb (2 ^ 64 - 1) position) refl
    where
      go : (b : Bool) → leb (2 ^ 64 - 1) position ≡ b → cond b read.None (thread_read w (position + 1)) ≡ thread_read w (suc position)
      go true q =
          let h = leb-true (2 ^ 64 - 1) position q in
          sym (thread-unread (suc position)
          (ap (λ (b : Bool). cond b false (leb (suc position) (length s.dispatcher.threads))) (ne_eqb (suc position) 0 (λ z. omega arith))
          ∙ lt-leb (suc position) (length s.dispatcher.threads) (omega (arith, threads-few w s _ _ a))))
      go false q = ap (thread_read w) (let e : position + 1 ≡ suc position = omega arith in e)

  -- ---- what it waits for

  -- the pair at a position, or none past the last
  pub waited-is : (id position : ℕ) (x : Wait) → is_thread s.dispatcher id ≡ true → status_of s.dispatcher id ≡ waiting x
      → told_object (waited_object w id position) ≡ given (nth x.objects position) None ObjectIs
  unfolding waited_object
  waited-is id position x e q =
      ap (λ (b : Bool). told_object (cond b (cond (leb (waited_count w id) position) object.None
      (object.Object (record { kind = kind_in w (words.places_at id) position; key = key_in w (words.places_at id) position }))) object.None)) (known_is w s _ _ a id ∙ e)
      ∙ ap (λ (n : ℕ). told_object (cond (leb n position) object.None
      (object.Object (record { kind = kind_in w (words.places_at id) position; key = key_in w (words.places_at id) position })))) (waited-count id h.0 h.1 x q)
      ∙ go (leb (length x.objects) position) refl
    where
      h : (1 ≤ id) × (id ≤ length s.dispatcher.threads)
      h = thread-is s.dispatcher id e

      go : (b : Bool) → leb (length x.objects) position ≡ b
          → told_object (cond b object.None (object.Object (record { kind = kind_in w (words.places_at id) position; key = key_in w (words.places_at id) position })))
          ≡ given (nth x.objects position) None ObjectIs
      go true r = ap (λ (o : Option Named). given o None ObjectIs) (sym (nth-none x.objects position (leb-true (length x.objects) position r)))
      go false r =
          let n = nth-some x.objects position (leb-false (length x.objects) position r) in
          let p = pair_is w s _ _ a id h.0 h.1 x q position n.0 n.1 in
          ap (λ (k : ℕ). ObjectIs (record { kind = k; key = key_in w (words.places_at id) position })) p.0
          ∙ ap (λ (k : ℕ). ObjectIs (record { kind = n.0.kind; key = k })) p.1
          ∙ ap (λ (o : Option Named). given o None ObjectIs) (sym n.1)

  -- of a thread that does not wait
  unwaited : (id position : ℕ) → is_thread s.dispatcher id ≡ true → is_waiting (status_of s.dispatcher id) ≡ false → told_object (waited_object w id position) ≡ None
  unfolding waited_object
  unwaited id position e q =
      ap (λ (b : Bool). told_object (cond b (cond (leb (waited_count w id) position) object.None
      (object.Object (record { kind = kind_in w (words.places_at id) position; key = key_in w (words.places_at id) position }))) object.None)) (known_is w s _ _ a id ∙ e)
      ∙ ap (λ (n : ℕ). told_object (cond (leb n position) object.None
      (object.Object (record { kind = kind_in w (words.places_at id) position; key = key_in w (words.places_at id) position })))) (waits-for-none id h.0 h.1 q)
      ∙ ap (λ (b : Bool). told_object (cond b object.None (object.Object (record { kind = kind_in w (words.places_at id) position; key = key_in w (words.places_at id) position })))) (le-leb 0 position zero-le)
    where
      h : (1 ≤ id) × (id ≤ length s.dispatcher.threads)
      h = thread-is s.dispatcher id e

  pub waited-object-read : (id position : ℕ) → told_object (waited_object w id position) ≡ (step (call.Reads (call.WaitedObject id position)) s).answer
  unfolding refusal effect read_refusal read_answer waited_object
  waited-object-read id position =
      go (is_thread s.dispatcher id) refl ∙ sym (ap (λ (m : Outcome). m.answer) (step-accepted (call.Reads (call.WaitedObject id position)) s refl))
    where
      by : (x : Status) → status_of s.dispatcher id ≡ x → is_thread s.dispatcher id ≡ true
          → told_object (waited_object w id position) ≡ given (nth (wait_of x).objects position) None ObjectIs
      by running q e = unwaited id position e (ap is_waiting q)
      by ready q e = unwaited id position e (ap is_waiting q)
      by (waiting x) q e = waited-is id position x e q
      by (exited n) q e = unwaited id position e (ap is_waiting q)

      go : (b : Bool) → is_thread s.dispatcher id ≡ b
          → told_object (waited_object w id position) ≡ cond b (given (nth (wait_of (status_of s.dispatcher id)).objects position) None ObjectIs) None
      go true e = by (status_of s.dispatcher id) refl e
      go false e = ap (λ (b : Bool). told_object (cond b (cond (leb (waited_count w id) position) object.None
          (object.Object (record { kind = kind_in w (words.places_at id) position; key = key_in w (words.places_at id) position }))) object.None)) (known_is w s _ _ a id ∙ e)
