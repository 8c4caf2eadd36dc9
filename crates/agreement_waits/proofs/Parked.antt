-- The current thread blocks, on the words and in the log: it leaves, its wait is written, and it stands last among the waiters.
use Prim.Native.Nat.{ℕ, ◌+◌, ◌-◌, ◌%◌, ◌^◌, ◌≤◌, ◌<◌}
use mathlib.Core.List.{List, [], ◌∷◌, ◌++◌}
use mathlib.Core.Bool.{Bool, cond}
use mathlib.Core.Option.{Option}
use mathlib.Core.Path.{◌≡◌, refl, sym, ap, ◌∙◌, subst}
use native.Mathlib.Omega.{arith}
use borrow.Author.Tests.{eq-eqb}
use lib.ListN.{set, length}
use Rattle.words.specs.Layout as at
use Rattle.threads.specs.declared.Thread as stored
use Rattle.threads.specs.declared.Wait as stored-wait
use Rattle.threads.specs.Thread.{put_thread, put_wait}
use Rattle.chains.specs.Chain.{pushed}
use Rattle.chains.specs.Ready.{waiters_chain}
use Rattle.waiting.specs.Wait.{left, parked, blocked_words}
use Rattle.model.specs.Lists.{Mem, without}
use Rattle.model.specs.State.{State, Dispatcher, Thread, running, waiting, Wait, Named}
use Rattle.model.specs.Threads.{becomes, blocked, change_at, thread_of, status_of, priority_of, is_waiting, with_thread, with_sequence, waiting_thread}
use Rattle.model.specs.Step.{with_dispatcher}
use Rattle.model.proofs.ListLaws.{without-absent}
use Rattle.model.proofs.ThreadLaws.{length-change}
use Rattle.agreement.specs.Records.{exit_status}
use Rattle.agreement.specs.Shape.{WaitFits}
use Rattle.agreement.specs.Agree.{WaitOf, Agreeing}
use Rattle.agreement.proofs.Headers.{with_current, sim-current, sim-sequence, threads-few}
use Rattle.agreement.proofs.Threads.{stored_of, sim-thread}
use Rattle.agreement.proofs.Waits.{Stored, InForm, sim-wait, wait-shows}
use Rattle.agreement.proofs.Lookups.{thread-is}
use Rattle.agreement.proofs.Chains.{with_waiters, sim-block}

-- the wait with the next sequence
abbrev pub new_wait : Dispatcher → List Named → Bool → Option ℕ → Wait
new_wait d objects all deadline = record { objects = objects; all = all; deadline = deadline; sequence = d.sequence }

-- what `blocked` says of a current thread that stands in no list
pub blocked-is : (d : Dispatcher) (objects : List Named) (all : Bool) (deadline : Option ℕ) → (Mem d.current d.placed → ⊥) → (Mem d.current d.waiters → ⊥)
    → blocked d objects all deadline
    ≡ with_waiters (with_thread (with_sequence (with_current d 0) (d.sequence + 1)) d.current (waiting_thread (thread_of d d.current) (new_wait d objects all deadline))) (d.waiters ++ (d.current ∷ []))
unfolding blocked becomes
blocked-is d objects all deadline unplaced unblocked =
    ap (λ (b : Bool). step (cond b 0 d.current) (without d.current d.placed) (without d.current d.waiters)) (eq-eqb d.current d.current refl)
    ∙ ap (λ (l : List ℕ). step 0 l (without d.current d.waiters)) (without-absent d.current d.placed unplaced)
    ∙ ap (step 0 d.placed) (without-absent d.current d.waiters unblocked)
  where
    step : ℕ → List ℕ → List ℕ → Dispatcher
    step current placed waiters = record {
      threads = change_at d.threads d.current (waiting_thread (thread_of d d.current) (new_wait d objects all deadline));
      current = current;
      placed = placed;
      waiters = waiters ++ (d.current ∷ []);
      sequence = d.sequence + 1;
      objects = d.objects;
    }

module _ (w : List ℕ) (s : State) (holder : ℕ → ℕ) (active : ℕ) (a : Agreeing w s holder active) (one : 1 ≤ s.dispatcher.current)
    (le : s.dispatcher.current ≤ length s.dispatcher.threads) (runs : status_of s.dispatcher s.dispatcher.current ≡ running)
    (unplaced : Mem s.dispatcher.current s.dispatcher.placed → ⊥) (unblocked : Mem s.dispatcher.current s.dispatcher.waiters → ⊥)
    (more : s.dispatcher.sequence < 2 ^ 64 - 1) where
  abbrev c : ℕ
  c = s.dispatcher.current

  abbrev d : Dispatcher
  d = s.dispatcher

  -- it is current no more, and the wait sequence goes on
  abbrev s₂ : State
  s₂ = with_dispatcher s (with_sequence (with_current s.dispatcher 0) (s.dispatcher.sequence + 1))

  abbrev w₂ : List ℕ
  w₂ = set (set w at.current 0) 7 (s.dispatcher.sequence + 1)

  leaves : Agreeing w₂ s₂ holder active
  leaves = sim-sequence (set w at.current 0) (with_dispatcher s (with_current s.dispatcher 0)) holder active (sim-current w s holder active a 0) (s.dispatcher.sequence + 1)

  left_is : left w s.dispatcher.sequence ≡ w₂
  unfolding left
  left_is = ap (set (set w at.current 0) 7) (let e : (s.dispatcher.sequence + 1) % 2 ^ 64 ≡ s.dispatcher.sequence + 1 = omega arith in e)

  module _ (y : stored-wait.Wait) (objects : List Named) (all : Bool) (deadline : Option ℕ) (of : Stored y (new_wait s.dispatcher objects all deadline)) (form : InForm y)
      (fits : WaitFits (new_wait s.dispatcher objects all deadline)) where
    abbrev t : Thread
    t = waiting_thread (thread_of s.dispatcher s.dispatcher.current) (new_wait s.dispatcher objects all deadline)

    abbrev w₃ : List ℕ
    w₃ = put_wait w₂ c y

    waits : Agreeing w₃ s₂ holder active
    waits = sim-wait w₂ s₂ holder active leaves c y one le form (ap is_waiting runs)

    few : s.dispatcher.current ≤ at.most_threads
    few = omega (arith, le, threads-few w s holder active a)

    shown : WaitOf w₃ c (waiting (new_wait s.dispatcher objects all deadline))
    shown = wait-shows w₂ c y few (omega (arith, leaves.enough, a.shape.sizes.threads_fit, le)) form.few (new_wait d objects all deadline) of

    blocks : Agreeing (pushed (put_thread w₃ c (stored_of t)) waiters_chain c)
        (with_dispatcher s (with_waiters (with_thread (with_sequence (with_current s.dispatcher 0) (s.dispatcher.sequence + 1)) c t) (s.dispatcher.waiters ++ (c ∷ [])))) holder active
    blocks = sim-block (put_thread w₃ c (stored_of t)) (with_dispatcher s (with_thread (with_sequence (with_current s.dispatcher 0) (s.dispatcher.sequence + 1)) c t)) holder active
        (sim-thread w₃ s₂ holder active waits c t one le
        (record { one = (a.shape.fit c one le).one; small = (a.shape.fit c one le).small; wait = fits }) (λ m. absurd (unplaced m)) shown)
        c one (subst (λ (m : ℕ). c ≤ m) (sym (length-change s.dispatcher.threads c t)) le) unblocked

    -- state 3, no result, and the exit status of a running thread
    parked-is : parked w₃ c ≡ pushed (put_thread w₃ c (stored_of t)) waiters_chain c
    unfolding parked
    parked-is =
        ap (λ (x : stored.Thread). pushed (put_thread w₃ c (record { priority = x.priority; state = 3; result = 0; status = x.status })) waiters_chain c) (thread-is w₃ s₂ holder active waits c one le)
        ∙ ap (λ (n : ℕ). pushed (put_thread w₃ c (record { priority = priority_of d c; state = 3; result = 0; status = n })) waiters_chain c) (ap exit_status runs)

    pub sim-parked : Agreeing (blocked_words w s.dispatcher.current y) (with_dispatcher s (blocked s.dispatcher objects all deadline)) holder active
    unfolding blocked_words
    sim-parked =
        subst (λ (n : ℕ). Agreeing (parked (put_wait (left w n) c y) c) (with_dispatcher s (blocked s.dispatcher objects all deadline)) holder active) (sym of.of-sequence)
        (subst (λ (v : List ℕ). Agreeing (parked (put_wait v c y) c) (with_dispatcher s (blocked s.dispatcher objects all deadline)) holder active) (sym left_is)
        (subst (λ (v : List ℕ). Agreeing v (with_dispatcher s (blocked s.dispatcher objects all deadline)) holder active) (sym parked-is)
        (subst (λ (x : Dispatcher). Agreeing (pushed (put_thread w₃ c (stored_of t)) waiters_chain c) (with_dispatcher s x) holder active) (sym (blocked-is d objects all deadline unplaced unblocked)) blocks)))
