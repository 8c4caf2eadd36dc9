-- The calls that end in a wake pass but for the passing of time: an event set, a mutex released, a thread ended.
use Prim.Native.Nat.{ℕ, ◌+◌, ◌≤◌}
use mathlib.Core.List.{List}
use mathlib.Core.Bool.{Bool, true, false, cond}
use mathlib.Core.Option.{Option, none, some}
use mathlib.Core.Path.{◌≡◌, refl, sym, ap, ◌∙◌, subst}
use native.Mathlib.Omega.{arith}
use borrow.Author.Tests.{eqb-false, eq-eqb}
use lib.Dec.{eqb}
use lib.ListN.{get_or, set, length}
use Rattle.words.specs.Layout as at
use Rattle.answers.specs.declared.Answer.TheVariants as answer
use Rattle.answers.specs.Outcome.{outcome}
use Rattle.objects.specs.Objects.{place_of}
use Rattle.threads.specs.declared.Thread as stored
use Rattle.threads.specs.Thread as words-thread
use Rattle.threads.specs.Thread.{put_thread}
use Rattle.wakes.specs.Wake.{awake}
use Rattle.events.specs.Events as events
use Rattle.mutexes.specs.Mutexes as mutexes
use Rattle.threading.specs.Thread as threading
use Rattle.model.specs.Lists.{Mem, without}
use Rattle.model.specs.State.{State, Dispatcher, Thread, Event, event, Mutex, mutex, running, exited}
use Rattle.model.specs.Threads.{thread_of, status_of, is_ready, is_waiting, change_at, with_status, with_thread, becomes, terminated}
use Rattle.model.specs.Waits.{key_of, object_at, event_at, mutex_at, put_object, signaled_as, owned_by}
use Rattle.model.specs.Valid.{Valid}
use Rattle.model.specs.Step.{with_dispatcher, with_table}
use Rattle.model.proofs.ListLaws.{not-both, mem-member, without-absent}
use Rattle.model.proofs.ThreadLaws.{standing-moved}
use Rattle.model.proofs.ObjectLaws.{event-found, event-absent, mutex-found, mutex-absent}
use Rattle.model.proofs.TableLaws.{found}
use Rattle.model.proofs.KeepLaws.{current-known}
use Rattle.agreement_chains.specs.Chains.{Same}
use Rattle.agreement_chains.proofs.Frames.{set-outside}
use Rattle.agreement.specs.Records.{holder_of, active_address}
use Rattle.agreement.specs.Agree.{Agree, Agreeing}
use Rattle.agreement.proofs.Headers.{with_current, sim-current}
use Rattle.agreement.proofs.Threads.{stored_of, sim-thread}
use Rattle.agreement.proofs.Lookups.{thread-is}
use Rattle.agreement.proofs.Objects.{sim-signal, sim-owner}
use Rattle.agreement_wakes.proofs.Tests.{place_none}
use Rattle.agreement_past.specs.Past.{Beyond}
use Rattle.agreement_past.proofs.Kept.{unless-kept}
use Rattle.agreement_past.proofs.Words.{Sized, sized, clear-beyond, here-kept, place_here}
use Rattle.agreement_past.proofs.Steps.{thread-kept}
use Rattle.agreement_past.proofs.Wakes.{awake-kept}

module _ (w : List ℕ) (s : State) (a : Agree w s) (v : Valid s) where
  abbrev R : ℕ → Type 0
  R = Beyond s.limits

  abbrev hold : ℕ → ℕ
  hold = holder_of s.dispatcher.objects

  abbrev act : ℕ
  act = active_address s.dpcs.table

  z : Sized s.limits w
  z = sized w s _ _ a

  -- ---- set_event

  pub set-event-kept : (key : ℕ) → Same (Beyond s.limits) w (events.was_set w key).words
  unfolding events.was_set
  set-event-kept key = go (eqb (place_of w 1 key) 0) refl
    where
      place : ℕ
      place = place_of w 1 key

      agrees : (place_of w 1 key ≡ 0 → ⊥) → (o : Option Event) → event_at s.dispatcher.objects key ≡ o → Same (Beyond s.limits) (set w (place_of w 1 key + at.signaled) 1) (awake (set w (place_of w 1 key + at.signaled) 1))
      agrees some-place none q = absurd (some-place (place_none w s hold act a (record { kind = 1; key = key }) (event-absent (object_at s.dispatcher.objects key) q)))
      agrees some-place (some x) q =
          let e = event-found (object_at s.dispatcher.objects key) x q in
          let k : x.key ≡ key = (found key_of s.dispatcher.objects key (event x) e).1 in
          awake-kept (set w (place_of w 1 key + at.signaled) 1) (with_table s (put_object (signaled_as true x) s.dispatcher.objects)) hold act
          (subst (λ (i : ℕ). Agreeing (set w (place_of w 1 i + at.signaled) 1) (with_table s (put_object (signaled_as true x) s.dispatcher.objects)) hold act) k
          (sim-signal w s hold act a x true (ap (object_at s.dispatcher.objects) k ∙ e)))
          v.sound.standing

      go : (b : Bool) → eqb (place_of w 1 key) 0 ≡ b → Same (Beyond s.limits) w (cond b (outcome (answer.Refused 2) w) (outcome (answer.Flag (events.signaled_at w (place_of w 1 key))) (awake (set w (place_of w 1 key + at.signaled) 1)))).words
      go true e j r = refl
      go false e j r =
          agrees (eqb-false place 0 e) (event_at s.dispatcher.objects key) refl j r
          ∙ here-kept s.limits R (clear-beyond s.limits) w place at.signaled 1 (place_here s.limits w z 1 key (eqb-false place 0 e)) (omega arith) j r

  -- ---- release_mutex

  pub released-kept : (key : ℕ) → Same (Beyond s.limits) w (mutexes.released w key).words
  unfolding mutexes.released mutexes.freed
  released-kept key = unless-kept R w (mutexes.release_refusal w key) _ (λ e j r. let some-place = known e in
      agrees some-place (mutex_at s.dispatcher.objects key) refl j r
      ∙ here-kept s.limits R (clear-beyond s.limits) w (place_of w 0 key) at.owner 0 (place_here s.limits w z 0 key some-place) (omega arith) j r)
    where
      known : mutexes.release_refusal w key ≡ 0 → place_of w 0 key ≡ 0 → ⊥
      known = unfold mutexes.release_refusal in go (eqb (get_or w at.current 0) 0) (eqb (place_of w 0 key) 0) refl
        where
          go : (b c : Bool) → eqb (place_of w 0 key) 0 ≡ c → ◌≡◌ {A = ℕ} (cond b 3 (cond c 2 (cond (eqb (mutexes.owner_of w key) (get_or w at.current 0)) 0 10))) 0 → place_of w 0 key ≡ 0 → ⊥
          go true c q e f = omega arith
          go false true q e f = omega arith
          go false false q e f = eqb-false (place_of w 0 key) 0 q f

      agrees : (place_of w 0 key ≡ 0 → ⊥) → (o : Option Mutex) → mutex_at s.dispatcher.objects key ≡ o → Same (Beyond s.limits) (set w (place_of w 0 key + at.owner) 0) (awake (set w (place_of w 0 key + at.owner) 0))
      agrees some-place none q = absurd (some-place (place_none w s hold act a (record { kind = 0; key = key }) (mutex-absent (object_at s.dispatcher.objects key) q)))
      agrees some-place (some m) q =
          let e = mutex-found (object_at s.dispatcher.objects key) m q in
          let k : m.key ≡ key = (found key_of s.dispatcher.objects key (mutex m) e).1 in
          awake-kept (set w (place_of w 0 key + at.owner) 0) (with_table s (put_object (owned_by 0 m) s.dispatcher.objects)) hold act
          (subst (λ (i : ℕ). Agreeing (set w (place_of w 0 i + at.owner) 0) (with_table s (put_object (owned_by 0 m) s.dispatcher.objects)) hold act) k
          (sim-owner w s hold act a m 0 (ap (object_at s.dispatcher.objects) k ∙ e)))
          v.sound.standing

  -- ---- terminate

  abbrev c : ℕ
  c = s.dispatcher.current

  module _ (ne : s.dispatcher.current ≡ 0 → ⊥) (status : ℕ) where
    abbrev t : Thread
    t = with_status (thread_of s.dispatcher s.dispatcher.current) (exited status)

    known : (1 ≤ s.dispatcher.current) × (s.dispatcher.current ≤ length s.dispatcher.threads) × (status_of s.dispatcher s.dispatcher.current ≡ running)
    known = current-known s v ne

    unplaced : Mem s.dispatcher.current s.dispatcher.placed → ⊥
    unplaced m = not-both (sym (mem-member c s.dispatcher.placed m) ∙ v.sound.standing.placed_ready c ∙ ap is_ready known.2)

    unblocked : Mem s.dispatcher.current s.dispatcher.waiters → ⊥
    unblocked m = not-both (sym (mem-member c s.dispatcher.waiters m) ∙ v.sound.standing.waiters_waiting c ∙ ap is_waiting known.2)

    exits : terminated s.dispatcher status ≡ with_current (with_thread s.dispatcher s.dispatcher.current t) 0
    unfolding terminated becomes
    exits =
        ap (λ (m : List ℕ). after m (without c s.dispatcher.waiters) (cond (eqb c c) 0 c)) (without-absent c s.dispatcher.placed unplaced)
        ∙ ap (λ (m : List ℕ). after s.dispatcher.placed m (cond (eqb c c) 0 c)) (without-absent c s.dispatcher.waiters unblocked)
        ∙ ap (λ (b : Bool). after s.dispatcher.placed s.dispatcher.waiters (cond b 0 c)) (eq-eqb c c refl)
      where
        after : List ℕ → List ℕ → ℕ → Dispatcher
        after placed waiters current = record {
          threads = change_at s.dispatcher.threads c t;
          current = current;
          placed = placed;
          waiters = waiters;
          sequence = s.dispatcher.sequence;
          objects = s.dispatcher.objects;
        }

    sim-exited : Agreeing (threading.exited_words w s.dispatcher.current status) (with_dispatcher s (terminated s.dispatcher status)) hold act
    unfolding threading.exited_words
    sim-exited =
        let f = a.shape.fit c known.0 known.1 in
        subst (λ (d : Dispatcher). Agreeing (threading.exited_words w c status) (with_dispatcher s d) hold act) (sym exits)
        (subst (λ (x : stored.Thread). Agreeing (set (put_thread w c (record { priority = x.priority; state = 4; result = x.result; status = status })) 6 0) (with_dispatcher s (with_current (with_thread s.dispatcher c t) 0)) hold act)
        (sym (thread-is w s hold act a c known.0 known.1))
        (sim-current (put_thread w c (stored_of t)) (with_dispatcher s (with_thread s.dispatcher c t)) hold act
        (sim-thread w s hold act a c t known.0 known.1 (record { one = f.one; small = f.small; wait = tt }) (λ m. refl) tt) 0))

    exited-awake-kept : Same (Beyond s.limits) (threading.exited_words w s.dispatcher.current status) (awake (threading.exited_words w s.dispatcher.current status))
    unfolding terminated becomes
    exited-awake-kept = awake-kept (threading.exited_words w c status) (with_dispatcher s (terminated s.dispatcher status)) hold act sim-exited
        (standing-moved s.dispatcher.threads s.dispatcher.placed s.dispatcher.waiters c s.dispatcher.sequence c t v.sound.standing
        (record { from = known.0; to = known.1; runs = λ q. absurd (not-both (sym q)); later = λ q. absurd (not-both (sym q)); below = λ q. absurd (not-both (sym q)) }))

    exited-kept : Same (Beyond s.limits) w (threading.exited_words w s.dispatcher.current status)
    unfolding threading.exited_words
    exited-kept j r =
        let x : stored.Thread = record { priority = (words-thread.thread_of w c).priority; state = 4; result = (words-thread.thread_of w c).result; status = status } in
        set-outside R (put_thread w c x) at.current 0 (λ r. omega arith) j r
        ∙ thread-kept s.limits w c x (omega (arith, known.1, a.shape.sizes.threads_fit)) a.shape.sizes.limits.threads j r

  pub terminated-kept : (status : ℕ) → Same (Beyond s.limits) w (threading.terminated w status).words
  unfolding threading.terminated
  terminated-kept status = unless-kept R w (threading.terminate_refusal w) _
      (λ e j r. subst (λ (n : ℕ). get_or (awake (threading.exited_words w n status)) j 0 ≡ get_or w j 0) (sym is)
      (exited-awake-kept (runs e) status j r ∙ exited-kept (runs e) status j r))
    where
      is : get_or w at.current 0 ≡ s.dispatcher.current
      is = a.numbers at.current s.dispatcher.current refl

      runs : threading.terminate_refusal w ≡ 0 → s.dispatcher.current ≡ 0 → ⊥
      runs = unfold threading.terminate_refusal in go (eqb (get_or w at.current 0) 0) refl
        where
          go : (b : Bool) → eqb (get_or w at.current 0) 0 ≡ b → ◌≡◌ {A = ℕ} (cond b 3 (cond (threading.owns_mutex w (get_or w at.current 0)) 10 0)) 0 → s.dispatcher.current ≡ 0 → ⊥
          go true q e f = omega arith
          go false q e f = eqb-false (get_or w at.current 0) 0 q (is ∙ f)
