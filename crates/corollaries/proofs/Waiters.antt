-- Threads that wait, as the code's reads show them: none could be satisfied, and no deadline has been reached.
use Prim.Native.Nat.{ℕ, ◌<◌}
use mathlib.Core.List.{List, []}
use mathlib.Core.Bool.{Bool, true, false, cond}
use mathlib.Core.Option.{Option, none, some}
use mathlib.Core.Path.{◌≡◌, refl, sym, ap, ◌∙◌, subst}
use native.Mathlib.Decide.{ℕ_discrete}
use borrow.Author.Tests.{eq-eqb, ne_eqb, eqb-true, eqb-false}
use lib.Dec.{eqb}
use lib.ListN.{length, get_or}
use Rattle.words.specs.Layout as at
use Rattle.images.specs.declared.Timer.{Timer}
use Rattle.calls.specs.Run.{answered}
use Rattle.model.specs.Lists.{Mem, present, given}
use Rattle.model.specs.State.{State, Dispatcher, Thread, Wait, waiting, Named, Event, Object, mutex, event, timer}
use Rattle.model.specs.Threads.{has_exited, status_of, thread_of, is_thread}
use Rattle.model.specs.Waits.{kind_of, object_at, as_mutex, as_event, as_timer, of_kind, named_in, exists, is_free, is_available}
use Rattle.model.specs.Valid.{WaitValid, WaitingValid}
use Rattle.model.specs.Answer.{None}
use Rattle.model.specs.Call.{Call}
use Rattle.model.specs.Call as call
use Rattle.model.specs.Step.{step}
use Rattle.model.specs.Start.{Start, Accepted}
use Rattle.model.proofs.ListLaws.{not-both}
use Rattle.model.proofs.ObjectLaws.{mutex-found, event-found, timer-found}
use Rattle.model.proofs.History as history
use Rattle.model.proofs.Told.{thread-told, told-thread, event-told, told-event, timer-told, told-timer, unowned-told, told-owner, told-number}
use Rattle.theorem.specs.History.{Proper}
use Rattle.theorem.specs.Theorem.{logged, end}
use Rattle.corollaries.specs.Reads.{ThreadRead, EventRead, TimerRead}
use Rattle.corollaries.specs.Waiters as shows
use Rattle.corollaries.specs.Waiters.{Unavailable}
use Rattle.corollaries.proofs.Next.{agree, next, valid}

-- an object of the kind, which is not free
kind-is : (k : ℕ) (x : Object) → present (of_kind k (some x)) ≡ true → given (of_kind k (some x)) false is_free ≡ false → (k ≡ kind_of x) × (is_free x ≡ false)
kind-is k x q z = go (eqb (kind_of x) k) refl q z
  where
    go : (b : Bool) → eqb (kind_of x) k ≡ b → present (cond b (some x) none) ≡ true → given (cond b (some x) none) false is_free ≡ false → (k ≡ kind_of x) × (is_free x ≡ false)
    go true e q z = (sym (eqb-true (kind_of x) k e), z)
    go false e q z = absurd (not-both (sym q))

module _ (w : List ℕ) (start : Start) (calls : List Call) (accepted : Accepted (length w) start) (proper : Proper (length w) calls) where
  abbrev words : List ℕ
  words = end w start calls

  abbrev log : State
  log = logged w start calls

  reads : (r : call.Read) → answered words (call.Reads r) ≡ (step (call.Reads r) log).answer
  reads r = (next w start calls accepted proper (call.Reads r) tt tt).answers

  -- what exists and is not available reads so
  shown : (n : Named) → exists log.dispatcher n ≡ true → is_available log.dispatcher n ≡ false → Unavailable words n
  shown n x a = elim (ℕ_discrete n.kind 3) [
    | yes k ↦
        let b = eq-eqb n.kind 3 k in
        as-thread k (sym (ap (λ (c : Bool). cond c (is_thread d₀ n.key) (present (named_in d₀.objects n))) b) ∙ x)
        (sym (ap (λ (c : Bool). cond c (cond (is_thread d₀ n.key) (has_exited (status_of d₀ n.key)) false) (given (named_in d₀.objects n) false is_free)) b) ∙ a)
    | no k ↦
        let b = ne_eqb n.kind 3 k in
        as-object (object_at d₀.objects n.key) refl (sym (ap (λ (c : Bool). cond c (is_thread d₀ n.key) (present (named_in d₀.objects n))) b) ∙ x)
        (sym (ap (λ (c : Bool). cond c (cond (is_thread d₀ n.key) (has_exited (status_of d₀ n.key)) false) (given (named_in d₀.objects n) false is_free)) b) ∙ a)
  ]
    where
      d₀ : Dispatcher
      d₀ = log.dispatcher

      as-thread : n.kind ≡ 3 → is_thread log.dispatcher n.key ≡ true → cond (is_thread log.dispatcher n.key) (has_exited (status_of log.dispatcher n.key)) false ≡ false → Unavailable words n
      as-thread k q z =
          shows.thread (thread_of log.dispatcher n.key) k (reads (call.Thread n.key) ∙ told-thread log n.key q)
          (sym (ap (λ (c : Bool). cond c (has_exited (status_of log.dispatcher n.key)) false) q) ∙ z)

      as-object : (m : Option Object) → object_at log.dispatcher.objects n.key ≡ m → present (of_kind n.kind m) ≡ true → given (of_kind n.kind m) false is_free ≡ false → Unavailable words n
      as-object none f q z = absurd (not-both (sym q))
      as-object (some (mutex m)) f q z =
          let k = kind-is n.kind (mutex m) q z in
          shows.owned m.owner k.0 (reads (call.MutexOwner n.key) ∙ told-owner log n.key m (ap as_mutex f) ∙ told-number m.owner (eqb-false m.owner 0 k.1))
      as-object (some (event e)) f q z =
          let k = kind-is n.kind (event e) q z in
          shows.event e k.0 (reads (call.EventState n.key) ∙ told-event log n.key e (ap as_event f)) k.1
      as-object (some (timer u)) f q z =
          let k = kind-is n.kind (timer u) q z in
          shows.timer u k.0 (reads (call.TimerAt n.key) ∙ told-timer log n.key u (ap as_timer f)) k.1

  -- of a thread that waits
  module _ (i : ℕ) (x : Thread) (y : Wait) (read : ThreadRead words i x) (waits : x.status ≡ waiting y) where
    was : status_of log.dispatcher i ≡ waiting y
    was = ap (λ (z : Thread). z.status) (thread-told log i x (sym (reads (call.Thread i)) ∙ read)).1 ∙ waits

    -- for any: none of the objects is available
    pub none-available : y.all ≡ false → (n : Named) → Mem n y.objects → is_available log.dispatcher n ≡ false
    none-available all n m = history.waits-any (length w) start accepted calls i y was all n m

    -- so no event that it waits for is signaled
    pub no-event-signaled : y.all ≡ false → (key : ℕ) → Mem (record { kind = 1; key = key }) y.objects → (e : Event) → EventRead words key e → e.signaled ≡ false
    no-event-signaled all key m e q =
        sym (ap (λ (a : Option Object). given (of_kind 1 a) false is_free) (event-found (object_at log.dispatcher.objects key) e (event-told log key e (sym (reads (call.EventState key)) ∙ q))))
        ∙ none-available all (record { kind = 1; key = key }) m

    -- nor any timer
    pub no-timer-signaled : y.all ≡ false → (key : ℕ) → Mem (record { kind = 2; key = key }) y.objects → (z : Timer) → TimerRead words key z → z.signaled ≡ false
    no-timer-signaled all key m z q =
        sym (ap (λ (a : Option Object). given (of_kind 2 a) false is_free) (timer-found (object_at log.dispatcher.objects key) z (timer-told log key z (sym (reads (call.TimerAt key)) ∙ q))))
        ∙ none-available all (record { kind = 2; key = key }) m

    -- no mutex that it waits for is free
    pub no-mutex-free : y.all ≡ false → (key : ℕ) → Mem (record { kind = 0; key = key }) y.objects → answered words (call.Reads (call.MutexOwner key)) ≡ None → ⊥
    no-mutex-free all key m q =
        let r = unowned-told log key (sym (reads (call.MutexOwner key)) ∙ q) in
        not-both (sym (ap (λ (a : Option Object). given (of_kind 0 a) false is_free) (mutex-found (object_at log.dispatcher.objects key) r.0 r.1) ∙ eq-eqb r.0.owner 0 r.2)
        ∙ none-available all (record { kind = 0; key = key }) m)

    -- and no thread that it waits for has exited
    pub no-thread-exited : y.all ≡ false → (j : ℕ) → Mem (record { kind = 3; key = j }) y.objects → (z : Thread) → ThreadRead words j z → has_exited z.status ≡ false
    no-thread-exited all j m z q =
        let r = thread-told log j z (sym (reads (call.Thread j)) ∙ q) in
        sym (ap (λ (b : Bool). cond b (has_exited (status_of log.dispatcher j)) false) r.0 ∙ ap (λ (x : Thread). has_exited x.status) r.1)
        ∙ none-available all (record { kind = 3; key = j }) m

    -- for all: one of them is not available
    pub some-unavailable : y.all ≡ true → (y.objects ≡ [] → ⊥) → (n : Named) × (Mem n y.objects) × (is_available log.dispatcher n ≡ false)
    some-unavailable all n = history.waits-all (length w) start accepted calls i y was all n

    -- so one of them reads as not available
    pub some-unavailable-read : y.all ≡ true → (y.objects ≡ [] → ⊥) → (n : Named) × (Mem n y.objects) × Unavailable words n
    some-unavailable-read all h =
        let r = some-unavailable all h in
        let v : WaitValid log.dispatcher y = subst (WaitingValid log.dispatcher) was ((valid w start calls accepted proper).sound.waits i) in
        (r.0, r.1, shown r.0 (v.exist r.0 r.1) r.2)

    -- with a deadline: it is ahead of the words' time
    pub deadline-ahead : (time : ℕ) → y.deadline ≡ some time → get_or words at.now 0 < time
    deadline-ahead time q =
        subst (λ (n : ℕ). n < time) (sym ((agree w start calls accepted proper).numbers at.now _ refl)) (history.deadline-ahead (length w) start accepted calls i y time was q)
