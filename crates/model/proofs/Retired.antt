-- What the release of memory takes out: exactly the records that have a byte in it.
use Prim.Native.Nat.{ℕ, ◌+◌, ◌≤◌}
use mathlib.Core.List.{List}
use mathlib.Core.Bool.{Bool, true, false, cond, not, ◌&&◌, ◌||◌}
use mathlib.Core.Option.{Option, none, some}
use mathlib.Core.Path.{◌≡◌, refl, sym, ap, ◌∙◌, subst, subst₂}
use native.Mathlib.Omega.{arith}
use borrow.Author.Tests.{eqb-false, leb-true, le-leb, ltb-true, ltb-false, lt-ltb}
use lib.Dec.{eqb, leb, ltb}
use Rattle.arch.specs.declared.Architecture.{Architecture}
use Rattle.arch.specs.declared.Architecture.TheVariants.{X64, X86}
use Rattle.images.specs.declared.Timer.{Timer}
use Rattle.images.specs.declared.Dpc.{Dpc}
use Rattle.images.specs.Place.{overlaps, timer_size, dpc_size}
use Rattle.images.proofs.PlaceLaws.{overlap-shares, shares-overlap}
use Rattle.model.specs.Lists.{keep, any}
use Rattle.model.specs.Table.{find, Rising}
use Rattle.model.specs.State.{State, Event, Object, mutex, event, timer}
use Rattle.model.specs.Waits.{key_of, object_at, as_mutex, as_event, as_timer, event_at, timer_at, events_of}
use Rattle.model.specs.Dpcs.{address_of, dpc_at}
use Rattle.model.specs.Timers.{most}
use Rattle.model.specs.Refusal.{is_waited_on, is_split, event_held, event_release_refusal, dpc_overlapped}
use Rattle.model.specs.Answer.{Outcome}
use Rattle.model.specs.Call as call
use Rattle.model.specs.Step.{refusal, effect, step, is_retired_event, events_retired, is_retired_timer, timers_retired}
use Rattle.model.specs.Valid.{Valid}
use Rattle.model.proofs.ListLaws.{not-both, neither, any_false}
use Rattle.model.proofs.TableLaws.{some_same, none-some, found, find-kept, kept-found}
use Rattle.model.proofs.ObjectLaws.{on-event, on-timer, event-found, timer-found}
use Rattle.model.proofs.RowLaws.{passes, or-false, and-true, event-mem}
use Rattle.model.proofs.WdkLaws.{step_is}
use Rattle.model.specs.Leaving.{timer_bytes, dpc_bytes, Meets, TimersRetired, EventsRetired}

-- ---- those that are kept, of a table

module _ {A : Type 0} (key : A → ℕ) (f : A → Bool) (l : List A) (r : Rising key l) (k : ℕ) where
  pub gone : (x : A) → find key l k ≡ some x → f x ≡ false → find key (keep f l) k ≡ none
  gone x e n = go (find key (keep f l) k) refl
    where
      go : (o : Option A) → find key (keep f l) k ≡ o → o ≡ none
      go none q = refl
      go (some y) q =
          let h = kept-found key f l r k y q in
          absurd (not-both (sym h.1 ∙ ap f (some_same y x (sym h.0 ∙ e)) ∙ n))

  pub stays : ((x : A) → find key l k ≡ some x → f x ≡ true) → find key (keep f l) k ≡ find key l k
  stays h = go (find key l k) refl
    where
      nothing : (o : Option A) → find key (keep f l) k ≡ o → find key l k ≡ none → o ≡ none
      nothing none q e = refl
      nothing (some y) q e = absurd (none-some y (sym e ∙ (kept-found key f l r k y q).0))

      go : (o : Option A) → find key l k ≡ o → find key (keep f l) k ≡ o
      go none e = nothing (find key (keep f l) k) refl e
      go (some x) e = find-kept key f l k x e (h x e)

  -- what is said alike of those that go and of none is said as before
  pub unchanged : {B : Type 0} (g : Option A → B) → ((x : A) → f x ≡ false → g (some x) ≡ g none) → g (find key (keep f l) k) ≡ g (find key l k)
  unchanged g h = go (find key l k) refl
    where
      by : (x : A) (b : Bool) → f x ≡ b → find key l k ≡ some x → g (find key (keep f l) k) ≡ g (some x)
      by x true q e = ap g (find-kept key f l k x e q)
      by x false q e = ap g (gone x e q) ∙ sym (h x q)

      go : (o : Option A) → find key l k ≡ o → g (find key (keep f l) k) ≡ g o
      go none e = ap g (stays (λ x q. absurd (none-some x (sym e ∙ q))) ∙ e)
      go (some x) e = by x (f x) refl e

-- ---- memory

meets-overlap : (a n b m : ℕ) → Meets a n b m → overlaps a n b m ≡ true
meets-overlap a n b m h = shares-overlap a n b m (record { byte = h.byte; from_first = h.from; in-first = h.to; from_second = h.from_other; in-second = h.to_other })

overlap-meets : (a n b m : ℕ) → overlaps a n b m ≡ true → Meets a n b m
overlap-meets a n b m e = let h = overlap-shares a n b m e in record { byte = h.byte; from = h.from_first; to = h.in-first; from_other = h.from_second; to_other = h.in-second }

-- kept where it does not meet
apart-kept : (a n b m : ℕ) → (Meets a n b m → ⊥) → not (overlaps a n b m) ≡ true
apart-kept a n b m h = go (overlaps a n b m) refl
  where
    go : (c : Bool) → overlaps a n b m ≡ c → not c ≡ true
    go true q = absurd (h (overlap-meets a n b m q))
    go false q = refl

timer-bytes : (a : Architecture) → timer_size a ≡ timer_bytes a
timer-bytes X64 = refl
timer-bytes X86 = refl

dpc-bytes : (a : Architecture) → dpc_size a ≡ dpc_bytes a
dpc-bytes X64 = refl
dpc-bytes X86 = refl

module _ (s : State) (v : Valid s) where
  abbrev objects₀ : List Object
  objects₀ = s.dispatcher.objects

  -- a record's own key is the one that it is found by
  timer-key : (k : ℕ) (x : Timer) → timer_at s.dispatcher.objects k ≡ some x → x.address ≡ k
  timer-key k x f = (found key_of objects₀ k (timer x) (timer-found (object_at objects₀ k) x f)).1

  event-key : (k : ℕ) (x : Event) → event_at s.dispatcher.objects k ≡ some x → x.key ≡ k
  event-key k x f = (found key_of objects₀ k (event x) (event-found (object_at objects₀ k) x f)).1

  dpc-key : (a : ℕ) (x : Dpc) → dpc_at s.dpcs.table a ≡ some x → x.address ≡ a
  dpc-key a x f = (found address_of s.dpcs.table a x f).1

  -- ---- timers and DPCs

  pub retire-timers : (address size : ℕ) → refusal (call.RetireTimerBacking address size) s ≡ 0 → TimersRetired s (step (call.RetireTimerBacking address size) s).state address size
  unfolding effect timers_retired
  retire-timers address size e = subst (λ (o : Outcome). TimersRetired s o.state address size) (sym (step_is (call.RetireTimerBacking address size) s e)) (record {
    timer_gone = λ k x f h. ap as_timer (gone key_of kept objects₀ v.sound.rising k (timer x) (timer-found (object_at objects₀ k) x f) (ap not (meets-overlap address size x.address (timer_size x.architecture) (subst₂ (λ (a m : ℕ). Meets address size a m) (sym (timer-key k x f)) (sym (timer-bytes x.architecture)) h))));
    timer_stays = λ k h. ap as_timer (stays key_of kept objects₀ v.sound.rising k (λ o f. on-timer (λ b. not b ≡ true) o (λ n. refl)
        (λ t q. let z = ap as_timer (f ∙ ap some q) in apart-kept address size t.address (timer_size t.architecture) (λ m. h t z (subst₂ (λ (a n : ℕ). Meets address size a n) (timer-key k t z) (timer-bytes t.architecture) m)))));
    events = λ k. unchanged key_of kept objects₀ v.sound.rising k as_event no-event;
    mutexes = λ k. unchanged key_of kept objects₀ v.sound.rising k as_mutex no-mutex;
    dpc_gone = λ a x f h. gone address_of dpc-kept s.dpcs.table v.queueing.rising a x f (ap not (meets-overlap address size x.address (dpc_size x.architecture) (subst₂ (λ (b m : ℕ). Meets address size b m) (sym (dpc-key a x f)) (sym (dpc-bytes x.architecture)) h)));
    dpc_stays = λ a h. stays address_of dpc-kept s.dpcs.table v.queueing.rising a (λ x f. apart-kept address size x.address (dpc_size x.architecture) (λ m. h x f (subst₂ (λ (b n : ℕ). Meets address size b n) (dpc-key a x f) (dpc-bytes x.architecture) m)));
    queue = refl;
    counters = refl;
    threads = record { threads = refl; current = refl };
  })
    where
      kept : Object → Bool
      kept o = not (is_retired_timer address size o)

      -- only timers go
      no-event : (o : Object) → kept o ≡ false → as_event (some o) ≡ none
      no-event (mutex m) q = refl
      no-event (event x) q = absurd (not-both q)
      no-event (timer t) q = refl

      no-mutex : (o : Object) → kept o ≡ false → as_mutex (some o) ≡ none
      no-mutex (mutex m) q = absurd (not-both q)
      no-mutex (event x) q = refl
      no-mutex (timer t) q = refl

      dpc-kept : Dpc → Bool
      dpc-kept d = not (dpc_overlapped address size d)

  -- ---- events

  module _ (base size layout : ℕ) (e : refusal (call.RetireEventBacking base size layout) s ≡ 0) where
    some_bytes : layout ≡ 0 → ⊥
    unfolding refusal event_release_refusal
    some_bytes =
        let a = passes (ltb most (base + size)) 22 _ e in
        let b = passes (eqb size 0) 22 _ a.1 in
        eqb-false layout 0 (passes (eqb layout 0) 22 _ b.1).0

    -- no event is split: one that meets the memory begins in it
    whole : (k : ℕ) (x : Event) → event_at s.dispatcher.objects k ≡ some x → Meets base size x.key layout → base ≤ x.key
    unfolding refusal event_release_refusal event_held
    whole k x f h =
        let a = passes (ltb most (base + size)) 22 _ e in
        let b = passes (eqb size 0) 22 _ a.1 in
        let c = passes (eqb layout 0) 22 _ b.1 in
        let i = passes (any (event_held s base (base + size) layout) (events_of objects₀)) 22 _ c.1 in
        let m = event-mem objects₀ x (found key_of objects₀ k (event x) (event-found (object_at objects₀ k) x f)).0 in
        let z = (neither (ltb most (x.key + layout)) _ (any_false (event_held s base (base + size) layout) (events_of objects₀) i.0 x m)).1 in
        let met : (ltb x.key (base + size) && ltb base (x.key + layout)) ≡ true =
        ap (λ (t : Bool). t && ltb base (x.key + layout)) (lt-ltb x.key (base + size) (omega (arith, h.to, h.from_other))) ∙ lt-ltb base (x.key + layout) (omega (arith, h.from, h.to_other)) in
        let split : (is_split base (base + size) x.key (x.key + layout) || is_waited_on s 1 x.key) ≡ false =
        sym (ap (λ (t : Bool). cond t (is_split base (base + size) x.key (x.key + layout) || is_waited_on s 1 x.key) false) met) ∙ z in
        ltb-false x.key base (or-false (ltb x.key base) _ (or-false (is_split base (base + size) x.key (x.key + layout)) _ split).0).0

    pub retire-events : EventsRetired s (step (call.RetireEventBacking base size layout) s).state base size layout
    unfolding effect events_retired
    retire-events = subst (λ (o : Outcome). EventsRetired s o.state base size layout) (sym (step_is (call.RetireEventBacking base size layout) s e)) (record {
      event_gone = λ k x f m. let h = subst (λ (a : ℕ). Meets base size a layout) (sym (event-key k x f)) m in ap as_event (gone key_of kept objects₀ v.sound.rising k (event x) (event-found (object_at objects₀ k) x f)
          (ap not (ap (λ (t : Bool). t && ltb x.key (base + size)) (le-leb base x.key (whole k x f h)) ∙ lt-ltb x.key (base + size) (omega (arith, h.to, h.from_other)))));
      event_stays = λ k h. ap as_event (stays key_of kept objects₀ v.sound.rising k (λ o f. on-event (λ b. not b ≡ true) o (λ n. refl) (λ x q. let z = ap as_event (f ∙ ap some q) in outside x (λ m. h x z (subst (λ (a : ℕ). Meets base size a layout) (event-key k x z) m)))));
      mutexes = λ k. unchanged key_of kept objects₀ v.sound.rising k as_mutex no-mutex;
      timers = λ k. unchanged key_of kept objects₀ v.sound.rising k as_timer no-timer;
      dpcs = refl;
      threads = record { threads = refl; current = refl };
    })
      where
        kept : Object → Bool
        kept o = not (is_retired_event base (base + size) o)

        -- only events go
        no-mutex : (o : Object) → kept o ≡ false → as_mutex (some o) ≡ none
        no-mutex (mutex m) q = absurd (not-both q)
        no-mutex (event x) q = refl
        no-mutex (timer t) q = refl

        no-timer : (o : Object) → kept o ≡ false → as_timer (some o) ≡ none
        no-timer (mutex m) q = refl
        no-timer (event x) q = refl
        no-timer (timer t) q = absurd (not-both q)

        outside : (x : Event) → (Meets base size x.key layout → ⊥) → not (leb base x.key && ltb x.key (base + size)) ≡ true
        outside x h = go (leb base x.key && ltb x.key (base + size)) refl
          where
            go : (c : Bool) → (leb base x.key && ltb x.key (base + size)) ≡ c → not c ≡ true
            go true q =
                let t = and-true (leb base x.key) (ltb x.key (base + size)) q in
                absurd (h (record { byte = x.key; from = leb-true base x.key t.0; to = ltb-true x.key (base + size) t.1; from_other = omega arith; to_other = omega (arith, some_bytes) }))
            go false q = refl
