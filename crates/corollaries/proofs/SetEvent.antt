-- A thread that waits for an event, alone or as one of "any", is ready as soon as a `set_event` of it returns, with the index it waited
-- at, unless the event is auto-reset and a thread that had waited longer took it.
use Prim.Native.Nat.{ℕ, zero, suc, ◌≤◌}
use mathlib.Core.List.{List, [], ◌∷◌}
use mathlib.Core.Bool.{Bool, true, false, cond}
use mathlib.Core.Option.{Option, none, some}
use mathlib.Core.Logic.{◌⊎◌, inl, inr, ⊎_elim}
use mathlib.Core.Path.{◌≡◌, refl, sym, ap, ◌∙◌, subst}
use native.Mathlib.Omega.{arith}
use lib.ListN.{length}
use Rattle.calls.specs.Run.{answered, left}
use Rattle.model.specs.Lists.{Mem, nth, present}
use Rattle.model.specs.State.{State, Thread, waiting, Wait, Named, Event, Object, mutex, event, timer}
use Rattle.model.specs.Waits.{object_at, event_at, as_event, same_named, listed, of_kind}
use Rattle.model.specs.Fits.{Fits}
use Rattle.model.specs.Valid.{WaitingValid, WaitValid}
use Rattle.model.specs.Refusal.{has_duplicate, signal_refusal}
use Rattle.model.specs.Answer.{EventIs}
use Rattle.model.specs.Call.{Call, SetEvent}
use Rattle.model.specs.Call as call
use Rattle.model.specs.Step.{step, refusal}
use Rattle.model.specs.Start.{Start, Accepted}
use Rattle.model.proofs.ListLaws.{not-both, neither, any_at}
use Rattle.model.proofs.TableLaws.{none-some}
use Rattle.model.proofs.RowLaws.{same-named}
use Rattle.agreement_tables.proofs.Lists.{nth-mem}
use Rattle.model.specs.Wakes as gives
use Rattle.model.specs.Wakes.{event_named, Woken, Freed, Single, TakenFirst, WakePass}
use Rattle.model.proofs.Told.{thread-told, told-event}
use Rattle.theorem.specs.History.{Proper}
use Rattle.theorem.specs.Theorem.{logged, end}
use Rattle.corollaries.specs.Reads.{ThreadRead, EventRead}
use Rattle.corollaries.specs.SetEvent.{ReadyWith, EarlierGot}
use Rattle.corollaries.specs.Wakes.{readings_on}
use Rattle.corollaries.proofs.Next.{next, valid}
use Rattle.corollaries.proofs.Refusals.{not-refused}
use Rattle.corollaries.proofs.Wakes.{wake-pass}

-- an event that a wait's list names is there
event-there : (o : Option Object) → present (of_kind 1 o) ≡ true → (e : Event) × (as_event o ≡ some e)
event-there none e = absurd (not-both (sym e))
event-there (some (mutex m)) e = absurd (not-both (sym e))
event-there (some (event x)) e = (x, refl)
event-there (some (timer x)) e = absurd (not-both (sym e))

-- a list that names no object twice names it at one place
not-twice : (m : Named) (ns : List Named) → has_duplicate (m ∷ ns) ≡ false → (b : ℕ) → nth ns b ≡ some m → ⊥
not-twice m ns h b q = not-both (sym (ap (λ (c : Bool). cond c true (has_duplicate ns)) (any_at (λ x. same_named x m) m ns (nth-mem ns b m q) (same-named m m refl refl))) ∙ h)

one_place : (n : Named) (ns : List Named) → has_duplicate ns ≡ false → (a b : ℕ) → nth ns a ≡ some n → nth ns b ≡ some n → a ≡ b
one_place n [] h a b p q = absurd (none-some n p)
one_place n (m ∷ ns) h zero zero p q = refl
one_place n (m ∷ ns) h zero (suc b) p q = absurd (not-twice m ns h b (q ∙ sym p))
one_place n (m ∷ ns) h (suc a) zero p q = absurd (not-twice m ns h a (p ∙ sym q))
one_place n (m ∷ ns) h (suc a) (suc b) p q = ap suc (one_place n ns (neither (listed m ns) (has_duplicate ns) h).1 a b p q)

module _ (w : List ℕ) (start : Start) (calls : List Call) (accepted : Accepted (length w) start) (proper : Proper (length w) calls) where
  abbrev words : List ℕ
  words = end w start calls

  abbrev log : State
  log = logged w start calls

  reads : (r : call.Read) → answered words (call.Reads r) ≡ (step (call.Reads r) log).answer
  reads r = (next w start calls accepted proper (call.Reads r) tt tt).answers

  module _ (key : ℕ) (fits : Fits (SetEvent key)) (i : ℕ) (x : Thread) (y : Wait) (read : ThreadRead words i x) (waits : x.status ≡ waiting y) where
    abbrev after : List ℕ
    after = left words (SetEvent key)

    waits-so : WaitValid log.dispatcher y
    waits-so = subst (WaitingValid log.dispatcher) (ap (λ (z : Thread). z.status) (thread-told log i x (sym (reads (call.Thread i)) ∙ read)).1 ∙ waits) ((valid w start calls accepted proper).sound.waits i)

    -- the event is there, and so the call is not refused
    there : (k : ℕ) → nth y.objects k ≡ some (event_named key) → (e : Event) × (event_at log.dispatcher.objects key ≡ some e)
    there k at = event-there (object_at log.dispatcher.objects key) (waits-so.exist (event_named key) (nth-mem y.objects k (event_named key) at))

    passes : (e : Event) → event_at log.dispatcher.objects key ≡ some e → WakePass (readings_on words) (readings_on after) (SetEvent key)
    unfolding refusal signal_refusal
    passes e f = wake-pass w start calls accepted proper (SetEvent key) (gives.set_event key refl) fits
        (not-refused w start calls accepted proper (SetEvent key) fits tt (ap (λ (o : Option Event). cond (present o) 0 2) f)).1

    -- it makes the event available and nothing else
    the-event : (n : Named) → Freed (readings_on words) (SetEvent key) n → n ≡ event_named key
    the-event n (gives.by_set k c e) = let q : key ≡ k = cc in e ∙ ap event_named (sym q)
    the-event n (gives.by_release k c e) = let q : ◌≡◌ {A = ℕ} 0 1 = cc in absurd (omega arith)
    the-event n (gives.by_exit status j c r e) = let q : ◌≡◌ {A = ℕ} 0 1 = cc in absurd (omega arith)
    the-event n (gives.by_expiry time t c k r j u) = let q : ◌≡◌ {A = ℕ} 0 1 = cc in absurd (omega arith)

    ready_with : (j : ℕ) (z : Wait) (k : ℕ) → Woken (readings_on words) (readings_on after) j z k → ReadyWith after j k
    ready_with j z k r = record { thread = r.thread; read = r.read; status = r.is-ready; result = r.result }

    auto-reset : (e : Event) → event_at log.dispatcher.objects key ≡ some e → Single (readings_on after) (event_named key) → e.manual ≡ false
    auto-reset e f (gives.mutex k) = absurd (omega (arith, k))
    auto-reset e f (gives.event u k r m) =
        let z = (passes e f).only_signal key e (reads (call.EventState key) ∙ told-event log key e f) in
        let q : EventIs (record { key = e.key; manual = e.manual; signaled = z.0 }) ≡ EventIs u = sym z.1 ∙ r in
        manual q ∙ m
      where
        manual : {p q : Event} → EventIs p ≡ EventIs q → p.manual ≡ q.manual
        manual {p} {q} e = let z : p ≡ q = cc in ap (λ (y : Event). y.manual) z
    auto-reset e f (gives.timer t k r m) = absurd (omega (arith, k))

    earlier : (e : Event) → event_at log.dispatcher.objects key ≡ some e → TakenFirst (readings_on words) (readings_on after) y.sequence (event_named key)
        → (e : Event) × (EventRead words key e) × (e.manual ≡ false) × EarlierGot words after key y.sequence
    earlier e f t = (
      e,
      reads (call.EventState key) ∙ told-event log key e f,
      auto-reset e f t.single,
      record {
        number = t.number;
        thread = t.got.woken.waited.thread;
        read = t.got.woken.waited.read;
        for = t.for;
        waited = t.got.woken.waited.waits;
        earlier = t.earlier;
        place = t.got.place;
        named = t.got.named;
        got = ready_with t.number t.for (cond t.for.all 0 t.got.place) t.got.woken;
      },
    )

    -- one that waits for "any", the event at place `k` of its list: the mission's question
    pub set-event-wakes : (k : ℕ) → y.all ≡ false → nth y.objects k ≡ some (event_named key)
        → ReadyWith (left words (SetEvent key)) i k
        ⊎ ((e : Event) × (EventRead words key e) × (e.manual ≡ false) × EarlierGot words (left words (SetEvent key)) key y.sequence)
    set-event-wakes k any at =
        let e = there k at in
        let p = passes e.0 e.1 in
        ⊎_elim
        (λ (z : (m : ℕ) × (m ≤ k) × Woken (readings_on words) (readings_on after) i y m).
        let t = p.any_took i y z.0 z.2 any in
        inl (subst (ReadyWith after i) (one_place (event_named key) y.objects waits-so.once z.0 k (t.1 ∙ ap {B = Option Named} some (the-event t.0 t.2)) at) (ready_with i y z.0 z.2)))
        (λ (z : TakenFirst (readings_on words) (readings_on after) y.sequence (event_named key)). inr (earlier e.0 e.1 z))
        (p.goes_any i y (record { thread = x; read = read; waits = waits }) any k (event_named key) at (gives.by_set key refl refl))

    -- one that waits for the event alone, be it for "any" or "all"
    pub set-event-wakes-alone : y.objects ≡ event_named key ∷ []
        → ReadyWith (left words (SetEvent key)) i 0
        ⊎ ((e : Event) × (EventRead words key e) × (e.manual ≡ false) × EarlierGot words (left words (SetEvent key)) key y.sequence)
    set-event-wakes-alone lone = go y.all refl
      where
        at : nth y.objects 0 ≡ some (event_named key)
        at = ap (λ (l : List Named). nth l 0) lone

        is : (n : Named) → Mem n y.objects → n ≡ event_named key
        is n m = ⊎_elim (λ (z : n ≡ event_named key). z) (λ (z : ⊥). absurd z) (subst (Mem n) lone m)

        go : (b : Bool) → y.all ≡ b
            → ReadyWith (left words (SetEvent key)) i 0 ⊎ ((e : Event) × (EventRead words key e) × (e.manual ≡ false) × EarlierGot words (left words (SetEvent key)) key y.sequence)
        go false q = set-event-wakes 0 q at
        go true q =
            let e = there 0 at in
            ⊎_elim
            (λ (z : Woken (readings_on words) (readings_on after) i y 0). inl (ready_with i y 0 z))
            (λ (z : (n : Named) × (Mem n y.objects) × TakenFirst (readings_on words) (readings_on after) y.sequence n).
            inr (earlier e.0 e.1 (subst (TakenFirst (readings_on words) (readings_on after) y.sequence) (is z.0 z.1) z.2)))
            ((passes e.0 e.1).goes_all i y (record { thread = x; read = read; waits = waits }) q
            (λ z. none-some (event_named key) (ap (λ (l : List Named). nth l 0) (sym z) ∙ at)) (λ n m. inr (gives.by_set key refl (is n m))))
