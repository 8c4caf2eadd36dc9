-- The calls on events that make one or read one.
use Prim.Native.Nat.{ℕ, zero, suc, ◌+◌, ◌-◌, ◌*◌, ◌≤◌}
use mathlib.Core.List.{List, [], ◌∷◌}
use mathlib.Core.Bool.{Bool, true, false, cond, not}
use mathlib.Core.Option.{Option, none, some}
use mathlib.Core.Path.{◌≡◌, refl, sym, ap, ◌∙◌, subst}
use native.Mathlib.Omega.{arith}
use borrow.Author.Tests.{ne_eqb}
use lib.ListN.{get_or, length}
use lib.Dec.{eqb}
use Rattle.words.specs.Layout as at
use Rattle.words.specs.Layout.{entry_at}
use Rattle.objects.specs.Objects as objects
use Rattle.objects.specs.Objects.{entered, place_of, objects_base}
use Rattle.wakes.specs.Wake as wake
use Rattle.events.specs.Events as code
use Rattle.events.specs.Events.{new_event, state_at}
use Rattle.event_release.specs.Release.{is_event, is_nth, passed_to, nth_in, nth_event, event_states}
use Rattle.answers.specs.declared.Answer.TheVariants as answer
use Rattle.answers.specs.Outcome.{outcome}
use Rattle.call_answers.specs.Told.{told}
use Rattle.model.specs.Lists.{nth, present, given}
use Rattle.model.specs.State.{State, Event, Object, mutex, event, timer}
use Rattle.model.specs.Waits.{key_of, kind_of, object_at, event_at, events_of}
use Rattle.model.specs.Valid.{Valid}
use Rattle.model.specs.Refusal.{collides, is_full, event_refusal}
use Rattle.model.specs.Reads.{read_refusal, read_answer}
use Rattle.model.specs.Answer.{Outcome, None, EventIs}
use Rattle.model.specs.Call as call
use Rattle.model.specs.Step.{step, refusal, effect}
use Rattle.model.proofs.RowLaws.{passes}
use Rattle.model.proofs.KeepObjects.{room_for}
use Rattle.model.proofs.ObjectLaws.{event-found}
use Rattle.agreement_tables.specs.Tables.{below}
use Rattle.agreement.specs.Row.{Row}
use Rattle.agreement.specs.Records.{flag, object_row, holder_of, active_address}
use Rattle.agreement.specs.Agree.{objects_from, Agree}
use Rattle.agreement.specs.Matches.{Plainly}
use Rattle.agreement.proofs.Headers.{objects-few}
use Rattle.agreement.proofs.Places.{entry_place}
use Rattle.agreement.proofs.Records.{flag-read}
use Rattle.agreement.proofs.Lookups.{base-is, object-count-is, row-kind, object-place, object-row}
use Rattle.agreement.proofs.Matches.{plainly-unless, step-accepted}
use Rattle.agreement_wakes.proofs.Waiters.{waits-on-is}
use Rattle.agreement_objects.proofs.Tests.{collides-is, full_is, event-known}
use Rattle.agreement_objects.proofs.Plain.{no-timer, agree-enter}

-- ---- an event read

pub state-read : (w : List ℕ) (place : ℕ) (x : Event) → Row w place (object_row (event x)) → (place ≡ 0 → ⊥) → told (state_at w place) ≡ EventIs x
unfolding state_at
state-read w place x r some-place =
    ap (λ (b : Bool). told (cond b answer.None (answer.Event (get_or w (place + at.key) 0) (not (eqb (get_or w (place + at.manual) 0) 0)) (not (eqb (get_or w (place + at.signaled) 0) 0))))) (ne_eqb place 0 some-place)
    ∙ ap (λ (k : ℕ). EventIs (record { key = k; manual = not (eqb (get_or w (place + at.manual) 0) 0); signaled = not (eqb (get_or w (place + at.signaled) 0) 0) })) (r 0 x.key refl)
    ∙ ap (λ (b : Bool). EventIs (record { key = x.key; manual = b; signaled = not (eqb (get_or w (place + at.signaled) 0) 0) })) (ap (λ (n : ℕ). not (eqb n 0)) (r 2 (flag x.manual) refl) ∙ flag-read x.manual)
    ∙ ap (λ (b : Bool). EventIs (record { key = x.key; manual = x.manual; signaled = b })) (ap (λ (n : ℕ). not (eqb n 0)) (r 3 (flag x.signaled) refl) ∙ flag-read x.signaled)

-- ---- the event at a position, of records from record `i` on

nth-other : (m : ℕ) (w : List ℕ) (base i n : ℕ) → is_event w (entry_at base i) ≡ false → nth_in (suc m) w base i n ≡ nth_in m w base (i + 1) n
unfolding nth_in is_nth passed_to
nth-other m w base i n e =
    ap (λ (b : Bool). cond (cond b (eqb n 0) false) (entry_at base i) (nth_in m w base (i + 1) (cond b (n - 1) n))) e

nth-event : (m : ℕ) (w : List ℕ) (base i n : ℕ) → is_event w (entry_at base i) ≡ true → nth_in (suc m) w base i n ≡ cond (eqb n 0) (entry_at base i) (nth_in m w base (i + 1) (n - 1))
unfolding nth_in is_nth passed_to
nth-event m w base i n e =
    ap (λ (b : Bool). cond (cond b (eqb n 0) false) (entry_at base i) (nth_in m w base (i + 1) (cond b (n - 1) n))) e

module _ (w : List ℕ) (base : ℕ) (low : base ≤ 1000000) (high : at.header_size ≤ base) where
  event-at : (i : ℕ) (x : Object) → i ≤ 8192 → Row w (base + 32 * i) (object_row x) → is_event w (entry_at base i) ≡ eqb (kind_of x) 1
  unfolding is_event
  event-at i x h r = ap (λ (p : ℕ). eqb (get_or w (p + at.kind) 0) 1) (entry_place base i low h) ∙ ap (λ (k : ℕ). eqb k 1) (r 1 (kind_of x) (row-kind x))

  -- the records of a list, from record `i` on
  abbrev Rows : ℕ → List Object → Type 0
  Rows i ys = (t : ℕ) (x : Object) → nth ys t ≡ some x → Row w (base + 32 * (i + t)) (object_row x)

  first : (i : ℕ) (x : Object) (ys : List Object) → Rows i (x ∷ ys) → Row w (base + 32 * i) (object_row x)
  first i x ys rows = subst (λ (k : ℕ). Row w (base + 32 * k) (object_row x)) (let z : i + 0 ≡ i = omega arith in z) (rows 0 x refl)

  later : (i : ℕ) (x : Object) (ys : List Object) → Rows i (x ∷ ys) → Rows (i + 1) ys
  later i x ys rows t y e = subst (λ (k : ℕ). Row w (base + 32 * k) (object_row y)) (let z : i + suc t ≡ i + 1 + t = omega arith in z) (rows (suc t) y e)

  pub nth-state : (ys : List Object) (i n : ℕ) → i + length ys ≤ 8192 → Rows i ys
      → told (state_at w (nth_in (length ys) w base i n)) ≡ given (nth (events_of ys) n) None EventIs
  unfolding nth_in state_at
  nth-state [] i n few rows = refl
  nth-state (mutex m ∷ ys) i n few rows =
      ap (λ (p : ℕ). told (state_at w p)) (nth-other (length ys) w base i n (event-at i (mutex m) (omega arith) (first i (mutex m) ys rows))) ∙ nth-state ys (i + 1) n (omega arith) (later i (mutex m) ys rows)
  nth-state (timer m ∷ ys) i n few rows =
      ap (λ (p : ℕ). told (state_at w p)) (nth-other (length ys) w base i n (event-at i (timer m) (omega arith) (first i (timer m) ys rows))) ∙ nth-state ys (i + 1) n (omega arith) (later i (timer m) ys rows)
  nth-state (event m ∷ ys) i zero few rows =
      ap (λ (p : ℕ). told (state_at w p)) (nth-event (length ys) w base i zero (event-at i (event m) (omega arith) (first i (event m) ys rows)) ∙ entry_place base i low (omega arith))
      ∙ state-read w (base + 32 * i) m (first i (event m) ys rows) (λ z. omega arith)
  nth-state (event m ∷ ys) i (suc n) few rows =
      ap (λ (p : ℕ). told (state_at w p))
      (nth-event (length ys) w base i (suc n) (event-at i (event m) (omega arith) (first i (event m) ys rows))
      ∙ ap (λ (b : Bool). cond b (entry_at base i) (nth_in (length ys) w base (i + 1) (suc n - 1))) (ne_eqb (suc n) 0 (λ e. omega arith)) ∙ ap (nth_in (length ys) w base (i + 1)) (let z : suc n - 1 ≡ n = omega arith in z))
      ∙ nth-state ys (i + 1) n (omega arith) (later i (event m) ys rows)

module _ (w : List ℕ) (s : State) (a : Agree w s) where
  abbrev hold : ℕ → ℕ
  hold = holder_of s.dispatcher.objects

  abbrev act : ℕ
  act = active_address s.dpcs.table

  -- ---- event_state, event_states

  pub agree-event-state : (key : ℕ) → told (code.event_state w key) ≡ (step (call.Reads (call.EventState key)) s).answer
  unfolding code.event_state state_at refusal read_refusal effect read_answer
  agree-event-state key =
      go (event_at s.dispatcher.objects key) refl ∙ sym (ap (λ (o : Outcome). o.answer) (step-accepted (call.Reads (call.EventState key)) s refl))
    where
      go : (r : Option Event) → event_at s.dispatcher.objects key ≡ r → told (state_at w (place_of w 1 key)) ≡ given (event_at s.dispatcher.objects key) None EventIs
      go none q =
          ap (λ (b : Bool). told (cond b answer.None (answer.Event (get_or w (place_of w 1 key + at.key) 0) (not (eqb (get_or w (place_of w 1 key + at.manual) 0) 0)) (not (eqb (get_or w (place_of w 1 key + at.signaled) 0) 0)))))
          (event-known w s hold act a key ∙ ap (λ (o : Option Event). not (present o)) q)
          ∙ ap (λ (o : Option Event). given o None EventIs) (sym q)
      go (some x) q =
          let e = event-found (object_at s.dispatcher.objects key) x q in
          ap (λ (p : ℕ). told (state_at w p)) (object-place w s hold act a key (event x) e)
          ∙ state-read w (objects_from s.limits + 32 * below key_of key s.dispatcher.objects) x (object-row w s hold act a key (event x) e) (λ z. omega arith)
          ∙ ap (λ (o : Option Event). given o None EventIs) (sym q)

  pub agree-event-states : (position : ℕ) → told (event_states w position) ≡ (step (call.Reads (call.EventStates position)) s).answer
  unfolding event_states nth_event refusal read_refusal effect read_answer
  agree-event-states position =
      ap (λ (n : ℕ). told (state_at w (nth_in n w (objects_base w) 0 position))) (object-count-is w s hold act a)
      ∙ ap (λ (p : ℕ). told (state_at w (nth_in (length s.dispatcher.objects) w p 0 position))) (base-is w s hold act a)
      ∙ nth-state w (objects_from s.limits) (omega (arith, a.shape.sizes.limits.threads)) (omega arith) s.dispatcher.objects 0 position (omega (arith, objects-few w s hold act a))
      (λ t x e. subst (λ (k : ℕ). Row w (objects_from s.limits + 32 * k) (object_row x)) (let z : t ≡ 0 + t = omega arith in z) (a.objects t x e))
      ∙ sym (ap (λ (o : Outcome). o.answer) (step-accepted (call.Reads (call.EventStates position)) s refl))

  -- ---- initialize_event

  module _ (v : Valid s) where
    pub event-refusal : (key : ℕ) → code.event_refusal w key ≡ event_refusal s key
    unfolding code.event_refusal event_refusal
    event-refusal key =
        ap (λ (b : Bool). cond b 5 (cond (eqb key 0) 4 (cond (objects.full w key) 4 (cond (wake.waits_on w 1 key) 6 0)))) (collides-is w s hold act a 1 key)
        ∙ ap (λ (b : Bool). cond (collides s 1 key) 5 (cond (eqb key 0) 4 (cond b 4 (cond (wake.waits_on w 1 key) 6 0)))) (full_is w s hold act a key)
        ∙ ap (λ (b : Bool). cond (collides s 1 key) 5 (cond (eqb key 0) 4 (cond (is_full s key) 4 (cond b 6 0)))) (waits-on-is w s hold act a v.sound.standing.waiters_waiting 1 key)

    pub agree-initialize-event : (key : ℕ) (manual signaled : Bool) → Plainly (code.initialized w key manual signaled) (step (call.InitializeEvent key manual signaled) s)
    unfolding code.initialized new_event refusal effect event_refusal
    agree-initialize-event key manual signaled =
        plainly-unless w s a (call.InitializeEvent key manual signaled) (code.event_refusal w key) (outcome answer.Done (entered w key (new_event manual signaled))) (event-refusal key)
        (λ e. let r₁ = passes (collides s 1 key) 4 _ e in
        let r₂ = passes (eqb key 0) 3 _ r₁.1 in
        let r₃ = passes (is_full s key) 3 _ r₂.1 in
        let x : Event = record { key = key; manual = manual; signaled = signaled } in
        record {
          answers = refl;
          agree = agree-enter w s a (event x) (new_event manual signaled) (room_for s v (event x) r₃.0) tt refl (λ b. refl) (no-timer s 1 key refl r₁.0);
        })
