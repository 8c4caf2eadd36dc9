-- A mutex, an event, a timer or a DPC made: its record stands within the words that the limits need.
use Prim.Native.Nat.{ℕ, ◌+◌, ◌*◌, ◌≤◌, ◌<◌}
use mathlib.Core.List.{List, [], ◌∷◌}
use mathlib.Core.Bool.{Bool, true, false, cond}
use mathlib.Core.Option.{Option, none, some}
use mathlib.Core.Path.{◌≡◌, refl, sym, ap, ◌∙◌}
use native.Mathlib.Omega.{arith}
use lib.Dec.{eqb}
use lib.ListN.{get_or, set, length}
use Rattle.words.specs.Layout as at
use Rattle.arch.specs.declared.Architecture.{Architecture}
use Rattle.images.specs.declared.TimerBacking.{TimerBacking}
use Rattle.images.specs.Place.{architecture_number, backing_kind, backing_base, backing_size, backing_mapped}
use Rattle.images.specs.declared.Dpc.{Dpc}
use Rattle.images.specs.declared.DpcPhase.TheVariants.{Idle}
use Rattle.objects.specs.declared.Object as stored
use Rattle.objects.specs.Objects.{entered, place_of}
use Rattle.mutexes.specs.Mutexes as mutexes
use Rattle.events.specs.Events as events
use Rattle.timers.specs.Initialize as timers
use Rattle.dpc_table.specs.Table as dpc-words
use Rattle.model.specs.State.{State, Object, mutex, event, timer}
use Rattle.model.specs.Waits.{key_of, object_at, put_object}
use Rattle.model.specs.Timers.{new_timer}
use Rattle.model.specs.Step.{dpc_initialized}
use Rattle.model.specs.Dpcs.{address_of, put_dpc}
use Rattle.model.specs.Valid.{Valid}
use Rattle.model.specs.Refusal.{collides, is_full, mutex_refusal, event_refusal, timer_refusal}
use Rattle.model.proofs.RowLaws.{passes}
use Rattle.model.proofs.KeepObjects.{room_for}
use Rattle.model.proofs.KeepDpcs.{valid-init-dpc}
use Rattle.agreement_chains.specs.Chains.{Same}
use Rattle.agreement_chains.proofs.Frames.{set-outside, same_then}
use Rattle.agreement_tables.specs.Tables.{below}
use Rattle.agreement_tables.proofs.Lists.{nth_in, put-new, put-known}
use Rattle.agreement_tables.proofs.Objects as rows
use Rattle.agreement_tables.proofs.Dpcs as dpc-rows
use Rattle.agreement.specs.Records.{holder_of, active_address}
use Rattle.agreement.specs.Agree.{objects_from, dpcs_from, Agree}
use Rattle.agreement.proofs.Rows.{Store, store, written, In, written-outside}
use Rattle.agreement.proofs.Places.{Any}
use Rattle.agreement.proofs.Lookups.{base-is, dpcs-base-is, object-keys, dpc-keys}
use Rattle.agreement_objects.proofs.Enter.{entered-place}
use Rattle.agreement_objects.proofs.Mutexes.{mutex-refusal}
use Rattle.agreement_objects.proofs.Events.{event-refusal}
use Rattle.agreement_objects.proofs.Timers.{timer-refusal}
use Rattle.agreement_objects.proofs.Dpcs.{dpc-refusal}
use Rattle.agreement_past.specs.Past.{Beyond}
use Rattle.agreement_past.proofs.Kept.{unless-kept, same}

-- the words of a timer's record behind those of every object
abbrev rest_stores : Architecture → TimerBacking → ℕ → List Store
rest_stores a b n =
    store at.inserted 0 ∷ store at.due 0 ∷ store at.period 0 ∷ store at.timer_dpc 0 ∷ store at.absolute 0 ∷ store at.arm 0 ∷ store at.timer_architecture (architecture_number a) ∷ store at.timer_backing (backing_kind b) ∷ store at.timer_base (backing_base b) ∷ store at.timer_size (backing_size b)
    ∷ store at.timer_mapped (backing_mapped b) ∷ store at.initialization n ∷ []

rest_in : (a : Architecture) (b : TimerBacking) (n : ℕ) → In Any (rest_stores a b n)
rest_in a b n = (
  omega arith,
  (omega arith, (omega arith, (omega arith, (omega arith, (omega arith, (omega arith, (omega arith, (omega arith, (omega arith, (omega arith, (omega arith, tt))))))))))),
)

rest-kept : (w : List ℕ) (address place : ℕ) (a : Architecture) (b : TimerBacking) (n : ℕ) → place_of w 2 address ≡ place → (R : ℕ → Type 0) → ((k : ℕ) → k < 32 → R (place + k) → ⊥) → Same R w (timers.record_put w address a b n)
unfolding timers.record_put timers.located timers.never_set
rest-kept w address place a b n e R out j r =
    ap (λ (p : ℕ). get_or (written w p (rest_stores a b n)) j 0) e ∙ written-outside R Any w place (rest_stores a b n) (rest_in a b n) (λ k d. out k d) j r

module _ (w : List ℕ) (s : State) (a : Agree w s) (v : Valid s) where
  abbrev R : ℕ → Type 0
  R = Beyond s.limits

  abbrev hold : ℕ → ℕ
  hold = holder_of s.dispatcher.objects

  abbrev act : ℕ
  act = active_address s.dpcs.table

  -- ---- an object entered

  entered-kept : (x : Object) (o : stored.Object) → length (put_object x s.dispatcher.objects) ≤ s.limits.objects → Same (Beyond s.limits) w (entered w (key_of x) o)
  entered-kept x o room =
      rows.entered-outside key_of w (objects_from s.limits) s.dispatcher.objects (omega (arith, a.shape.sizes.limits.threads)) (omega arith) (base-is w s hold act a)
      (a.numbers at.objects (length s.dispatcher.objects) refl) a.shape.rising (object-keys w s hold act a) x o
      (omega (arith, room, a.shape.sizes.limits.objects)) (omega (arith, room, a.enough))
      R (λ r. omega arith) (λ p h l r. omega (arith, room))

  mutex-made : (key owner : ℕ) → mutex_refusal s key ≡ 0 → Same (Beyond s.limits) w (entered w key (mutexes.new_mutex owner))
  unfolding mutex_refusal
  mutex-made key owner e =
      let r₁ = passes (collides s 0 key) 4 _ e in
      let r₂ = passes (eqb key 0) 3 _ r₁.1 in
      let r₃ = passes (is_full s key) 3 _ r₂.1 in
      let x = mutex (record { key = key; owner = owner }) in
      entered-kept x (mutexes.new_mutex owner) (room_for s v x r₃.0)

  pub mutex-kept : (key : ℕ) → Same (Beyond s.limits) w (mutexes.initialized w key).words
  unfolding mutexes.initialized
  mutex-kept key = unless-kept R w (mutexes.mutex_refusal w key) _ (λ e. mutex-made key 0 (sym (mutex-refusal w s a v key) ∙ e))

  -- an adopted mutex is new, or stays as it is
  adopted-new : (key owner : ℕ) → mutexes.known_refusal w key owner ≡ 0 → Same (Beyond s.limits) w (cond (eqb (place_of w 0 key) 0) (entered w key (mutexes.new_mutex owner)) w)
  unfolding mutexes.known_refusal
  adopted-new key owner = go (eqb (place_of w 0 key) 0)
    where
      go : (b : Bool) → cond b (mutexes.mutex_refusal w key) (cond (eqb (mutexes.owner_of w key) owner) 0 10) ≡ 0 → Same (Beyond s.limits) w (cond b (entered w key (mutexes.new_mutex owner)) w)
      go true e = mutex-made key owner (sym (mutex-refusal w s a v key) ∙ e)
      go false e = same R w

  pub adopted-kept : (key : ℕ) (owned : Bool) (owner : ℕ) → Same (Beyond s.limits) w (mutexes.adopted w key owned owner).words
  unfolding mutexes.adopted mutexes.adopt_refusal
  adopted-kept key false owner = unless-kept R w (mutexes.known_refusal w key 0) _ (adopted-new key 0)
  adopted-kept key true owner = unless-kept R w (cond (mutexes.live w owner) (mutexes.known_refusal w key owner) 10) _ (go (mutexes.live w owner))
    where
      go : (b : Bool) → cond b (mutexes.known_refusal w key owner) 10 ≡ 0 → Same (Beyond s.limits) w (cond (eqb (place_of w 0 key) 0) (entered w key (mutexes.new_mutex owner)) w)
      go true e = adopted-new key owner e
      go false e = absurd (omega arith)

  pub event-kept : (key : ℕ) (manual signaled : Bool) → Same (Beyond s.limits) w (events.initialized w key manual signaled).words
  unfolding events.initialized
  event-kept key manual signaled = unless-kept R w (events.event_refusal w key) _ (λ e. made (sym (event-refusal w s a v key) ∙ e))
    where
      made : event_refusal s key ≡ 0 → Same (Beyond s.limits) w (entered w key (events.new_event manual signaled))
      made = unfold event_refusal in (λ e.
          let r₁ = passes (collides s 1 key) 4 _ e in
          let r₂ = passes (eqb key 0) 3 _ r₁.1 in
          let r₃ = passes (is_full s key) 3 _ r₂.1 in
          let x = event (record { key = key; manual = manual; signaled = signaled }) in
          entered-kept x (events.new_event manual signaled) (room_for s v x r₃.0))

  -- an object stands in the table that it is put into
  put-inside : (x : Object) → below key_of (key_of x) s.dispatcher.objects < length (put_object x s.dispatcher.objects)
  put-inside x = go (object_at s.dispatcher.objects (key_of x)) refl
    where
      l : List Object
      l = s.dispatcher.objects

      go : (f : Option Object) → object_at s.dispatcher.objects (key_of x) ≡ f → below key_of (key_of x) s.dispatcher.objects < length (put_object x s.dispatcher.objects)
      go none e = nth_in (put_object x l) (below key_of (key_of x) l) x (put-new key_of x l e).own
      go (some z) e = nth_in (put_object x l) (below key_of (key_of x) l) x (put-known key_of x l a.shape.rising z e).own

  -- ---- a timer: the rest of its record is written where it stands

  record-kept : (address : ℕ) (arch : Architecture) (b : TimerBacking) (manual : Bool) (n : ℕ)
      → length (put_object (timer (new_timer address arch b manual n)) s.dispatcher.objects) ≤ s.limits.objects
      → Same (Beyond s.limits) w (timers.record_put (entered w address (timers.new_timer manual)) address arch b n)
  unfolding new_timer timers.new_timer
  record-kept address arch b manual n room =
      same_then R w w₁ (timers.record_put w₁ address arch b n) (entered-kept x o room)
      (rest-kept w₁ address place arch b n (entered-place w s hold act a x o room refl) R (λ k h r. omega (arith, inside, room)))
    where
      x : Object
      x = timer (new_timer address arch b manual n)

      o : stored.Object
      o = timers.new_timer manual

      w₁ : List ℕ
      w₁ = entered w address (timers.new_timer manual)

      place : ℕ
      place = objects_from s.limits + 32 * below key_of address s.dispatcher.objects

      inside : below key_of address s.dispatcher.objects < length (put_object x s.dispatcher.objects)
      inside = put-inside x

  pub timer-kept : (address : ℕ) (arch : Architecture) (b : TimerBacking) (manual : Bool) → Same (Beyond s.limits) w (timers.timer_initialized w address arch b manual).words
  unfolding timers.timer_initialized
  timer-kept address arch b manual = unless-kept R w (timers.timer_refusal w address arch b) _ (λ e. made (sym (timer-refusal w s a v address arch b) ∙ e))
    where
      n : ℕ
      n = get_or w at.timer_initializations 0 + 1

      record-words : List ℕ
      record-words = timers.record_put (entered w address (timers.new_timer manual)) address arch b n

      made : timer_refusal s address arch b ≡ 0 → Same (Beyond s.limits) w (set (timers.record_put (entered w address (timers.new_timer manual)) address arch b n) at.timer_initializations n)
      made = unfold timer_refusal new_timer in (λ e.
          let r₁ = passes (collides s 2 address) 4 _ e in
          let r₂ = passes (is_full s address) 3 _ r₁.1 in
          same_then R w record-words (set record-words at.timer_initializations n) (record-kept address arch b manual n (room_for s v (timer (new_timer address arch b manual n)) r₂.0)) (set-outside R record-words at.timer_initializations n (λ r. omega arith)))

  -- ---- a DPC

  pub dpc-kept : (address : ℕ) (arch : Architecture) (b : TimerBacking) (routine context : ℕ) → Same (Beyond s.limits) w (timers.dpc_initialized w address arch b routine context).words
  unfolding timers.dpc_initialized dpc_initialized
  dpc-kept address arch b routine context = unless-kept R w (timers.dpc_refusal w address arch b) _
      (λ e. made (valid-init-dpc s v address arch b routine context (sym (dpc-refusal w s a v address arch b) ∙ e)).queueing.room)
    where
      x : Dpc
      x = record { address = address; architecture = arch; backing = b; routine = routine; context = context; phase = Idle }

      made-words : List ℕ
      made-words = dpc-words.entered w address (timers.new_dpc arch b routine context)

      made : length (put_dpc x s.dpcs.table) ≤ s.limits.dpcs
          → Same (Beyond s.limits) w (set (dpc-words.entered w address (timers.new_dpc arch b routine context)) at.dpc_initializations (get_or w at.dpc_initializations 0 + 1))
      made room =
          same_then R w made-words (set made-words at.dpc_initializations (get_or w at.dpc_initializations 0 + 1))
          (dpc-rows.entered-outside address_of w (dpcs_from s.limits) s.dpcs.table (omega (arith, a.shape.sizes.limits.threads, a.shape.sizes.limits.objects)) (omega arith) (dpcs-base-is w s hold act a)
          (a.numbers at.dpcs (length s.dpcs.table) refl) a.shape.dpcs.rising (dpc-keys w s hold act a) x (timers.new_dpc arch b routine context)
          (omega (arith, room, a.shape.sizes.limits.dpcs)) (omega (arith, room, a.enough))
          R (λ r. omega arith) (λ r. omega arith) (λ r. omega arith) (λ t h r. omega (arith, a.shape.sizes.dpcs_fit)) (λ p h l r. omega (arith, room)))
          (set-outside R made-words at.dpc_initializations (get_or w at.dpc_initializations 0 + 1) (λ r. omega arith))
