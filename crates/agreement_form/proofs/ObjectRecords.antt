-- The records of objects in words that agree with a state in form pass the check.
use Prim.Native.Nat.{ℕ, zero, suc, ◌+◌, ◌*◌, ◌≤◌, ◌<◌}
use mathlib.Core.List.{List}
use mathlib.Core.Bool.{Bool, cond, true, false, not}
use mathlib.Core.Option.{some}
use mathlib.Core.Path.{◌≡◌, refl, sym, ap, ◌∙◌}
use native.Mathlib.Omega.{arith}
use borrow.Author.Tests.{ne_eqb, le-leb, le-ltb, leb-true}
use lib.ListN.{get_or, length}
use lib.Dec.{eqb, leb}
use Rattle.words.specs.Layout as at
use Rattle.words.specs.Layout.{entry_at}
use Rattle.tables.specs.Table.{key_at}
use Rattle.objects.specs.Objects.{objects_base}
use Rattle.form_dpc.specs.Timer.{timer_numbers, dpc_serves}
use Rattle.form_threads.specs.Thread.{has_state, live}
use Rattle.form.specs.Object.{mutex_passes, event_passes, object_numbers, owner_lives, object_passes, objects_in, objects_pass}
use Rattle.model.specs.Lists.{nth, Mem}
use Rattle.model.specs.State.{State, Status, running, ready, waiting, exited, Mutex, Event, Object, mutex, event, timer}
use Rattle.model.specs.Threads.{is_thread, is_live, has_exited, status_of}
use Rattle.model.specs.Waits.{key_of, object_at}
use Rattle.model.specs.Valid.{Placed, OwnerLive}
use Rattle.model.specs.Fits.{TimerFits}
use Rattle.model.proofs.ListLaws.{not-both}
use Rattle.model.proofs.ObjectLaws.{on-timer}
use Rattle.model.proofs.LinkLaws.{timer-mem}
use Rattle.images.specs.Place.{timer_size}
use Rattle.agreement_tables.proofs.Lists.{nth-some, nth-mem, find-nth, nth_in}
use Rattle.agreement.specs.Row.{Row}
use Rattle.agreement.specs.Records.{flag, status_number, object_row, holder_of, active_address}
use Rattle.agreement.specs.Agree.{Agree, objects_from}
use Rattle.agreement.proofs.Places.{entry_place}
use Rattle.agreement.proofs.Headers.{objects-few}
use Rattle.agreement.proofs.Lookups.{base-is, object-count-is, object-keys, known_is}
use Rattle.agreement_form.specs.Form.{Form}
use Rattle.agreement_form.proofs.ThreadRecords.{has-state}
use Rattle.agreement_form.proofs.Located.{key-rises, not-at-zero}
use Rattle.agreement_form.proofs.TimerRecords.{flag-few, timer-numbers, dpc-serves}

pub exited-number : (x : Status) → eqb (status_number x) 4 ≡ has_exited x
exited-number running = refl
exited-number ready = refl
exited-number (waiting y) = refl
exited-number (exited n) = refl

-- a number that a thread has
pub is_one : (n i : ℕ) → cond (eqb i 0) false (leb i n) ≡ true → (1 ≤ i) × (i ≤ n)
is_one n zero e = absurd (not-both (sym e))
is_one n (suc i) e = (omega arith, leb-true (suc i) n (ap (λ (b : Bool). cond b false (leb (suc i) n)) (sym (ne_eqb (suc i) 0 (λ q. omega arith))) ∙ e))

-- no key is 0
key-there : (x : Object) → Placed x → key_of x ≡ 0 → ⊥
key-there x = on-timer (λ (Q : Type 0). Q → key_of x ≡ 0 → ⊥) x (λ n p. p)
    (λ t q p z. not-at-zero t.address (timer_size t.architecture) t.architecture t.backing p (sym (ap key_of q) ∙ z))

module _ (w : List ℕ) (s : State) (a : Agree w s) (v : Form s) where
  abbrev objects : List Object
  objects = s.dispatcher.objects

  pub live-is : (id : ℕ) → is_live s.dispatcher id ≡ true → live w id ≡ true
  unfolding live
  live-is id e =
      ap (λ (b : Bool). cond b (not (has_state w id 4)) false) (known_is w s (holder_of objects) (active_address s.dpcs.table) a id)
      ∙ go (is_thread s.dispatcher id) refl e
    where
      last : (b : Bool) → cond b false true ≡ true → not b ≡ true
      last true h = h
      last false h = h

      go : (b : Bool) → is_thread s.dispatcher id ≡ b → cond b (cond (has_exited (status_of s.dispatcher id)) false true) false ≡ true
          → cond (is_thread s.dispatcher id) (not (has_state w id 4)) false ≡ true
      go false q h = absurd (not-both (sym h))
      go true q h =
          let o = is_one (length s.dispatcher.threads) id q in
          ap (λ (b : Bool). cond b (not (has_state w id 4)) false) q
          ∙ ap not (has-state w s a v id o.0 o.1 4 ∙ exited-number (status_of s.dispatcher id))
          ∙ last (has_exited (status_of s.dispatcher id)) h

  module _ (i : ℕ) (x : Object) (e : nth objects i ≡ some x) where
    low : objects_from s.limits ≤ 1000000
    low = omega (arith, a.shape.sizes.limits.threads)

    small : i < length objects
    small = nth_in objects i x e

    few : length objects ≤ 4096
    few = objects-few w s (holder_of objects) (active_address s.dpcs.table) a

    abbrev place : ℕ
    place = objects_from s.limits + 32 * i

    entry : entry_at (objects_from s.limits) i ≡ place
    entry = entry_place (objects_from s.limits) i low (omega (arith, small, few))

    key : key_at w (objects_from s.limits) i ≡ key_of x
    unfolding key_at
    key = ap (λ (p : ℕ). get_or w p 0) entry ∙ object-keys w s (holder_of objects) (active_address s.dpcs.table) a i x e

    there : object_at objects (key_of x) ≡ some x
    there = find-nth key_of objects v.sound.rising i x e

    no-flags : (x : Mutex) → Row w place (object_row (mutex x)) → mutex_passes w place ≡ true
    unfolding mutex_passes
    no-flags x r = simp (r 2 0 refl, r 3 0 refl)

    flags : (x : Event) → Row w place (object_row (event x)) → event_passes w place ≡ true
    unfolding event_passes
    flags x r =
        simp (r 2 (flag x.manual) refl, r 3 (flag x.signaled) refl, le-ltb 1 (flag x.manual) (flag-few x.manual), le-leb (flag x.signaled) 1 (flag-few x.signaled))

    numbers : object_numbers w (objects_from s.limits) i ≡ true
    unfolding object_numbers
    numbers =
        ap (λ (k : ℕ). cond (eqb k 0) false (by_kind (entry_at (objects_from s.limits) i))) key
        ∙ ap (λ (b : Bool). cond b false (by_kind (entry_at (objects_from s.limits) i))) (ne_eqb (key_of x) 0 (key-there x (v.sound.places (key_of x) x there)))
        ∙ ap by_kind entry
        ∙ go x (a.objects i x e) (v.sound.places (key_of x) x there) (v.numbers.timers (key_of x) x there)
      where
        by_kind : ℕ → Bool
        by_kind p = cond (eqb (get_or w (p + at.kind) 0) 0) (mutex_passes w p) (cond (eqb (get_or w (p + at.kind) 0) 1) (event_passes w p) (cond (eqb (get_or w (p + at.kind) 0) 2) (timer_numbers w p) false))

        go : (x : Object) → Row w place (object_row x) → Placed x → TimerFits s.timer_initializations x
            → cond (eqb (get_or w (place + at.kind) 0) 0) (mutex_passes w place) (cond (eqb (get_or w (place + at.kind) 0) 1) (event_passes w place) (cond (eqb (get_or w (place + at.kind) 0) 2) (timer_numbers w place) false)) ≡ true
        go (mutex m) r p f = simp (r 1 0 refl, no-flags m r)
        go (event m) r p f = simp (r 1 1 refl, flags m r)
        go (timer t) r p f = simp (r 1 2 refl, timer-numbers w place t r s.timer_initializations (a.numbers at.timer_initializations s.timer_initializations refl) f p)

    owner : owner_lives w (objects_from s.limits) i ≡ true
    unfolding owner_lives
    owner =
        ap (λ (p : ℕ). cond (eqb (get_or w (p + at.kind) 0) 0) (cond (eqb (get_or w (p + at.owner) 0) 0) true (live w (get_or w (p + at.owner) 0))) (eqb (get_or w (p + at.owner) 0) 0)) entry
        ∙ go x (a.objects i x e) (v.sound.owners (key_of x) x there)
      where
        last : (o : ℕ) (b : Bool) → eqb o 0 ≡ b → cond b true (is_live s.dispatcher o) ≡ true → cond b true (live w o) ≡ true
        last o true q h = refl
        last o false q h = live-is o h

        go : (x : Object) → Row w place (object_row x) → OwnerLive s.dispatcher x
            → cond (eqb (get_or w (place + at.kind) 0) 0) (cond (eqb (get_or w (place + at.owner) 0) 0) true (live w (get_or w (place + at.owner) 0))) (eqb (get_or w (place + at.owner) 0) 0) ≡ true
        go (mutex m) r h = simp (r 1 0 refl, r 4 m.owner refl, last m.owner (eqb m.owner 0) refl h)
        go (event m) r h = simp (r 1 1 refl, r 4 0 refl)
        go (timer t) r h = simp (r 1 2 refl, r 4 0 refl)

    serves : dpc_serves w (entry_at (objects_from s.limits) i) ≡ true
    unfolding dpc_serves
    serves = ap (dpc_serves w) entry ∙ go x (a.objects i x e) (nth-mem objects i x e)
      where
        go : (x : Object) → Row w place (object_row x) → Mem x objects → dpc_serves w place ≡ true
        go (mutex m) r h = simp (r 1 0 refl)
        go (event m) r h = simp (r 1 1 refl)
        go (timer t) r h = dpc-serves w s a v place t r (timer-mem objects t h)

    object-passes : object_passes w (objects_from s.limits) i ≡ true
    unfolding object_passes
    object-passes =
        simp (numbers, key-rises key_of w (objects_from s.limits) objects low few v.sound.rising (object-keys w s (holder_of objects) (active_address s.dpcs.table) a) i small, owner, serves)

  objects-in : (m i : ℕ) → i + m ≤ length objects → objects_in m w (objects_from s.limits) i ≡ true
  unfolding objects_in
  objects-in zero i h = refl
  objects-in (suc m) i h = go (nth-some objects i (omega arith)) (objects-in m (i + 1) (omega arith))
    where
      go : ((x : Object) × (nth objects i ≡ some x)) → objects_in m w (objects_from s.limits) (i + 1) ≡ true → objects_in (suc m) w (objects_from s.limits) i ≡ true
      go (x, e) ih = simp (object-passes i x e, ih)

  pub objects-pass : objects_pass w ≡ true
  unfolding objects_pass
  objects-pass =
      ap (λ (m : ℕ). objects_in m w (objects_base w) 0) (object-count-is w s (holder_of objects) (active_address s.dpcs.table) a)
      ∙ ap (λ (b : ℕ). objects_in (length objects) w b 0) (base-is w s (holder_of objects) (active_address s.dpcs.table) a)
      ∙ objects-in (length objects) 0 (omega arith)
