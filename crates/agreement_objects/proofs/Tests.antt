-- What the calls on objects ask of the tables: the words answer what the log answers.
use Prim.Native.Nat.{ℕ, ◌+◌, ◌*◌, ◌≤◌}
use mathlib.Core.List.{List}
use mathlib.Core.Bool.{Bool, true, false, cond, not}
use mathlib.Core.Option.{Option, none, some}
use mathlib.Core.Path.{◌≡◌, refl, sym, ap, ◌∙◌}
use native.Mathlib.Omega.{arith}
use borrow.Author.Tests.{eqb-false, leb-true, ne_eqb}
use lib.ListN.{get_or, length}
use lib.Dec.{eqb, leb}
use Rattle.words.specs.Layout as at
use Rattle.waits.specs.Object.{exited}
use Rattle.objects.specs.Objects as code
use Rattle.objects.specs.Objects.{place_of, object_found, dpc_found}
use Rattle.mutexes.specs.Mutexes.{owner_of, live}
use Rattle.model.specs.Lists.{present, given}
use Rattle.model.specs.State as state
use Rattle.model.specs.State.{State, Mutex, Object, mutex, Status, running, ready, waiting}
use Rattle.model.specs.Threads.{is_thread, is_live, has_exited, status_of}
use Rattle.model.specs.Waits.{key_of, kind_of, object_at, as_mutex, as_event, as_timer, mutex_at, event_at, timer_at}
use Rattle.model.specs.Dpcs.{address_of, dpc_at}
use Rattle.model.specs.Refusal.{collides, is_full, is_owned}
use Rattle.model.proofs.ListLaws.{not-both}
use Rattle.model.proofs.ObjectLaws.{on-mutex, on-event, on-timer, mutex-found}
use Rattle.agreement_tables.specs.Tables.{below}
use Rattle.agreement_tables.proofs.Lookups as tables
use Rattle.agreement.specs.Records.{status_number}
use Rattle.agreement.specs.Agree.{objects_from, dpcs_from, Agreeing}
use Rattle.agreement.proofs.Headers.{objects-few, dpcs-few}
use Rattle.agreement.proofs.Lookups.{base-is, dpcs-base-is, known_is, thread-word-is, object-keys, object-kinds, dpc-keys, place-of, object-place, object-row}

module _ (w : List ℕ) (s : State) (holder : ℕ → ℕ) (active : ℕ) (a : Agreeing w s holder active) where
  low : objects_from s.limits ≤ 1000000
  low = omega (arith, a.shape.sizes.limits.threads)

  low' : dpcs_from s.limits ≤ 1000000
  low' = omega (arith, a.shape.sizes.limits.threads, a.shape.sizes.limits.objects)

  -- ---- whether there is one

  pub object-known : (key : ℕ) → eqb (object_found w key) 0 ≡ not (present (object_at s.dispatcher.objects key))
  object-known key =
      tables.object-known key_of w (objects_from s.limits) s.dispatcher.objects low (omega arith) (base-is w s holder active a)
      (a.numbers at.objects (length s.dispatcher.objects) refl) (objects-few w s holder active a) a.shape.rising (object-keys w s holder active a) key

  pub dpc-known : (address : ℕ) → eqb (dpc_found w address) 0 ≡ not (present (dpc_at s.dpcs.table address))
  dpc-known address =
      tables.dpc-known address_of w (dpcs_from s.limits) s.dpcs.table low' (omega arith) (dpcs-base-is w s holder active a)
      (a.numbers at.dpcs (length s.dpcs.table) refl) (dpcs-few w s holder active a) a.shape.dpcs.rising (dpc-keys w s holder active a) address

  -- another kind has the key, or a DPC
  pub collides-is : (kind key : ℕ) → code.collides w kind key ≡ collides s kind key
  unfolding collides
  collides-is kind key =
      tables.collides-is key_of w (objects_from s.limits) s.dispatcher.objects low (omega arith) (base-is w s holder active a)
      (a.numbers at.objects (length s.dispatcher.objects) refl) (objects-few w s holder active a) a.shape.rising (object-keys w s holder active a) kind_of (object-kinds w s holder active a)
      kind key (present (dpc_at s.dpcs.table key)) (dpc-known key)

  -- the key is new and the table at its limit
  pub full_is : (key : ℕ) → code.full w key ≡ is_full s key
  unfolding is_full
  full_is key =
      tables.full_is key_of w (objects_from s.limits) s.dispatcher.objects low (omega arith) (base-is w s holder active a)
      (a.numbers at.objects (length s.dispatcher.objects) refl) (objects-few w s holder active a) a.shape.rising (object-keys w s holder active a) key
      ∙ ap (λ (n : ℕ). cond (present (object_at s.dispatcher.objects key)) false (leb n (length s.dispatcher.objects))) (a.numbers at.object_limit s.limits.objects refl)

  -- ---- an object of a kind

  abbrev place : ℕ → ℕ
  place key = objects_from s.limits + 32 * below key_of key s.dispatcher.objects

  abbrev Place : ℕ → ℕ → Option Object → ℕ
  Place kind key o = given o 0 (λ x. cond (eqb (kind_of x) kind) (place key) 0)

  some-place : (key : ℕ) → eqb (place key) 0 ≡ false
  some-place key = ne_eqb (place key) 0 (λ q. omega arith)

  pub mutex-known : (key : ℕ) → eqb (place_of w 0 key) 0 ≡ not (present (mutex_at s.dispatcher.objects key))
  mutex-known key = ap (λ (p : ℕ). eqb p 0) (place-of w s holder active a 0 key) ∙ go (object_at s.dispatcher.objects key)
    where
      go : (o : Option Object) → eqb (Place 0 key o) 0 ≡ not (present (as_mutex o))
      go none = refl
      go (some x) = on-mutex (λ o. eqb (Place 0 key (some x)) 0 ≡ not (present o)) x (λ n. ap (λ (b : Bool). eqb (cond b (place key) 0) 0) n) (λ y q. ap (λ (z : Object). eqb (Place 0 key (some z)) 0) q ∙ some-place key)

  pub event-known : (key : ℕ) → eqb (place_of w 1 key) 0 ≡ not (present (event_at s.dispatcher.objects key))
  event-known key = ap (λ (p : ℕ). eqb p 0) (place-of w s holder active a 1 key) ∙ go (object_at s.dispatcher.objects key)
    where
      go : (o : Option Object) → eqb (Place 1 key o) 0 ≡ not (present (as_event o))
      go none = refl
      go (some x) = on-event (λ o. eqb (Place 1 key (some x)) 0 ≡ not (present o)) x (λ n. ap (λ (b : Bool). eqb (cond b (place key) 0) 0) n) (λ y q. ap (λ (z : Object). eqb (Place 1 key (some z)) 0) q ∙ some-place key)

  pub timer-known : (key : ℕ) → eqb (place_of w 2 key) 0 ≡ not (present (timer_at s.dispatcher.objects key))
  timer-known key = ap (λ (p : ℕ). eqb p 0) (place-of w s holder active a 2 key) ∙ go (object_at s.dispatcher.objects key)
    where
      go : (o : Option Object) → eqb (Place 2 key o) 0 ≡ not (present (as_timer o))
      go none = refl
      go (some x) = on-timer (λ o. eqb (Place 2 key (some x)) 0 ≡ not (present o)) x (λ n. ap (λ (b : Bool). eqb (cond b (place key) 0) 0) n) (λ y q. ap (λ (z : Object). eqb (Place 2 key (some z)) 0) q ∙ some-place key)

  -- ---- the owner of a mutex, 0 where there is none

  pub owner-is : (key : ℕ) → owner_of w key ≡ given (mutex_at s.dispatcher.objects key) 0 (λ (m : Mutex). m.owner)
  unfolding owner_of
  owner-is key = go (mutex_at s.dispatcher.objects key) refl
    where
      by : (b : Bool) → eqb (place_of w 0 key) 0 ≡ b → cond (eqb (place_of w 0 key) 0) 0 (get_or w (place_of w 0 key + at.owner) 0) ≡ cond b 0 (get_or w (place_of w 0 key + at.owner) 0)
      by b e = ap (λ (c : Bool). cond c 0 (get_or w (place_of w 0 key + at.owner) 0)) e

      known : (o : Option Mutex) → mutex_at s.dispatcher.objects key ≡ o → eqb (place_of w 0 key) 0 ≡ not (present o)
      known o e = mutex-known key ∙ ap (λ (p : Option Mutex). not (present p)) e

      go : (o : Option Mutex) → mutex_at s.dispatcher.objects key ≡ o → cond (eqb (place_of w 0 key) 0) 0 (get_or w (place_of w 0 key + at.owner) 0) ≡ given o 0 (λ (m : Mutex). m.owner)
      go none e = by true (known none e)
      go (some m) q =
          let e = mutex-found (object_at s.dispatcher.objects key) m q in
          by false (known (some m) q)
          ∙ ap (λ (p : ℕ). get_or w (p + at.owner) 0) (object-place w s holder active a key (mutex m) e)
          ∙ object-row w s holder active a key (mutex m) e 4 m.owner refl

  pub owned-is : (key : ℕ) → eqb (owner_of w key) 0 ≡ not (is_owned s.dispatcher.objects key)
  owned-is key = ap (λ (n : ℕ). eqb n 0) (owner-is key) ∙ go (mutex_at s.dispatcher.objects key)
    where
      twice : (b : Bool) → b ≡ not (not b)
      twice true = refl
      twice false = refl

      go : (o : Option Mutex) → eqb (given o 0 (λ (m : Mutex). m.owner)) 0 ≡ not (given o false (λ (m : Mutex). not (eqb m.owner 0)))
      go none = refl
      go (some m) = twice (eqb m.owner 0)

  -- ---- a thread that has not exited

  thread-range : (id : ℕ) → is_thread s.dispatcher id ≡ true → (1 ≤ id) × (id ≤ length s.dispatcher.threads)
  thread-range id q = go (eqb id 0) refl q
    where
      go : (b : Bool) → eqb id 0 ≡ b → cond b false (leb id (length s.dispatcher.threads)) ≡ true → (1 ≤ id) × (id ≤ length s.dispatcher.threads)
      go true e h = absurd (not-both (sym h))
      go false e h = (omega (arith, eqb-false id 0 e), leb-true id (length s.dispatcher.threads) h)

  pub exited-is : (id : ℕ) → exited w id ≡ cond (is_thread s.dispatcher id) (has_exited (status_of s.dispatcher id)) false
  unfolding exited
  exited-is id = ap (λ (b : Bool). cond b (eqb (get_or w (at.thread_at id + at.state) 0) 4) false) (known_is w s holder active a id) ∙ go (is_thread s.dispatcher id) refl
    where
      number : (x : Status) → eqb (status_number x) 4 ≡ has_exited x
      number running = refl
      number ready = refl
      number (waiting x) = refl
      number (state.exited n) = refl

      go : (b : Bool) → is_thread s.dispatcher id ≡ b → cond b (eqb (get_or w (at.thread_at id + at.state) 0) 4) false ≡ cond b (has_exited (status_of s.dispatcher id)) false
      go true q =
          let r = thread-range id q in
          ap (λ (n : ℕ). eqb n 4) (thread-word-is w s holder active a id r.0 r.1 1 (status_number (status_of s.dispatcher id)) refl) ∙ number (status_of s.dispatcher id)
      go false q = refl

  pub live-is : (id : ℕ) → live w id ≡ is_live s.dispatcher id
  unfolding live
  live-is id = ap (λ (b : Bool). cond b (not (exited w id)) false) (known_is w s holder active a id) ∙ ap (λ (e : Bool). cond (is_thread s.dispatcher id) (not e) false) (exited-is id) ∙ go (is_thread s.dispatcher id) (has_exited (status_of s.dispatcher id))
    where
      go : (b e : Bool) → cond b (not (cond b e false)) false ≡ cond b (cond e false true) false
      go true true = refl
      go true false = refl
      go false e = refl
