-- 15 and 16: whether a place is one, and whether it is free. The walks of both tables ask what the log asks of its lists.
use Prim.Native.Nat.{ℕ, ◌+◌, ◌*◌}
use mathlib.Core.List.{List, [], ◌∷◌}
use mathlib.Core.Bool.{Bool, true, false, cond, not, ◌&&◌}
use mathlib.Core.Path.{◌≡◌, refl, ap, ◌∙◌}
use native.Mathlib.Omega.{arith}
use borrow.Author.Tests.{eqb-false}
use lib.ListN.{get_or, length}
use lib.Dec.{eqb}
use Rattle.words.specs.Layout as at
use Rattle.arch.specs.declared.Architecture.{Architecture}
use Rattle.objects.specs.Objects.{objects_base, dpcs_base}
use Rattle.images.specs.declared.Timer.{Timer}
use Rattle.images.specs.declared.Dpc.{Dpc}
use Rattle.images.specs.declared.TimerBacking.{TimerBacking}
use Rattle.images.specs.Place.{architecture_number, architecture_of, timer_size, dpc_size, overlaps, location_refusal}
use Rattle.images.proofs.PlaceLaws.{refused-15}
use Rattle.timers.specs.Record.{size_at, dpc_size_at, some_in}
use Rattle.timers.specs.Initialize as code
use Rattle.model.specs.Lists.{any}
use Rattle.model.specs.State.{State, Mutex, Event, Object, mutex, event, timer}
use Rattle.model.specs.Waits.{timers_of, events_of, mutexes_of}
use Rattle.model.specs.Refusal.{is_overlapped, place_refusal}
use Rattle.agreement.specs.Row.{Row}
use Rattle.agreement.specs.Records.{object_row, dpc_row}
use Rattle.agreement.specs.Agree.{objects_from, dpcs_from, Agreeing}
use Rattle.agreement.proofs.Headers.{objects-few, dpcs-few}
use Rattle.agreement.proofs.Records.{architecture-read}
use Rattle.agreement.proofs.Walks.{some_is}
use Rattle.agreement.proofs.Lookups.{base-is, dpcs-base-is, object-count-is, dpc-count-is}

-- ---- objects by kind

module _ (t : Timer → Bool) (e : Event → Bool) (m : Mutex → Bool) where
  abbrev pub by_kind : Object → Bool
  by_kind (mutex x) = m x
  by_kind (event x) = e x
  by_kind (timer x) = t x

  -- one of the objects passes: a timer, an event or a mutex
  any-kind : (l : List Object) → any by_kind l ≡ cond (any t (timers_of l)) true (cond (any e (events_of l)) true (any m (mutexes_of l)))
  any-kind [] = refl
  any-kind (mutex x ∷ l) = ap (λ (b : Bool). cond (m x) true b) (any-kind l) ∙ go (m x) (any t (timers_of l)) (any e (events_of l)) (any m (mutexes_of l))
    where
      go : (x a b c : Bool) → cond x true (cond a true (cond b true c)) ≡ cond a true (cond b true (cond x true c))
      go true true b c = refl
      go true false true c = refl
      go true false false c = refl
      go false a b c = refl
  any-kind (event x ∷ l) = ap (λ (b : Bool). cond (e x) true b) (any-kind l) ∙ go (e x) (any t (timers_of l)) (any e (events_of l)) (any m (mutexes_of l))
    where
      go : (x a b c : Bool) → cond x true (cond a true (cond b true c)) ≡ cond a true (cond (cond x true b) true c)
      go true true b c = refl
      go true false b c = refl
      go false a b c = refl
  any-kind (timer x ∷ l) = ap (λ (b : Bool). cond (t x) true b) (any-kind l) ∙ go (t x) (any t (timers_of l)) (cond (any e (events_of l)) true (any m (mutexes_of l)))
    where
      go : (x a b : Bool) → cond x true (cond a true b) ≡ cond (cond x true a) true b
      go true a b = refl
      go false a b = refl

-- a record that is replaced is not in its own way
apart : (b c : Bool) → cond b false c ≡ not b && c
apart true c = refl
apart false c = refl

module _ (w : List ℕ) (address size : ℕ) where
  abbrev timer_test : Timer → Bool
  timer_test t = not (eqb t.address address) && overlaps address size t.address (timer_size t.architecture)

  abbrev dpc_test : Dpc → Bool
  dpc_test d = not (eqb d.address address) && overlaps address size d.address (dpc_size d.architecture)

  abbrev event_test : Event → Bool
  event_test e = overlaps address size e.key 24

  abbrev mutex_test : Mutex → Bool
  mutex_test m = overlaps address size m.key 56

  -- what the words of a record say
  object-test : (place : ℕ) (x : Object) → Row w place (object_row x) → code.object_overlaps w place address size ≡ by_kind timer_test event_test mutex_test x
  unfolding code.object_overlaps size_at
  object-test place (mutex x) r =
      ap (λ (k : ℕ). cond (eqb k 2) (cond (eqb (get_or w (place + at.key) 0) address) false (overlaps address size (get_or w (place + at.key) 0) (timer_size (architecture_of (get_or w (place + at.timer_architecture) 0)))))
      (cond (eqb k 1) (overlaps address size (get_or w (place + at.key) 0) 24) (overlaps address size (get_or w (place + at.key) 0) 56))) (r 1 0 refl)
      ∙ ap (λ (k : ℕ). overlaps address size k 56) (r 0 x.key refl)
  object-test place (event x) r =
      ap (λ (k : ℕ). cond (eqb k 2) (cond (eqb (get_or w (place + at.key) 0) address) false (overlaps address size (get_or w (place + at.key) 0) (timer_size (architecture_of (get_or w (place + at.timer_architecture) 0)))))
      (cond (eqb k 1) (overlaps address size (get_or w (place + at.key) 0) 24) (overlaps address size (get_or w (place + at.key) 0) 56))) (r 1 1 refl)
      ∙ ap (λ (k : ℕ). overlaps address size k 24) (r 0 x.key refl)
  object-test place (timer x) r =
      ap (λ (k : ℕ). cond (eqb k 2) (cond (eqb (get_or w (place + at.key) 0) address) false (overlaps address size (get_or w (place + at.key) 0) (timer_size (architecture_of (get_or w (place + at.timer_architecture) 0)))))
      (cond (eqb k 1) (overlaps address size (get_or w (place + at.key) 0) 24) (overlaps address size (get_or w (place + at.key) 0) 56))) (r 1 2 refl)
      ∙ ap (λ (k : ℕ). cond (eqb k address) false (overlaps address size k (timer_size (architecture_of (get_or w (place + at.timer_architecture) 0))))) (r 0 x.address refl)
      ∙ ap (λ (k : Architecture). cond (eqb x.address address) false (overlaps address size x.address (timer_size k)))
      (ap architecture_of (r 12 (architecture_number x.architecture) refl) ∙ architecture-read x.architecture)
      ∙ apart (eqb x.address address) (overlaps address size x.address (timer_size x.architecture))

  dpc-test : (place holder : ℕ) (d : Dpc) → Row w place (dpc_row holder d) → code.dpc_overlaps w place address size ≡ dpc_test d
  unfolding code.dpc_overlaps dpc_size_at
  dpc-test place holder d r =
      ap (λ (k : ℕ). cond (eqb k address) false (overlaps address size k (dpc_size (architecture_of (get_or w (place + at.dpc_architecture) 0))))) (r 0 d.address refl)
      ∙ ap (λ (k : Architecture). cond (eqb d.address address) false (overlaps address size d.address (dpc_size k)))
      (ap architecture_of (r 4 (architecture_number d.architecture) refl) ∙ architecture-read d.architecture)
      ∙ apart (eqb d.address address) (overlaps address size d.address (dpc_size d.architecture))

module _ (w : List ℕ) (s : State) (holder : ℕ → ℕ) (active : ℕ) (a : Agreeing w s holder active) where
  any-object : (address size : ℕ) → code.any_object w address size ≡ any (by_kind (timer_test w address size) (event_test w address size) (mutex_test w address size)) s.dispatcher.objects
  unfolding code.any_object
  any-object address size =
      ap (λ (n : ℕ). some_in n (λ place. code.object_overlaps w place address size) (objects_base w) 0) (object-count-is w s holder active a)
      ∙ ap (λ (p : ℕ). some_in (length s.dispatcher.objects) (λ place. code.object_overlaps w place address size) p 0) (base-is w s holder active a)
      ∙ some_is (λ place. code.object_overlaps w place address size) (by_kind (timer_test w address size) (event_test w address size) (mutex_test w address size)) (objects_from s.limits)
      (omega (arith, a.shape.sizes.limits.threads)) s.dispatcher.objects 0 (omega (arith, objects-few w s holder active a))
      (λ t x e. ap (λ (k : ℕ). code.object_overlaps w (objects_from s.limits + 32 * k) address size) (let z : 0 + t ≡ t = omega arith in z)
      ∙ object-test w address size (objects_from s.limits + 32 * t) x (a.objects t x e))

  any-dpc : (address size : ℕ) → code.any_dpc w address size ≡ any (dpc_test w address size) s.dpcs.table
  unfolding code.any_dpc
  any-dpc address size =
      ap (λ (n : ℕ). some_in n (λ place. code.dpc_overlaps w place address size) (dpcs_base w) 0) (dpc-count-is w s holder active a)
      ∙ ap (λ (p : ℕ). some_in (length s.dpcs.table) (λ place. code.dpc_overlaps w place address size) p 0) (dpcs-base-is w s holder active a)
      ∙ some_is (λ place. code.dpc_overlaps w place address size) (dpc_test w address size) (dpcs_from s.limits)
      (omega (arith, a.shape.sizes.limits.threads, a.shape.sizes.limits.objects)) s.dpcs.table 0 (omega (arith, dpcs-few w s holder active a))
      (λ t d e. ap (λ (k : ℕ). code.dpc_overlaps w (dpcs_from s.limits + 32 * k) address size) (let z : 0 + t ≡ t = omega arith in z)
      ∙ dpc-test w address size (dpcs_from s.limits + 32 * t) (holder d.address) d (a.dpcs t d e))

  pub place-refusal : (address size : ℕ) (arch : Architecture) (b : TimerBacking) → code.place_refusal w address size arch b ≡ place_refusal s address size arch b
  unfolding code.place_refusal code.range_refusal place_refusal is_overlapped
  place-refusal address size arch b = go (eqb (location_refusal address size arch b) 0) refl
    where
      range : (t d e m : Bool) → cond {A = ℕ} (cond t true (cond e true m)) 16 (cond d 16 0) ≡ cond (cond t true (cond d true (cond e true m))) 16 0
      range true d e m = refl
      range false true true m = refl
      range false true false true = refl
      range false true false false = refl
      range false false e m = refl

      ranged : code.range_refusal w address size ≡ cond (is_overlapped s address size) 16 0
      ranged =
          ap (λ (x : Bool). cond x 16 (cond (code.any_dpc w address size) 16 0)) (any-object address size ∙ any-kind (timer_test w address size) (event_test w address size) (mutex_test w address size) s.dispatcher.objects)
          ∙ ap (λ (x : Bool). cond (cond (any (timer_test w address size) (timers_of s.dispatcher.objects)) true
          (cond (any (event_test w address size) (events_of s.dispatcher.objects)) true (any (mutex_test w address size) (mutexes_of s.dispatcher.objects)))) 16 (cond x 16 0)) (any-dpc address size)
          ∙ range (any (timer_test w address size) (timers_of s.dispatcher.objects)) (any (dpc_test w address size) s.dpcs.table) (any (event_test w address size) (events_of s.dispatcher.objects))
          (any (mutex_test w address size) (mutexes_of s.dispatcher.objects))

      go : (x : Bool) → eqb (location_refusal address size arch b) 0 ≡ x
          → cond x (code.range_refusal w address size) (location_refusal address size arch b) ≡ cond x (cond (is_overlapped s address size) 16 0) 15
      go true q = ranged
      go false q = refused-15 address size arch b (eqb-false (location_refusal address size arch b) 0 q)
