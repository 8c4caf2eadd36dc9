-- The calls on mutexes and events: as many words.
use Prim.Native.Nat.{ℕ}
use mathlib.Core.List.{List}
use mathlib.Core.Bool.{Bool}
use mathlib.Core.Path.{◌≡◌}
use lib.ListN.{length, length-set}
use Rattle.objects.specs.Objects.{objects_base, object_count}
use Rattle.mutexes.specs.Mutexes as mutexes
use Rattle.events.specs.Events as events
use Rattle.event_release.specs.Release.{retired, events_retired}
use Rattle.agreement_tables.proofs.Retired.{length-retired-in}
use Rattle.agreement_lengths.proofs.Lengths.{length-cond, cond_same, words-cond}
use Rattle.agreement_lengths.proofs.Objects.{length-entered}
use Rattle.agreement_lengths.proofs.Waits.{length-awake}

-- ---- mutexes

pub length-mutex-initialized : (w : List ℕ) (key : ℕ) → length (mutexes.initialized w key).words ≡ length w
unfolding mutexes.initialized
length-mutex-initialized w key = simp (words-cond, cond_same, length-entered)

pub length-adopted : (w : List ℕ) (key : ℕ) (owned : Bool) (owner : ℕ) → length (mutexes.adopted w key owned owner).words ≡ length w
unfolding mutexes.adopted
length-adopted w key owned owner = simp (words-cond, length-cond, cond_same, length-entered)

pub length-freed : (w : List ℕ) (key : ℕ) → length (mutexes.freed w key) ≡ length w
unfolding mutexes.freed
length-freed w key = simp length-set

pub length-released : (w : List ℕ) (key : ℕ) → length (mutexes.released w key).words ≡ length w
unfolding mutexes.released
length-released w key = simp (words-cond, cond_same, length-awake, length-freed)

-- ---- events

pub length-event-initialized : (w : List ℕ) (key : ℕ) (manual signaled : Bool) → length (events.initialized w key manual signaled).words ≡ length w
unfolding events.initialized
length-event-initialized w key manual signaled = simp (words-cond, cond_same, length-entered)

pub length-was-set : (w : List ℕ) (key : ℕ) → length (events.was_set w key).words ≡ length w
unfolding events.was_set
length-was-set w key = simp (words-cond, cond_same, length-awake, length-set)

pub length-was-reset : (w : List ℕ) (key : ℕ) → length (events.was_reset w key).words ≡ length w
unfolding events.was_reset
length-was-reset w key = simp (words-cond, cond_same, length-set)

-- ---- events taken out

pub length-retired : (w : List ℕ) (lo hi : ℕ) → length (retired w lo hi) ≡ length w
unfolding retired
length-retired w lo hi = length-retired-in (object_count w) w (objects_base w) 0 0 lo hi

pub length-events-retired : (w : List ℕ) (base size span : ℕ) → length (events_retired w base size span).words ≡ length w
unfolding events_retired
length-events-retired w base size span = simp (words-cond, cond_same, length-retired)
