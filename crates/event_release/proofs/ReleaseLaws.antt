-- The laws of the walks over the object table.
use Prim.Native.Nat.{ℕ, zero, suc, ◌+◌, ◌-◌, ◌≤◌, ◌<◌}
use native.Mathlib.Omega.{arith}
use mathlib.Core.List.{List, ◌∷◌}
use mathlib.Core.Bool.{Bool, cond, true, false}
use mathlib.Core.Path.{◌≡◌, refl}
use lib.Dec.{eqb, leb}
use lib.ListN.{get_or, set}
use borrow.Author.Tests.{le-ltb, ne_eqb}
use Rattle.std.specs.Prelude.{map, Some}
use Rattle.std.specs.List.{filter, slice_get, range_with_len}
use Rattle.words.specs.Layout as at
use Rattle.words.specs.Layout.{objects_at, entry_at}
use Rattle.tables.specs.Compact.{moved, retained_in, retained_to_in, retained, retained_to}
use Rattle.objects.specs.Found.{nonzero}
use Rattle.objects.specs.Objects.{objects_base, object_count}
use Rattle.event_release.specs.Release.{is_event, is_nth, passed_to, nth_in, is_retired, retired_in, retired}

-- ---- the event at a position is the one at that place of the list of events

either : (b : Bool) (x y : ℕ) → 0 < x → 0 < y → 0 < cond b x y
either true x y h k = h
either false x y h k = k

pub from_base : (w : List ℕ) → 0 < objects_base w
unfolding objects_base objects_at
from_base w = either (leb (get_or w at.thread_limit 0) at.most_threads) _ _ (omega arith) (omega arith)

-- no record stands at 0
placed : (base i : ℕ) → 0 < base → 0 < entry_at base i
unfolding entry_at
placed base i h = either (leb base 1000000) _ _ (either (leb i 8192) _ _ (omega (arith, h)) (omega arith)) (omega arith)

found_here : (x : ℕ) → 0 < x → Some x ≡ nonzero x
found_here x h = simp (ne_eqb x 0 (λ e. omega (arith, h, e)))

less_one : (k : ℕ) → suc k - 1 ≡ k
less_one k = omega arith

pub nth-events : (w : List ℕ) (base : ℕ) → 0 < base → (m i n : ℕ)
    → slice_get (filter (λ place. is_event w place) (map (λ j. entry_at base j) (range_with_len i m))) n ≡ nonzero (nth_in m w base i n)
unfolding nth_in is_nth passed_to
nth-events w base p zero i n = refl
nth-events w base p (suc m) i n = go (is_event w (entry_at base i)) n (nth-events w base p m (i + 1))
  where
    events : List ℕ
    events = filter (λ place. is_event w place) (map (λ j. entry_at base j) (range_with_len (i + 1) m))

    go : (b : Bool) (n : ℕ) → ((k : ℕ) → slice_get events k ≡ nonzero (nth_in m w base (i + 1) k))
        → slice_get (cond b (entry_at base i ∷ events) events) n ≡ nonzero (cond (cond b (eqb n 0) false) (entry_at base i) (nth_in m w base (i + 1) (cond b (n - 1) n)))
    go false n h = h n
    go true zero h = found_here _ (placed base i p)
    go true (suc n) h = simp (ne_eqb (suc n) 0 (λ e. omega (arith, e)), less_one n) (h n)

-- ---- the events in the memory are taken out by a test for them

module _ (lo hi : ℕ) where
  retires : (m : ℕ) (w : List ℕ) (base i j : ℕ) → set (retained_in (λ v place. is_retired v place lo hi) m w base i j) at.objects (retained_to_in (λ v place. is_retired v place lo hi) m w base i j) ≡ retired_in m w base i j lo hi
  unfolding retained_in retained_to_in retired_in
  retires zero w base i j = refl
  retires (suc m) w base i j = go (is_retired w (entry_at base i) lo hi) (retires m w base (i + 1) j) (retires m (moved w base i j) base (i + 1) (j + 1))
    where
      go : (b : Bool)
          → set (retained_in (λ v place. is_retired v place lo hi) m w base (i + 1) j) at.objects (retained_to_in (λ v place. is_retired v place lo hi) m w base (i + 1) j)
          ≡ retired_in m w base (i + 1) j lo hi
          → set (retained_in (λ v place. is_retired v place lo hi) m (moved w base i j) base (i + 1) (j + 1)) at.objects (retained_to_in (λ v place. is_retired v place lo hi) m (moved w base i j) base (i + 1) (j + 1))
          ≡ retired_in m (moved w base i j) base (i + 1) (j + 1) lo hi
          → set (cond b (retained_in (λ v place. is_retired v place lo hi) m w base (i + 1) j) (retained_in (λ v place. is_retired v place lo hi) m (moved w base i j) base (i + 1) (j + 1))) at.objects
          (cond b (retained_to_in (λ v place. is_retired v place lo hi) m w base (i + 1) j) (retained_to_in (λ v place. is_retired v place lo hi) m (moved w base i j) base (i + 1) (j + 1)))
          ≡ cond b (retired_in m w base (i + 1) j lo hi) (retired_in m (moved w base i j) base (i + 1) (j + 1) lo hi)
      go true h k = h
      go false h k = k

  pub retired-retained : (w : List ℕ) (base n : ℕ) → base ≡ objects_base w → n ≡ object_count w → n ≤ 8191
      → set (retained (λ v place. is_retired v place lo hi) w base n) at.objects (retained_to (λ v place. is_retired v place lo hi) w base n) ≡ retired w lo hi
  unfolding retained retained_to retired
  retired-retained w base n p q h = simp (le-ltb _ _ h) (rw (p, q) (retires (object_count w) w (objects_base w) 0 0))
