-- What a call that is not refused may count on.
use Prim.Native.Nat.{ℕ, ◌<◌}
use native.Mathlib.Omega.{arith}
use mathlib.Core.List.{List}
use mathlib.Core.Bool.{Bool, cond, true, false}
use mathlib.Core.Path.{◌≡◌, refl}
use lib.ListN.{get_or}
use lib.Dec.{eqb, leb}
use borrow.Author.Tests.{leb-false}
use Rattle.words.specs.Layout as at
use Rattle.arch.specs.declared.Architecture.{Architecture}
use Rattle.objects.specs.Objects.{object_found, collides, full}
use Rattle.images.specs.declared.TimerBacking.{TimerBacking}
use Rattle.images.specs.Place.{timer_size, dpc_size}
use Rattle.dpcs.specs.Named.{is_named}
use Rattle.timers.specs.Record.{busy}
use Rattle.timers.specs.Initialize.{place_refusal, in_use, timer_refusal, dpc_full, dpc_refusal}

-- there is an initialization left
pub timer-lifetime : (w : List ℕ) (address : ℕ) (a : Architecture) (b : TimerBacking) → timer_refusal w address a b ≡ 0 → get_or w at.timer_initializations 0 < 65536
unfolding timer_refusal
timer-lifetime w address a b = go (collides w 2 address) (full w address) (leb 65536 (get_or w at.timer_initializations 0)) refl
  where
    go : (x y z : Bool) → leb 65536 (get_or w at.timer_initializations 0) ≡ z
        → ◌≡◌ {A = ℕ} (cond x 5 (cond y 4 (cond z 14 (cond (in_use w address) 6 (place_refusal w address (timer_size a) a b))))) 0
        → get_or w at.timer_initializations 0 < 65536
    go true y z f e = absurd (omega (arith, e))
    go false true z f e = absurd (omega (arith, e))
    go false false true f e = absurd (omega (arith, e))
    go false false false f e = leb-false _ _ f

pub dpc-lifetime : (w : List ℕ) (address : ℕ) (a : Architecture) (b : TimerBacking) → dpc_refusal w address a b ≡ 0 → get_or w at.dpc_initializations 0 < 65536
unfolding dpc_refusal
dpc-lifetime w address a b = go (eqb (object_found w address) 0) (dpc_full w address) (leb 65536 (get_or w at.dpc_initializations 0)) refl
  where
    go : (x y z : Bool) → leb 65536 (get_or w at.dpc_initializations 0) ≡ z
        → ◌≡◌ {A = ℕ} (cond x (cond y 4 (cond z 14 (cond (busy w address) 19 (cond (is_named w address) 19 (place_refusal w address (dpc_size a) a b))))) 5) 0
        → get_or w at.dpc_initializations 0 < 65536
    go false y z f e = absurd (omega (arith, e))
    go true true z f e = absurd (omega (arith, e))
    go true false true f e = absurd (omega (arith, e))
    go true false false f e = leb-false _ _ f
