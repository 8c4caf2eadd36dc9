-- The calls on timers, and DPCs initialized: as many words.
use Prim.Native.Nat.{ℕ, zero, suc, ◌+◌}
use mathlib.Core.List.{List}
use mathlib.Core.Bool.{Bool}
use mathlib.Core.Path.{◌≡◌, refl, ◌∙◌}
use lib.ListN.{length, length-set}
use lib.IntN.{ℤ}
use Rattle.words.specs.Layout.{entry_at}
use Rattle.arch.specs.declared.Architecture.{Architecture}
use Rattle.images.specs.declared.TimerBacking.{TimerBacking}
use Rattle.objects.specs.Objects.{objects_base, object_count, dpcs_base}
use Rattle.dpcs.specs.Record.{dpc_count}
use Rattle.arming.specs.declared.Setting.{Setting}
use Rattle.timers.specs.Record.{each_in}
use Rattle.timers.specs.Initialize.{never_set, located, record_put, timer_initialized, dpc_initialized}
use Rattle.arming.specs.Arm.{named, unnamed, setting_put, armed, timer_set, withdrawn_own, disarmed, timer_cancelled, set_from, timer_set_signed}
use Rattle.timers.specs.Release.{timer_marked, timers_marked, timers_closed, dpc_marked, dpcs_marked, timers_retired}
use Rattle.agreement_tables.proofs.Compacts.{length-compacted}
use Rattle.agreement_lengths.proofs.Lengths.{length-cond, cond_same, words-cond}
use Rattle.agreement_lengths.proofs.Objects as objects
use Rattle.agreement_lengths.proofs.Dpcs as dpcs
use Rattle.agreement_lengths.proofs.Dpc.{length-withdrawn}

-- ---- initialize_timer, initialize_dpc

length-never-set : (w : List ℕ) (place : ℕ) → length (never_set w place) ≡ length w
unfolding never_set
length-never-set w place = simp length-set

length-located : (w : List ℕ) (place : ℕ) (a : Architecture) (b : TimerBacking) → length (located w place a b) ≡ length w
unfolding located
length-located w place a b = simp length-set

length-record-put : (w : List ℕ) (address : ℕ) (a : Architecture) (b : TimerBacking) (n : ℕ) → length (record_put w address a b n) ≡ length w
unfolding record_put
length-record-put w address a b n = simp (length-set, length-located, length-never-set)

pub length-timer-initialized : (w : List ℕ) (address : ℕ) (a : Architecture) (b : TimerBacking) (manual : Bool) → length (timer_initialized w address a b manual).words ≡ length w
unfolding timer_initialized
length-timer-initialized w address a b manual = simp (words-cond, cond_same, length-set, length-record-put, objects.length-entered)

pub length-dpc-initialized : (w : List ℕ) (address : ℕ) (a : Architecture) (b : TimerBacking) (routine context : ℕ) → length (dpc_initialized w address a b routine context).words ≡ length w
unfolding dpc_initialized
length-dpc-initialized w address a b routine context = simp (words-cond, cond_same, length-set, dpcs.length-entered)

-- ---- set_timer

length-named : (w : List ℕ) (dpc holder : ℕ) → length (named w dpc holder) ≡ length w
unfolding named
length-named w dpc holder = simp (length-cond, cond_same, length-set)

length-unnamed : (w : List ℕ) (place : ℕ) → length (unnamed w place) ≡ length w
unfolding unnamed
length-unnamed w place = simp (length-cond, cond_same, length-named)

length-setting-put : (w : List ℕ) (place : ℕ) (s : Setting) → length (setting_put w place s) ≡ length w
unfolding setting_put
length-setting-put w place s = simp length-set

pub length-armed : (w : List ℕ) (place address : ℕ) (s : Setting) → length (armed w place address s) ≡ length w
unfolding armed
length-armed w place address s = simp (length-named, length-setting-put, length-unnamed)

pub length-timer-set : (w : List ℕ) (address due : ℕ) (absolute : Bool) (period : ℤ) (dpc : ℕ) → length (timer_set w address due absolute period dpc).words ≡ length w
unfolding timer_set
length-timer-set w address due absolute period dpc = simp (words-cond, cond_same, length-armed)

length-set-from : (w : List ℕ) (address : ℕ) (due period : ℤ) (dpc : ℕ) → length (set_from w address due period dpc).words ≡ length w
unfolding set_from
length-set-from w address due period dpc = simp (words-cond, cond_same, length-timer-set)

pub length-timer-set-signed : (w : List ℕ) (address : ℕ) (due period : ℤ) (dpc : ℕ) → length (timer_set_signed w address due period dpc).words ≡ length w
unfolding timer_set_signed
length-timer-set-signed w address due period dpc = simp (words-cond, cond_same, length-set-from)

-- ---- cancel_timer

length-withdrawn-own : (w : List ℕ) (place : ℕ) (own : Bool) → length (withdrawn_own w place own) ≡ length w
unfolding withdrawn_own
length-withdrawn-own w place own = simp (length-cond, cond_same, length-withdrawn)

length-disarmed : (w : List ℕ) (place : ℕ) → length (disarmed w place) ≡ length w
unfolding disarmed
length-disarmed w place = simp (length-set, length-unnamed)

pub length-timer-cancelled : (w : List ℕ) (address : ℕ) → length (timer_cancelled w address).words ≡ length w
unfolding timer_cancelled
length-timer-cancelled w address = simp (words-cond, cond_same, length-disarmed, length-withdrawn-own)

-- ---- retire_timer_backing

length-each-in : (m : ℕ) (change : List ℕ → ℕ → List ℕ) → ((v : List ℕ) (place : ℕ) → length (change v place) ≡ length v)
    → (w : List ℕ) (base i : ℕ) → length (each_in m change w base i) ≡ length w
unfolding each_in
length-each-in zero change keeps w base i = refl
length-each-in (suc m) change keeps w base i = length-each-in m change keeps (change w (entry_at base i)) base (i + 1) ∙ keeps w (entry_at base i)

length-timer-marked : (w : List ℕ) (place address size : ℕ) → length (timer_marked w place address size) ≡ length w
unfolding timer_marked
length-timer-marked w place address size = simp (length-cond, cond_same, length-set)

length-timers-marked : (w : List ℕ) (address size : ℕ) → length (timers_marked w address size) ≡ length w
unfolding timers_marked
length-timers-marked w address size =
    length-each-in (object_count w) (λ v place. timer_marked v place address size) (λ v place. length-timer-marked v place address size) w (objects_base w) 0

length-timers-closed : (w : List ℕ) → length (timers_closed w) ≡ length w
unfolding timers_closed
length-timers-closed w = simp (length-set, length-compacted)

length-dpc-marked : (w : List ℕ) (place address size : ℕ) → length (dpc_marked w place address size) ≡ length w
unfolding dpc_marked
length-dpc-marked w place address size = simp (length-cond, cond_same, length-set)

length-dpcs-marked : (w : List ℕ) (address size : ℕ) → length (dpcs_marked w address size) ≡ length w
unfolding dpcs_marked
length-dpcs-marked w address size =
    length-each-in (dpc_count w) (λ v place. dpc_marked v place address size) (λ v place. length-dpc-marked v place address size) w (dpcs_base w) 0

pub length-timers-retired : (w : List ℕ) (address size : ℕ) → length (timers_retired w address size).words ≡ length w
unfolding timers_retired
length-timers-retired w address size =
    simp (words-cond, cond_same, dpcs.length-closed-up, length-dpcs-marked, length-timers-closed, length-timers-marked)
