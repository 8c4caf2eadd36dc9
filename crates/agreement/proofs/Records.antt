-- Whole records read from their rows: a row of a timer or a DPC is read as that timer or DPC.
use Prim.Native.Nat.{ℕ, ◌+◌}
use mathlib.Core.List.{List, ◌∷◌}
use mathlib.Core.Bool.{Bool, true, false, not}
use mathlib.Core.Option.{Option, none, some}
use mathlib.Core.Path.{◌≡◌, refl, ap, ◌∙◌}
use native.Mathlib.Omega.{arith}
use lib.ListN.{get_or}
use lib.Dec.{eqb}
use Rattle.arch.specs.declared.Architecture.{Architecture}
use Rattle.arch.specs.declared.Architecture.TheVariants.{X64, X86}
use Rattle.images.specs.declared.Timer.{Timer}
use Rattle.images.specs.declared.TimerBacking.{TimerBacking}
use Rattle.images.specs.declared.TimerBacking.TheVariants.{Image, NonpagedPool}
use Rattle.images.specs.declared.Dpc.{Dpc}
use Rattle.images.specs.declared.DpcOrigin.{DpcOrigin}
use Rattle.images.specs.declared.DpcOrigin.TheVariants as origin
use Rattle.images.specs.declared.DpcPhase.{DpcPhase}
use Rattle.images.specs.declared.DpcPhase.TheVariants.{Idle, Queued, Running, Returning}
use Rattle.images.specs.Place.{architecture_number, architecture_of, backing_kind, backing_base, backing_size, backing_mapped, backing_of}
use Rattle.dpcs.specs.Record as dpc
use Rattle.timers.specs.Record as timer
use Rattle.agreement.specs.Row.{Row}
use Rattle.agreement.specs.Records.{flag, timer_row, dpc_row, work_row, origin_row, phase_number}
use Rattle.model.specs.Dpcs.{work_of}

pub flag-read : (b : Bool) → not (eqb (flag b) 0) ≡ b
flag-read true = refl
flag-read false = refl

pub architecture-read : (a : Architecture) → architecture_of (architecture_number a) ≡ a
unfolding architecture_of
architecture-read X64 = refl
architecture-read X86 = refl

pub backing-read : (b : TimerBacking) → backing_of (backing_kind b) (backing_base b) (backing_size b) (backing_mapped b) ≡ b
unfolding backing_of
backing-read (Image base size) = refl
backing-read (NonpagedPool base requested mapped) = refl

-- ---- a timer

pub timer-read : (w : List ℕ) (place : ℕ) (t : Timer) → Row w place (timer_row t) → timer.timer_at w place ≡ t
unfolding timer.timer_at timer.backing_at
timer-read w place t a =
    simp (
      a 0 t.address refl,
      a 2 (flag t.manual_reset) refl,
      a 3 (flag t.signaled) refl,
      a 5 (flag t.inserted) refl,
      a 6 t.due refl,
      a 7 t.period_ms refl,
      a 8 t.dpc refl,
      a 9 (flag t.absolute) refl,
      a 10 t.arm_generation refl,
      a 11 t.initialization refl,
      a 12 (architecture_number t.architecture) refl,
      a 13 (backing_kind t.backing) refl,
      a 14 (backing_base t.backing) refl,
      a 15 (backing_size t.backing) refl,
      a 16 (backing_mapped t.backing) refl,
      flag-read,
      architecture-read,
      backing-read,
    )

-- ---- a DPC

-- words 11 to 20, whatever stands before them
pub work-read : (w : List ℕ) (place : ℕ) (e₀ e₁ e₂ e₃ e₄ e₅ e₆ e₇ e₈ e₉ e₁₀ : Option ℕ) (sequence first second : ℕ) (o : DpcOrigin)
    → Row w place (e₀ ∷ e₁ ∷ e₂ ∷ e₃ ∷ e₄ ∷ e₅ ∷ e₆ ∷ e₇ ∷ e₈ ∷ e₉ ∷ e₁₀ ∷ some sequence ∷ some first ∷ some second ∷ origin_row o)
    → dpc.work_at w place ≡ record { sequence = sequence; first = first; second = second; origin = o }
unfolding dpc.work_at dpc.origin_at dpc.timer_origin
work-read w place e₀ e₁ e₂ e₃ e₄ e₅ e₆ e₇ e₈ e₉ e₁₀ sequence first second origin.Caller a =
    simp (a 11 sequence refl, a 12 first refl, a 13 second refl, a 14 0 refl)
work-read w place e₀ e₁ e₂ e₃ e₄ e₅ e₆ e₇ e₈ e₉ e₁₀ sequence first second (origin.Timer address arm initialization deadline observed periodic) a =
    simp (
      a 11 sequence refl,
      a 12 first refl,
      a 13 second refl,
      a 14 1 refl,
      a 15 address refl,
      a 16 arm refl,
      a 17 initialization refl,
      a 18 deadline refl,
      a 19 observed refl,
      a 20 (flag periodic) refl,
      flag-read,
    )

pub phase-read : (w : List ℕ) (place : ℕ) (e₀ e₂ e₃ e₄ e₅ e₆ e₇ e₈ e₉ e₁₀ : Option ℕ) (p : DpcPhase)
    → Row w place (e₀ ∷ some (phase_number p) ∷ e₂ ∷ e₃ ∷ e₄ ∷ e₅ ∷ e₆ ∷ e₇ ∷ e₈ ∷ e₉ ∷ e₁₀ ∷ work_row (work_of p)) → dpc.phase_at w place ≡ p
unfolding dpc.phase_at
phase-read w place e₀ e₂ e₃ e₄ e₅ e₆ e₇ e₈ e₉ e₁₀ Idle a = simp (a 1 0 refl)
phase-read w place e₀ e₂ e₃ e₄ e₅ e₆ e₇ e₈ e₉ e₁₀ (Queued x) a =
    simp (a 1 1 refl, work-read w place e₀ (some 1) e₂ e₃ e₄ e₅ e₆ e₇ e₈ e₉ e₁₀ x.sequence x.first x.second x.origin a)
phase-read w place e₀ e₂ e₃ e₄ e₅ e₆ e₇ e₈ e₉ e₁₀ (Running x) a =
    simp (a 1 2 refl, work-read w place e₀ (some 2) e₂ e₃ e₄ e₅ e₆ e₇ e₈ e₉ e₁₀ x.sequence x.first x.second x.origin a)
phase-read w place e₀ e₂ e₃ e₄ e₅ e₆ e₇ e₈ e₉ e₁₀ (Returning x) a =
    simp (a 1 3 refl, work-read w place e₀ (some 3) e₂ e₃ e₄ e₅ e₆ e₇ e₈ e₉ e₁₀ x.sequence x.first x.second x.origin a)

pub dpc-read : (w : List ℕ) (place holder : ℕ) (d : Dpc) → Row w place (dpc_row holder d) → dpc.dpc_at w place ≡ d
unfolding dpc.dpc_at dpc.backing_at
dpc-read w place holder d a =
    simp (
      ap (λ (j : ℕ). get_or w j 0) (let e : place ≡ place + 0 = omega arith in e) ∙ a 0 d.address refl,
      a 4 (architecture_number d.architecture) refl,
      a 5 (backing_kind d.backing) refl,
      a 6 (backing_base d.backing) refl,
      a 7 (backing_size d.backing) refl,
      a 8 (backing_mapped d.backing) refl,
      a 9 d.routine refl,
      a 10 d.context refl,
      architecture-read,
      backing-read,
      phase-read w place (some d.address) none (some holder) (some (architecture_number d.architecture)) (some (backing_kind d.backing))
          (some (backing_base d.backing)) (some (backing_size d.backing)) (some (backing_mapped d.backing)) (some d.routine) (some d.context) d.phase a,
    )
