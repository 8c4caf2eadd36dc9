-- Whether the active work came from a timer that is periodic: the words ask the record of the active DPC, the log its work.
use Prim.Native.Nat.{ℕ, ◌+◌, ◌*◌}
use mathlib.Core.List.{List, [], ◌∷◌}
use mathlib.Core.Bool.{Bool, true, false, cond}
use mathlib.Core.Option.{Option, none, some}
use mathlib.Core.Logic.{inl, inr}
use mathlib.Core.Path.{◌≡◌, refl, sym, ap, ◌∙◌}
use native.Mathlib.Omega.{arith}
use borrow.Author.Tests.{ne_eqb}
use lib.Dec.{eqb}
use Rattle.words.specs.Layout as at
use Rattle.images.specs.declared.Dpc.{Dpc}
use Rattle.images.specs.declared.DpcWork.{DpcWork}
use Rattle.images.specs.declared.DpcOrigin.{DpcOrigin}
use Rattle.images.specs.declared.DpcOrigin.TheVariants as origin
use Rattle.images.specs.declared.DpcPhase.{DpcPhase}
use Rattle.images.specs.declared.DpcPhase.TheVariants.{Idle, Queued, Running, Returning}
use Rattle.images.specs.Place.{architecture_number, backing_kind, backing_base, backing_size, backing_mapped}
use Rattle.objects.specs.Objects.{dpc_found}
use Rattle.timers.specs.Release.{periodic_origin, active_origin}
use Rattle.model.specs.Lists.{first_of, Mem, given}
use Rattle.model.specs.State.{State}
use Rattle.model.specs.Dpcs.{address_of, dpc_at, active_dpc, is_active, work_of, is_periodic_of}
use Rattle.model.specs.Refusal.{is_periodic_origin}
use Rattle.model.proofs.ListLaws.{not-both}
use Rattle.model.proofs.TableLaws.{some_same, none-some, mem-found}
use Rattle.agreement_tables.specs.Tables.{below}
use Rattle.agreement.specs.Row.{Row}
use Rattle.agreement.specs.Records.{flag, work_row, origin_row, dpc_row, phase_number, active_address}
use Rattle.agreement.specs.Agree.{dpcs_from, Agreeing}
use Rattle.agreement.proofs.Records.{flag-read}
use Rattle.agreement.proofs.Lookups.{dpc-place, dpc-row}

-- the first that passes a test stands in the list and passes it
pub first_found : {A : Type 0} (f : A → Bool) (l : List A) (x : A) → first_of f l ≡ some x → Mem x l × (f x ≡ true)
first_found f [] x e = absurd (none-some x e)
first_found {A} f (y ∷ ys) x e = go (f y) refl e (first_found f ys x)
  where
    go : (b : Bool) → f y ≡ b → cond b (some y) (first_of f ys) ≡ some x → (first_of f ys ≡ some x → Mem x ys × (f x ≡ true)) → Mem x (y ∷ ys) × (f x ≡ true)
    go true q h ih = (inl (sym (some_same y x h)), ap f (sym (some_same y x h)) ∙ q)
    go false q h ih = let r = ih h in (inr r.0, r.1)

-- words 14 to 20, whatever stands before them
periodic-work : (w : List ℕ) (place key : ℕ) (e₀ e₁ e₂ e₃ e₄ e₅ e₆ e₇ e₈ e₉ e₁₀ e₁₁ e₁₂ e₁₃ : Option ℕ) (o : DpcOrigin)
    → Row w place (e₀ ∷ e₁ ∷ e₂ ∷ e₃ ∷ e₄ ∷ e₅ ∷ e₆ ∷ e₇ ∷ e₈ ∷ e₉ ∷ e₁₀ ∷ e₁₁ ∷ e₁₂ ∷ e₁₃ ∷ origin_row o) → periodic_origin w place key ≡ is_periodic_of key o
unfolding periodic_origin
periodic-work w place key e₀ e₁ e₂ e₃ e₄ e₅ e₆ e₇ e₈ e₉ e₁₀ e₁₁ e₁₂ e₁₃ origin.Caller r = simp (r 14 0 refl)
periodic-work w place key e₀ e₁ e₂ e₃ e₄ e₅ e₆ e₇ e₈ e₉ e₁₀ e₁₁ e₁₂ e₁₃ (origin.Timer address arm initialization deadline observed periodic) r =
    simp (r 14 1 refl, r 15 address refl, r 20 (flag periodic) refl, flag-read)

-- the origin of a phase's work
abbrev from_periodic : ℕ → DpcPhase → Bool
from_periodic key p = given (work_of p) false (λ (x : DpcWork). is_periodic_of key x.origin)

periodic-phase : (w : List ℕ) (place key : ℕ) (e₀ e₁ e₂ e₃ e₄ e₅ e₆ e₇ e₈ e₉ e₁₀ : Option ℕ) (p : DpcPhase) → is_active p ≡ true
    → Row w place (e₀ ∷ e₁ ∷ e₂ ∷ e₃ ∷ e₄ ∷ e₅ ∷ e₆ ∷ e₇ ∷ e₈ ∷ e₉ ∷ e₁₀ ∷ work_row (work_of p)) → periodic_origin w place key ≡ from_periodic key p
periodic-phase w place key e₀ e₁ e₂ e₃ e₄ e₅ e₆ e₇ e₈ e₉ e₁₀ Idle h r = absurd (not-both (sym h))
periodic-phase w place key e₀ e₁ e₂ e₃ e₄ e₅ e₆ e₇ e₈ e₉ e₁₀ (Queued x) h r = absurd (not-both (sym h))
periodic-phase w place key e₀ e₁ e₂ e₃ e₄ e₅ e₆ e₇ e₈ e₉ e₁₀ (Running x) h r =
    periodic-work w place key e₀ e₁ e₂ e₃ e₄ e₅ e₆ e₇ e₈ e₉ e₁₀ (some x.sequence) (some x.first) (some x.second) x.origin r
periodic-phase w place key e₀ e₁ e₂ e₃ e₄ e₅ e₆ e₇ e₈ e₉ e₁₀ (Returning x) h r =
    periodic-work w place key e₀ e₁ e₂ e₃ e₄ e₅ e₆ e₇ e₈ e₉ e₁₀ (some x.sequence) (some x.first) (some x.second) x.origin r

periodic-is : (w : List ℕ) (place key holder : ℕ) (d : Dpc) → is_active d.phase ≡ true → Row w place (dpc_row holder d) → periodic_origin w place key ≡ from_periodic key d.phase
periodic-is w place key holder d h r =
    periodic-phase w place key (some d.address) (some (phase_number d.phase)) none (some holder) (some (architecture_number d.architecture)) (some (backing_kind d.backing))
    (some (backing_base d.backing)) (some (backing_size d.backing)) (some (backing_mapped d.backing)) (some d.routine) (some d.context) d.phase h r

module _ (w : List ℕ) (s : State) (holder : ℕ → ℕ) (a : Agreeing w s holder (active_address s.dpcs.table)) where
  pub active-origin-is : (key : ℕ) → active_origin w key ≡ is_periodic_origin s.dpcs.table key
  unfolding active_origin
  active-origin-is key = ap ask (a.numbers at.active (active_address s.dpcs.table) refl) ∙ go (active_dpc s.dpcs.table) refl
    where
      ask : ℕ → Bool
      ask n = cond (eqb n 0) false (cond (eqb (dpc_found w n) 0) false (periodic_origin w (dpc_found w n) key))

      go : (o : Option Dpc) → active_dpc s.dpcs.table ≡ o
          → ask (given (active_dpc s.dpcs.table) 0 (λ (d : Dpc). d.address)) ≡ given (active_dpc s.dpcs.table) false (λ (d : Dpc). from_periodic key d.phase)
      go none e =
          ap (λ (o : Option Dpc). ask (given o 0 (λ (d : Dpc). d.address))) e ∙ sym (ap (λ (o : Option Dpc). given o false (λ (d : Dpc). from_periodic key d.phase)) e)
      go (some d) e =
          ap (λ (o : Option Dpc). ask (given o 0 (λ (d : Dpc). d.address))) e
          ∙ ap (λ (b : Bool). cond b false (cond (eqb (dpc_found w d.address) 0) false (periodic_origin w (dpc_found w d.address) key))) (ne_eqb d.address 0 (a.shape.dpcs.placed d f.0))
          ∙ ap (λ (p : ℕ). cond (eqb p 0) false (periodic_origin w p key)) (dpc-place w s holder active a d.address d known)
          ∙ ap (λ (b : Bool). cond b false (periodic_origin w place key)) (ne_eqb place 0 (λ q. omega arith))
          ∙ periodic-is w place key (holder d.address) d f.1 (dpc-row w s holder active a d.address d known)
          ∙ sym (ap (λ (o : Option Dpc). given o false (λ (d : Dpc). from_periodic key d.phase)) e)
        where
          active : ℕ
          active = active_address s.dpcs.table

          place : ℕ
          place = dpcs_from s.limits + 32 * below address_of d.address s.dpcs.table

          f : Mem d s.dpcs.table × (is_active d.phase ≡ true)
          f = first_found (λ (x : Dpc). is_active x.phase) s.dpcs.table d e

          known : dpc_at s.dpcs.table d.address ≡ some d
          known = mem-found address_of s.dpcs.table a.shape.dpcs.rising d f.0
