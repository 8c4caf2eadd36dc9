-- What the words say of a timer and of a DPC by their addresses: whether there is one, whether it is busy, who has it.
use Prim.Native.Nat.{ℕ, ◌+◌, ◌*◌, ◌≤◌}
use mathlib.Core.List.{List}
use mathlib.Core.Bool.{Bool, false, cond, not}
use mathlib.Core.Option.{Option, none, some}
use mathlib.Core.Path.{◌≡◌, refl, sym, ap, ◌∙◌}
use native.Mathlib.Omega.{arith}
use lib.ListN.{get_or, length}
use lib.Dec.{eqb}
use borrow.Author.Tests.{eq-eqb, ne_eqb}
use Rattle.words.specs.Layout as at
use Rattle.images.specs.declared.Timer.{Timer}
use Rattle.images.specs.declared.Dpc.{Dpc}
use Rattle.images.specs.declared.DpcPhase.{DpcPhase}
use Rattle.images.specs.declared.DpcPhase.TheVariants.{Idle, Queued, Running, Returning}
use Rattle.objects.specs.Objects.{place_of, dpc_found}
use Rattle.timers.specs.Record as words
use Rattle.model.specs.Lists.{present, given}
use Rattle.model.specs.State.{State, Object, timer}
use Rattle.model.specs.Waits.{key_of, kind_of, object_at, as_timer, timer_at}
use Rattle.model.specs.Dpcs.{address_of, dpc_at, phase_at, is_busy}
use Rattle.model.proofs.TableLaws.{none-some, found}
use Rattle.model.proofs.ObjectLaws.{on-timer, timer-found}
use Rattle.agreement_tables.specs.Tables.{below}
use Rattle.agreement_tables.proofs.Lookups as tables
use Rattle.agreement.specs.Records.{flag, timer_row, phase_number}
use Rattle.agreement.specs.Agree.{objects_from, dpcs_from, Agreeing}
use Rattle.agreement.proofs.Records.{flag-read}
use Rattle.agreement.proofs.Lookups.{dpcs-base-is, dpc-keys, place-of, object-place, object-row, dpc-place, dpc-row}

-- the object of a timer that is found
pub timer-object : (l : List Object) (k : ℕ) (t : Timer) → timer_at l k ≡ some t → object_at l k ≡ some (timer t)
timer-object l k t e = timer-found (object_at l k) t e

phase-busy : (p : DpcPhase) → not (eqb (phase_number p) 0) ≡ is_busy p
phase-busy Idle = refl
phase-busy (Queued x) = refl
phase-busy (Running x) = refl
phase-busy (Returning x) = refl

module _ (w : List ℕ) (s : State) (holder : ℕ → ℕ) (active : ℕ) (a : Agreeing w s holder active) where
  -- ---- DPCs

  few : length s.dpcs.table ≤ 4096
  few = omega (arith, a.shape.sizes.dpcs_fit, a.shape.sizes.limits.dpcs)

  low : dpcs_from s.limits ≤ 1000000
  low = omega (arith, a.shape.sizes.limits.threads, a.shape.sizes.limits.objects)

  pub dpc-missing : (k : ℕ) → dpc_at s.dpcs.table k ≡ none → dpc_found w k ≡ 0
  dpc-missing k e =
      tables.dpc-missing address_of w (dpcs_from s.limits) s.dpcs.table low (omega arith) (dpcs-base-is w s holder active a)
      (a.numbers at.dpcs (length s.dpcs.table) refl) few a.shape.dpcs.rising (dpc-keys w s holder active a) k e

  pub dpc-known : (k : ℕ) → eqb (dpc_found w k) 0 ≡ not (present (dpc_at s.dpcs.table k))
  dpc-known k =
      tables.dpc-known address_of w (dpcs_from s.limits) s.dpcs.table low (omega arith) (dpcs-base-is w s holder active a)
      (a.numbers at.dpcs (length s.dpcs.table) refl) few a.shape.dpcs.rising (dpc-keys w s holder active a) k

  -- word 1 is the phase
  pub phase-is : (k : ℕ) (d : Dpc) → dpc_at s.dpcs.table k ≡ some d → get_or w (dpc_found w k + at.phase) 0 ≡ phase_number d.phase
  phase-is k d e =
      ap (λ (p : ℕ). get_or w (p + at.phase) 0) (dpc-place w s holder active a k d e) ∙ dpc-row w s holder active a k d e 1 (phase_number d.phase) refl

  -- word 3 is the inserted timer that has it
  pub holder-is : (k : ℕ) (d : Dpc) → dpc_at s.dpcs.table k ≡ some d → get_or w (dpc_found w k + at.named_by) 0 ≡ holder k
  holder-is k d e =
      ap (λ (p : ℕ). get_or w (p + at.named_by) 0) (dpc-place w s holder active a k d e) ∙ dpc-row w s holder active a k d e 3 (holder d.address) refl
      ∙ ap holder (found address_of s.dpcs.table k d e).1

  pub busy-is : (k : ℕ) → words.busy w k ≡ is_busy (phase_at s.dpcs.table k)
  unfolding words.busy
  busy-is k = go (dpc_at s.dpcs.table k) refl
    where
      go : (o : Option Dpc) → dpc_at s.dpcs.table k ≡ o
          → cond (eqb (dpc_found w k) 0) false (not (eqb (get_or w (dpc_found w k + at.phase) 0) 0)) ≡ is_busy (given o Idle (λ (d : Dpc). d.phase))
      go none e = ap (λ (b : Bool). cond b false (not (eqb (get_or w (dpc_found w k + at.phase) 0) 0))) (eq-eqb (dpc_found w k) 0 (dpc-missing k e))
      go (some d) e =
          ap (λ (b : Bool). cond b false (not (eqb (get_or w (dpc_found w k + at.phase) 0) 0))) (dpc-known k ∙ ap (λ (o : Option Dpc). not (present o)) e)
          ∙ ap (λ (n : ℕ). not (eqb n 0)) (phase-is k d e) ∙ phase-busy d.phase

  -- ---- timers

  pub timer-missing : (k : ℕ) → timer_at s.dispatcher.objects k ≡ none → place_of w 2 k ≡ 0
  timer-missing k e = place-of w s holder active a 2 k ∙ go (object_at s.dispatcher.objects k) e
    where
      go : (o : Option Object) → as_timer o ≡ none → given o 0 (λ x. cond (eqb (kind_of x) 2) (objects_from s.limits + 32 * below key_of k s.dispatcher.objects) 0) ≡ 0
      go none = λ q. refl
      go (some x) = on-timer (λ o. o ≡ none → cond (eqb (kind_of x) 2) (objects_from s.limits + 32 * below key_of k s.dispatcher.objects) 0 ≡ 0) x
          (λ n q. ap (λ (b : Bool). cond b (objects_from s.limits + 32 * below key_of k s.dispatcher.objects) 0) n) (λ t e q. absurd (none-some t (sym q)))

  module _ (k : ℕ) (t : Timer) (e : object_at s.dispatcher.objects k ≡ some (timer t)) where
    pub timer-place : place_of w 2 k ≡ objects_from s.limits + 32 * below key_of k s.dispatcher.objects
    timer-place = object-place w s holder active a k (timer t) e

    -- a place is not 0
    pub timer-known : eqb (place_of w 2 k) 0 ≡ false
    timer-known = ne_eqb (place_of w 2 k) 0 (λ z. omega (arith, timer-place))

    -- a word of its record
    pub timer_word : (i n : ℕ) → get_or (timer_row t) i none ≡ some n → get_or w (place_of w 2 k + i) 0 ≡ n
    timer_word i n q = ap (λ (p : ℕ). get_or w (p + i) 0) timer-place ∙ object-row w s holder active a k (timer t) e i n q

    pub inserted-is : words.is_inserted w (place_of w 2 k) ≡ t.inserted
    unfolding words.is_inserted
    inserted-is = ap (λ (n : ℕ). not (eqb n 0)) (timer_word 5 (flag t.inserted) refl) ∙ flag-read t.inserted
