-- DPCs, their queue and their counts: "Timers, DPCs, clock", as far as it speaks of DPCs.
use Rattle.std.specs.Prelude.{ℕ, ◌+◌, List, [], ◌∷◌, ◌++◌, Bool, true, false, cond, eqb}
use Rattle.std.proofs.Math.Option.{Option, none, some}
use Rattle.images.specs.declared.Timer.{Timer}
use Rattle.images.specs.declared.Dpc.{Dpc}
use Rattle.images.specs.declared.DpcWork.{DpcWork}
use Rattle.images.specs.declared.DpcOrigin.{DpcOrigin}
use Rattle.images.specs.declared.DpcOrigin.TheVariants as origin
use Rattle.images.specs.declared.DpcPhase.{DpcPhase}
use Rattle.images.specs.declared.DpcPhase.TheVariants.{Idle, Queued, Running, Returning}
use Rattle.model.specs.Lists.{first_of, without, rest, given}
use Rattle.model.specs.Table.{find, put}
use Rattle.model.specs.State.{Dpcs, Counters}

-- ---- a DPC

-- no work
abbrev pub is_idle : DpcPhase → Bool
is_idle Idle = true
is_idle (Queued w) = false
is_idle (Running w) = false
is_idle (Returning w) = false

-- its work is queued
abbrev pub is_queued : DpcPhase → Bool
is_queued Idle = false
is_queued (Queued w) = true
is_queued (Running w) = false
is_queued (Returning w) = false

-- running or returning
abbrev pub is_active : DpcPhase → Bool
is_active Idle = false
is_active (Queued w) = false
is_active (Running w) = true
is_active (Returning w) = true

-- its work is active, and has returned
abbrev pub is_returning : DpcPhase → Bool
is_returning Idle = false
is_returning (Queued w) = false
is_returning (Running w) = false
is_returning (Returning w) = true

-- queued, running or returning
abbrev pub is_busy : DpcPhase → Bool
is_busy Idle = false
is_busy (Queued w) = true
is_busy (Running w) = true
is_busy (Returning w) = true

-- its work, if it has any
abbrev pub work_of : DpcPhase → Option DpcWork
work_of Idle = none
work_of (Queued w) = some w
work_of (Running w) = some w
work_of (Returning w) = some w

-- ---- the table

-- the key of the table
abbrev pub address_of : Dpc → ℕ
address_of d = d.address

-- the DPC at that address
abbrev pub dpc_at : List Dpc → ℕ → Option Dpc
dpc_at l a = find address_of l a

-- its phase; idle where there is none
abbrev pub phase_at : List Dpc → ℕ → DpcPhase
phase_at l a = given (dpc_at l a) Idle (λ (d : Dpc). d.phase)

-- the DPC in another phase
abbrev pub in_phase : Dpc → DpcPhase → Dpc
in_phase d p = record { address = d.address; architecture = d.architecture; backing = d.backing; routine = d.routine; context = d.context; phase = p }

-- a new DPC, or another record for one that is there
abbrev pub put_dpc : Dpc → List Dpc → List Dpc
put_dpc x l = put address_of x l

-- the DPC at that address in another phase
abbrev pub rephased : List Dpc → ℕ → DpcPhase → List Dpc
rephased l a p = given (dpc_at l a) l (λ d. put_dpc (in_phase d p) l)

-- the DPC whose work is active
abbrev pub active_dpc : List Dpc → Option Dpc
active_dpc l = first_of (λ (d : Dpc). is_active d.phase) l

-- ---- work from a timer

-- work that this timer put into the queue since it was last set: the same timer, arm and initialization
abbrev pub is_from : Timer → DpcOrigin → Bool
is_from t origin.Caller = false
is_from t (origin.Timer address arm initialization deadline observed periodic) =
    cond (eqb address t.address) (cond (eqb arm t.arm_generation) (eqb initialization t.initialization) false) false

-- work that `insert_queue_dpc` put into the queue
abbrev pub is_caller : DpcOrigin → Bool
is_caller origin.Caller = true
is_caller (origin.Timer address arm initialization deadline observed periodic) = false

-- a periodic origin: the work of a timer at that address that was periodic
abbrev pub is_periodic_of : ℕ → DpcOrigin → Bool
is_periodic_of a origin.Caller = false
is_periodic_of a (origin.Timer address arm initialization deadline observed periodic) = cond (eqb address a) periodic false

-- ---- counts

module _ (c : Counters) where
  -- one more of a count; the others as they were
  abbrev pub one_accepted : Counters
  one_accepted = record { accepted = c.accepted + 1; duplicates = c.duplicates; removed = c.removed; started = c.started; returned = c.returned; restored = c.restored }

  abbrev pub one_duplicate : Counters
  one_duplicate = record { accepted = c.accepted; duplicates = c.duplicates + 1; removed = c.removed; started = c.started; returned = c.returned; restored = c.restored }

  abbrev pub one_removed : Counters
  one_removed = record { accepted = c.accepted; duplicates = c.duplicates; removed = c.removed + 1; started = c.started; returned = c.returned; restored = c.restored }

  abbrev pub one_started : Counters
  one_started = record { accepted = c.accepted; duplicates = c.duplicates; removed = c.removed; started = c.started + 1; returned = c.returned; restored = c.restored }

  abbrev pub one_returned : Counters
  one_returned = record { accepted = c.accepted; duplicates = c.duplicates; removed = c.removed; started = c.started; returned = c.returned + 1; restored = c.restored }

  abbrev pub one_restored : Counters
  one_restored = record { accepted = c.accepted; duplicates = c.duplicates; removed = c.removed; started = c.started; returned = c.returned; restored = c.restored + 1 }

-- ---- the queue

-- the work of the next acceptance
abbrev pub new_work : Dpcs → ℕ → ℕ → DpcOrigin → DpcWork
new_work q first second o = record { sequence = q.counters.accepted + 1; first = first; second = second; origin = o }

-- "Insert and expiry put work last, an acceptance ..
unfoldable pub accepted : Dpcs → ℕ → ℕ → ℕ → DpcOrigin → Dpcs
accepted q a first second o =
    record { table = rephased q.table a (Queued (new_work q first second o)); queue = q.queue ++ (a ∷ []); counters = one_accepted q.counters }

-- .. or at queued work count a duplicate, first arguments kept; ..
unfoldable pub duplicated : Dpcs → Dpcs
duplicated q = record { table = q.table; queue = q.queue; counters = one_duplicate q.counters }

-- .. remove and cancel take it out, a removal; ..
unfoldable pub withdrawn : Dpcs → ℕ → Dpcs
withdrawn q a = record { table = rephased q.table a Idle; queue = without a q.queue; counters = one_removed q.counters }

-- .. start makes the head running, ..
unfoldable pub started : Dpcs → ℕ → DpcWork → Dpcs
started q a w = record { table = rephased q.table a (Running w); queue = rest q.queue; counters = one_started q.counters }

-- .. return makes it returning, ..
unfoldable pub returned : Dpcs → ℕ → DpcWork → Dpcs
returned q a w = record { table = rephased q.table a (Returning w); queue = q.queue; counters = one_returned q.counters }

-- .. restoration ends it."
unfoldable pub restored : Dpcs → ℕ → Dpcs
restored q a = record { table = rephased q.table a Idle; queue = q.queue; counters = one_restored q.counters }
