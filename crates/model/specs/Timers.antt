-- Timers and their expiry: "Timers, DPCs, clock", as far as it speaks of timers.
use Rattle.std.specs.Prelude.{ℕ, ◌+◌, ◌-◌, ◌*◌, ◌/◌, ◌^◌, List, [], ◌∷◌, Bool, true, false, cond, eqb, leb, ltb}
use Rattle.arch.specs.declared.Architecture.{Architecture}
use Rattle.images.specs.declared.TimerBacking.{TimerBacking}
use Rattle.images.specs.declared.Timer.{Timer}
use Rattle.images.specs.declared.DpcOrigin.{DpcOrigin}
use Rattle.images.specs.declared.DpcOrigin.TheVariants as origin
use Rattle.images.specs.declared.DpcPhase.{DpcPhase}
use Rattle.images.specs.declared.DpcPhase.TheVariants.{Idle, Queued, Running, Returning}
use Rattle.model.specs.Lists.{keep, any, present}
use Rattle.model.specs.State.{Object, timer, Dpcs, Policy, unselected, cpu0_dispatch}
use Rattle.model.specs.Waits.{timers_of, put_object}
use Rattle.model.specs.Dpcs.{dpc_at, phase_at, is_from, accepted, duplicated}

-- 2^64 − 1
abbrev pub most : ℕ
most = 2 ^ 64 - 1

-- "14 after 65,536 successes", "14 after 65,536 acceptances"
abbrev pub lifetime : ℕ
lifetime = 65536

-- ---- records

-- a timer that is neither signaled nor inserted, with the number of its initialization, as `initialize_timer` of the Rust makes it
unfoldable pub new_timer : ℕ → Architecture → TimerBacking → Bool → ℕ → Timer
new_timer address a b manual n =
    record {
      address = address;
      architecture = a;
      backing = b;
      manual_reset = manual;
      signaled = false;
      inserted = false;
      due = 0;
      period_ms = 0;
      dpc = 0;
      absolute = false;
      arm_generation = 0;
      initialization = n;
    }

-- set, as `set_timer` of the Rust does: inserted, not signaled, and armed once more
unfoldable pub armed : Timer → ℕ → Bool → ℕ → ℕ → Timer
armed t due absolute period dpc =
    record {
      address = t.address;
      architecture = t.architecture;
      backing = t.backing;
      manual_reset = t.manual_reset;
      signaled = false;
      inserted = true;
      due = due;
      period_ms = period;
      dpc = dpc;
      absolute = absolute;
      arm_generation = t.arm_generation + 1;
      initialization = t.initialization;
    }

-- a timer with another signal, insertion and due; the rest as it was
abbrev pub retimed : Timer → Bool → Bool → ℕ → Timer
retimed t signaled inserted due =
    record {
      address = t.address;
      architecture = t.architecture;
      backing = t.backing;
      manual_reset = t.manual_reset;
      signaled = signaled;
      inserted = inserted;
      due = due;
      period_ms = t.period_ms;
      dpc = t.dpc;
      absolute = t.absolute;
      arm_generation = t.arm_generation;
      initialization = t.initialization;
    }

-- cancelled, as `cancel_timer` of the Rust does: no longer inserted; the rest as it was
abbrev pub cancelled : Timer → Timer
cancelled t = retimed t t.signaled false t.due

-- ---- "Next due: due + ((now − due) div P + 1) × P, P = 10,000 × period in ms."

-- of a due and a period, at a time
unfoldable pub next_due : ℕ → ℕ → ℕ → ℕ
next_due due period now = let p = 10000 * period in due + ((now - due) / p + 1) * p

-- its period is not 0
abbrev pub is_periodic : Timer → Bool
is_periodic t = cond (eqb t.period_ms 0) false true

-- expired, as `refresh_timers` of the Rust does: signaled; a periodic one is due again, the other is no longer inserted
unfoldable pub expired : ℕ → Timer → Timer
expired now t = cond (is_periodic t) (retimed t true true (next_due t.due t.period_ms now)) (retimed t true false t.due)

-- 13: "the next due passes 2^64 − 1"
unfoldable pub horizon_refusal : ℕ → Timer → ℕ
horizon_refusal now t = cond (is_periodic t) (cond (ltb most (next_due t.due t.period_ms now)) 13 0) 0

-- ---- which timers are due, and in what order

-- inserted, with a due at or before the time
abbrev pub is_due : ℕ → Timer → Bool
is_due now t = cond t.inserted (leb t.due now) false

-- before the first with a later due: those with the same due keep their order
abbrev pub insert_by_due : Timer → List Timer → List Timer
insert_by_due t [] = t ∷ []
insert_by_due t (u ∷ us) = cond (leb t.due u.due) (t ∷ u ∷ us) (u ∷ insert_by_due t us)

-- by due; those with the same due in the order of the list
abbrev pub by_due : List Timer → List Timer
by_due [] = []
by_due (t ∷ ts) = insert_by_due t (by_due ts)

-- "Without a policy, due timers go by address .. With a policy they go by due, then address"
abbrev pub in_order : Policy → List Timer → List Timer
in_order unselected ts = ts
in_order (cpu0_dispatch first second) ts = by_due ts

-- the inserted timers whose due is at or before the time, in the order of their expiry
abbrev pub due_timers : Policy → ℕ → List Object → List Timer
due_timers policy now l = in_order policy (keep (is_due now) (timers_of l))

-- ---- the expiry of one timer

-- the work that an expiry puts into the queue
abbrev pub origin_of : ℕ → Timer → DpcOrigin
origin_of now t = origin.Timer t.address t.arm_generation t.initialization t.due now (is_periodic t)

-- "its own queued work counts a duplicate (24 at the end); other queued work 21, ..; running or returning 19; 14; else queued"
abbrev pub queue_refusal : Dpcs → Timer → DpcPhase → ℕ
queue_refusal q t Idle = cond (leb lifetime q.counters.accepted) 14 0
queue_refusal q t (Queued w) = cond (is_from t w.origin) (cond (leb most q.counters.duplicates) 24 0) 21
queue_refusal q t (Running w) = 19
queue_refusal q t (Returning w) = 19

-- a DPC that does not exist gives 2; an inserted timer's DPC always does
abbrev pub work_refusal : Dpcs → Timer → ℕ
work_refusal q t = cond (eqb t.dpc 0) 0 (cond (present (dpc_at q.table t.dpc)) (queue_refusal q t (phase_at q.table t.dpc)) 2)

-- "20 for one with a DPC, else 13 ..", "13; .."
unfoldable pub expiry_refusal : Policy → ℕ → Dpcs → Timer → ℕ
expiry_refusal unselected now q t = cond (eqb t.dpc 0) (horizon_refusal now t) 20
expiry_refusal (cpu0_dispatch first second) now q t = cond (eqb (horizon_refusal now t) 0) (work_refusal q t) (horizon_refusal now t)

-- ".. else queued", or a duplicate
abbrev pub work_queued : Dpcs → ℕ → ℕ → ℕ → Timer → DpcPhase → Dpcs
work_queued q first second now t Idle = accepted q t.dpc first second (origin_of now t)
work_queued q first second now t (Queued w) = duplicated q
work_queued q first second now t (Running w) = q
work_queued q first second now t (Returning w) = q

-- the DPCs after the expiry of one timer
unfoldable pub dpcs_after : Policy → ℕ → Dpcs → Timer → Dpcs
dpcs_after unselected now q t = q
dpcs_after (cpu0_dispatch first second) now q t = cond (eqb t.dpc 0) q (work_queued q first second now t (phase_at q.table t.dpc))

-- ---- the expiry of all that are due, one after the other

-- what an expiry changes: the objects, and the DPCs
pub record Expired : Type 0 where
  pub objects : List Object
  pub dpcs : Dpcs

-- one timer expires
unfoldable pub expire_one : Policy → ℕ → Expired → Timer → Expired
expire_one policy now e t = record { objects = put_object (timer (expired now t)) e.objects; dpcs = dpcs_after policy now e.dpcs t }

-- each timer of the list expires, in its order
abbrev pub expire_each : Policy → ℕ → Expired → List Timer → Expired
expire_each policy now e [] = e
expire_each policy now e (t ∷ ts) = expire_each policy now (expire_one policy now e t) ts

-- the first refusal, 0 where there is none: "One refusal undoes the whole advance."
abbrev pub refusal_of_each : Policy → ℕ → Expired → List Timer → ℕ
refusal_of_each policy now e [] = 0
refusal_of_each policy now e (t ∷ ts) =
    cond (eqb (expiry_refusal policy now e.dpcs t) 0) (refusal_of_each policy now (expire_one policy now e t) ts) (expiry_refusal policy now e.dpcs t)

-- an inserted timer has this DPC; "An inserted timer without a DPC names 0"
abbrev pub is_named : List Object → ℕ → Bool
is_named l a = any (λ (t : Timer). cond t.inserted (eqb t.dpc a) false) (timers_of l)

-- an inserted timer at another address has it
abbrev pub is_named_by_other : List Object → ℕ → ℕ → Bool
is_named_by_other l address a = any (λ (t : Timer). cond (eqb t.address address) false (cond t.inserted (eqb t.dpc a) false)) (timers_of l)
