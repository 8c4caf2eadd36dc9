-- What is known of a timer whose expiry the log does not refuse.
use Prim.Native.Nat.{ℕ, ◌≤◌, ◌<◌}
use mathlib.Core.Bool.{Bool, true, false, cond}
use mathlib.Core.Path.{◌≡◌, refl, sym, ap, ◌∙◌}
use native.Mathlib.Omega.{arith}
use borrow.Author.Tests.{eqb-true, eqb-false, ne_eqb, leb-false, ltb-false}
use lib.Dec.{eqb, leb, ltb}
use Rattle.images.specs.declared.Timer.{Timer}
use Rattle.images.specs.declared.DpcWork.{DpcWork}
use Rattle.images.specs.declared.DpcPhase.TheVariants.{Idle, Queued}
use Rattle.model.specs.Lists.{present}
use Rattle.model.specs.State.{Dpcs, Policy, unselected, cpu0_dispatch}
use Rattle.model.specs.Dpcs.{dpc_at, phase_at, is_from}
use Rattle.model.specs.Timers.{most, lifetime, next_due, horizon_refusal, queue_refusal, work_refusal, expiry_refusal}

pub first-zero : (a b : ℕ) → cond (eqb a 0) b a ≡ 0 → (a ≡ 0) × (b ≡ 0)
first-zero a b e = go (eqb a 0) refl e
  where
    go : (t : Bool) → eqb a 0 ≡ t → cond t b a ≡ 0 → (a ≡ 0) × (b ≡ 0)
    go true q z = (eqb-true a 0 q, z)
    go false q z = absurd (eqb-false a 0 q z)

module _ (time : ℕ) (q : Dpcs) (t : Timer) where
  -- without a policy it has no DPC
  pub plain-passed : expiry_refusal unselected time q t ≡ 0 → (t.dpc ≡ 0) × (horizon_refusal time t ≡ 0)
  unfolding expiry_refusal
  plain-passed e = go (eqb t.dpc 0) refl e
    where
      go : (b : Bool) → eqb t.dpc 0 ≡ b → cond b (horizon_refusal time t) 20 ≡ 0 → (t.dpc ≡ 0) × (horizon_refusal time t ≡ 0)
      go true z h = (eqb-true t.dpc 0 z, h)
      go false z h = absurd (omega arith)

  -- with one its work meets nothing that refuses
  pub queuing-passed : (first second : ℕ) → expiry_refusal (cpu0_dispatch first second) time q t ≡ 0 → (horizon_refusal time t ≡ 0) × (work_refusal q t ≡ 0)
  unfolding expiry_refusal
  queuing-passed first second e = first-zero (horizon_refusal time t) (work_refusal q t) e

  pub horizon-passed : (p : Policy) → expiry_refusal p time q t ≡ 0 → horizon_refusal time t ≡ 0
  horizon-passed unselected e = (plain-passed e).1
  horizon-passed (cpu0_dispatch first second) e = (queuing-passed first second e).0

  -- a periodic one is due again
  pub next-passed : horizon_refusal time t ≡ 0 → eqb t.period_ms 0 ≡ false → next_due t.due t.period_ms time ≤ most
  unfolding horizon_refusal
  next-passed e z = go (ltb most (next_due t.due t.period_ms time)) refl (sym (ap (λ (b : Bool). cond (cond b false true) (cond (ltb most (next_due t.due t.period_ms time)) 13 0) 0) z) ∙ e)
    where
      go : (b : Bool) → ltb most (next_due t.due t.period_ms time) ≡ b → ◌≡◌ {A = ℕ} (cond b 13 0) 0 → next_due t.due t.period_ms time ≤ most
      go true y h = absurd (omega arith)
      go false y h = ltb-false most (next_due t.due t.period_ms time) y

  -- ---- the work, at the DPC's phase

  pub work-passed : work_refusal q t ≡ 0 → (t.dpc ≡ 0 → ⊥) → queue_refusal q t (phase_at q.table t.dpc) ≡ 0
  work-passed e has = go (present (dpc_at q.table t.dpc)) (sym (ap (λ (b : Bool). cond b 0 (cond (present (dpc_at q.table t.dpc)) (queue_refusal q t (phase_at q.table t.dpc)) 2)) (ne_eqb t.dpc 0 has)) ∙ e)
    where
      go : (b : Bool) → cond b (queue_refusal q t (phase_at q.table t.dpc)) 2 ≡ 0 → queue_refusal q t (phase_at q.table t.dpc) ≡ 0
      go true h = h
      go false h = absurd (omega arith)

  pub idle-passed : queue_refusal q t Idle ≡ 0 → q.counters.accepted < lifetime
  idle-passed e = go (leb lifetime q.counters.accepted) refl e
    where
      go : (b : Bool) → leb lifetime q.counters.accepted ≡ b → ◌≡◌ {A = ℕ} (cond b 14 0) 0 → q.counters.accepted < lifetime
      go true y h = absurd (omega arith)
      go false y h = leb-false lifetime q.counters.accepted y

  pub queued-passed : (x : DpcWork) → queue_refusal q t (Queued x) ≡ 0 → q.counters.duplicates < most
  queued-passed x e = go (is_from t x.origin) (leb most q.counters.duplicates) refl e
    where
      go : (a b : Bool) → leb most q.counters.duplicates ≡ b → ◌≡◌ {A = ℕ} (cond a (cond b 24 0) 21) 0 → q.counters.duplicates < most
      go true true y h = absurd (omega arith)
      go true false y h = leb-false most q.counters.duplicates y
      go false b y h = absurd (omega arith)
