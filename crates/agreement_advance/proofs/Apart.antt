-- No timer that is due touches the DPC of another: what an expiry leaves as it was.
use Prim.Native.Nat.{ℕ}
use mathlib.Core.List.{List, [], ◌∷◌}
use mathlib.Core.Bool.{Bool, true, false, cond}
use mathlib.Core.Option.{Option, none, some}
use mathlib.Core.Logic.{inl, inr}
use mathlib.Core.Path.{◌≡◌, refl, sym, ◌∙◌, subst}
use borrow.Author.Tests.{eqb-false}
use lib.Dec.{eqb}
use Rattle.images.specs.declared.Timer.{Timer}
use Rattle.images.specs.declared.Dpc.{Dpc}
use Rattle.images.specs.declared.DpcPhase.{DpcPhase}
use Rattle.images.specs.declared.DpcPhase.TheVariants.{Idle, Queued, Running, Returning}
use Rattle.model.specs.Lists.{Mem, given, present}
use Rattle.model.specs.Table.{Rising}
use Rattle.model.specs.State.{Limits, Dispatcher, Object, timer, Dpcs, Policy, unselected, cpu0_dispatch}
use Rattle.model.specs.Waits.{object_at}
use Rattle.model.specs.Dpcs.{address_of, dpc_at, phase_at, in_phase, put_dpc, rephased, new_work, accepted, duplicated}
use Rattle.model.specs.Timers.{origin_of, work_queued, dpcs_after, Expired, expire_one}
use Rattle.model.proofs.TableLaws.{found, find-put-other}
use Rattle.model.proofs.DpcLaws.{present-some, still-present}
use Rattle.model.proofs.ExpiryLaws.{Expiring, Pending}

-- a DPC in another phase leaves the others
pub rephased-other : (l : List Dpc) (a : ℕ) (p : DpcPhase) (b : ℕ) → (b ≡ a → ⊥) → dpc_at (rephased l a p) b ≡ dpc_at l b
rephased-other l a p b n = go (dpc_at l a) refl
  where
    go : (o : Option Dpc) → dpc_at l a ≡ o → dpc_at (given o l (λ d. put_dpc (in_phase d p) l)) b ≡ dpc_at l b
    go none e = refl
    go (some d) e = find-put-other address_of (in_phase d p) l b (λ z. n (z ∙ (found address_of l a d e).1))

-- an expiry leaves every DPC but the timer's own
pub after-other : (p : Policy) (time : ℕ) (q : Dpcs) (t : Timer) (b : ℕ) → (b ≡ t.dpc → ⊥) → dpc_at (dpcs_after p time q t).table b ≡ dpc_at q.table b
unfolding dpcs_after accepted duplicated
after-other unselected time q t b n = refl
after-other (cpu0_dispatch first second) time q t b n = go (eqb t.dpc 0)
  where
    at : (p : DpcPhase) → dpc_at (work_queued q first second time t p).table b ≡ dpc_at q.table b
    at Idle = rephased-other q.table t.dpc (Queued (new_work q first second (origin_of time t))) b n
    at (Queued x) = refl
    at (Running x) = refl
    at (Returning x) = refl

    go : (c : Bool) → dpc_at (cond c q (work_queued q first second time t (phase_at q.table t.dpc))).table b ≡ dpc_at q.table b
    go true = refl
    go false = at (phase_at q.table t.dpc)

-- and every DPC where it is
pub after-present : (p : Policy) (time : ℕ) (q : Dpcs) (t : Timer) → Rising address_of q.table → ((t.dpc ≡ 0 → ⊥) → present (dpc_at q.table t.dpc) ≡ true)
    → (b : ℕ) → present (dpc_at (dpcs_after p time q t).table b) ≡ present (dpc_at q.table b)
unfolding dpcs_after accepted duplicated
after-present unselected time q t r known b = refl
after-present (cpu0_dispatch first second) time q t r known b = go (eqb t.dpc 0) refl
  where
    at : (d : Dpc) → dpc_at q.table t.dpc ≡ some d → (p : DpcPhase) → present (dpc_at (work_queued q first second time t p).table b) ≡ present (dpc_at q.table b)
    at d e Idle = still-present q.table r t.dpc d e (Queued (new_work q first second (origin_of time t))) b
    at d e (Queued x) = refl
    at d e (Running x) = refl
    at d e (Returning x) = refl

    go : (c : Bool) → eqb t.dpc 0 ≡ c → present (dpc_at (cond c q (work_queued q first second time t (phase_at q.table t.dpc))).table b) ≡ present (dpc_at q.table b)
    go true z = refl
    go false z = let x = present-some q.table t.dpc (known (eqb-false t.dpc 0 z)) in at x.0 x.1 (phase_at q.table t.dpc)

-- ---- the DPCs of the timers that are left

pub pending-mem : (l : List Object) (ts : List Timer) → Pending l ts → (u : Timer) → Mem u ts → (object_at l u.address ≡ some (timer u)) × (u.inserted ≡ true)
pending-mem l [] p u m = absurd m
pending-mem l (t ∷ ts) p u (inl e) = subst (λ (x : Timer). (object_at l x.address ≡ some (timer x)) × (x.inserted ≡ true)) (sym e) (p.0, p.1)
pending-mem l (t ∷ ts) p u (inr m) = pending-mem l ts p.3 u m

pub other-dpc : (lim : Limits) (d : Dispatcher) (e : Expired) → Expiring lim d e → (t : Timer) (ts : List Timer) → Pending e.objects (t ∷ ts)
    → (u : Timer) → Mem u ts → (u.dpc ≡ 0 → ⊥) → u.dpc ≡ t.dpc → ⊥
other-dpc lim d e v t ts p u m has z =
    let x = pending-mem e.objects ts p.3 u m in
    p.2 u m (v.linked.alone u.address (timer u) x.0 t.address (timer t) p.0 x.1 p.1 has z)

-- the DPCs of timers stand in one table as in the other
abbrev pub Untouched : List Dpc → List Dpc → List Timer → Type 0
Untouched table table' ts = (u : Timer) → Mem u ts → (u.dpc ≡ 0 → ⊥) → dpc_at table' u.dpc ≡ dpc_at table u.dpc

pub untouched-on : (lim : Limits) (d : Dispatcher) (table : List Dpc) (p : Policy) (time : ℕ) (e : Expired) → Expiring lim d e → (t : Timer) (ts : List Timer) → Pending e.objects (t ∷ ts)
    → Untouched table e.dpcs.table (t ∷ ts) → Untouched table (expire_one p time e t).dpcs.table ts
unfolding expire_one
untouched-on lim d table p time e v t ts q h u m has = after-other p time e.dpcs t u.dpc (other-dpc lim d e v t ts q u m has) ∙ h u (inr m) has
