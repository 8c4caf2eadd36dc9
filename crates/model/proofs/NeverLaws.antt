-- What never happens in a valid state: an advance is never refused with 21, nor for a DPC that is not there; a queued DPC is in
-- the queue; two inserted timers have no DPC in common.
use Prim.Native.Nat.{ℕ}
use mathlib.Core.List.{List, [], ◌∷◌}
use mathlib.Core.Bool.{Bool, true, false, cond}
use mathlib.Core.Path.{◌≡◌, refl, sym, ap, ◌∙◌, subst}
use mathlib.Core.Option.{some}
use native.Mathlib.Omega.{arith}
use borrow.Author.Tests.{eqb-true, eqb-false}
use lib.Dec.{eqb, leb, ltb}
use Rattle.images.specs.declared.Timer.{Timer}
use Rattle.images.specs.declared.DpcWork.{DpcWork}
use Rattle.images.specs.declared.DpcPhase.{DpcPhase}
use Rattle.images.specs.declared.DpcPhase.TheVariants.{Idle, Queued, Running, Returning}
use Rattle.model.specs.Lists.{Mem, present}
use Rattle.model.specs.State.{State, Limits, Dispatcher, timer, Dpcs, Policy, unselected, cpu0_dispatch}
use Rattle.model.specs.Waits.{object_at, timer_at}
use Rattle.model.specs.Dpcs.{dpc_at, phase_at, is_queued, is_from}
use Rattle.model.specs.Timers.{most, lifetime, is_periodic, next_due, horizon_refusal, queue_refusal, expiry_refusal, due_timers, Expired, expire_one, refusal_of_each}
use Rattle.model.specs.Refusal.{unexpired, advance_refusal}
use Rattle.model.specs.Valid.{Valid}
use Rattle.model.proofs.ListLaws.{not-both, member-mem}
use Rattle.model.proofs.ObjectLaws.{timer-found}
use Rattle.model.proofs.ExpiryLaws.{Expiring, Pending, one-expired, pending-on, due-pending}
use Rattle.model.proofs.KeepTimers.{begun}

-- a refusal that is neither 21 nor 2
abbrev pub Met : ℕ → Type 0
Met n = (n ≡ 21 → ⊥) × (n ≡ 2 → ⊥)

horizon-met : (now : ℕ) (t : Timer) → Met (horizon_refusal now t)
unfolding horizon_refusal
horizon-met now t = go (is_periodic t) (ltb most (next_due t.due t.period_ms now))
  where
    go : (a b : Bool) → Met (cond a (cond b 13 0) 0)
    go true true = (λ e. omega arith, λ e. omega arith)
    go true false = (λ e. omega arith, λ e. omega arith)
    go false b = (λ e. omega arith, λ e. omega arith)

queue-met : (q : Dpcs) (t : Timer) (p : DpcPhase) → ((w : DpcWork) → p ≡ Queued w → is_from t w.origin ≡ true) → Met (queue_refusal q t p)
queue-met q t Idle h = go (leb lifetime q.counters.accepted)
  where
    go : (b : Bool) → Met (cond b 14 0)
    go true = (λ e. omega arith, λ e. omega arith)
    go false = (λ e. omega arith, λ e. omega arith)
queue-met q t (Queued w) h = go (is_from t w.origin) (leb most q.counters.duplicates) (h w refl)
  where
    go : (a b : Bool) → a ≡ true → Met (cond a (cond b 24 0) 21)
    go true true e = (λ z. omega arith, λ z. omega arith)
    go true false e = (λ z. omega arith, λ z. omega arith)
    go false b e = absurd (not-both (sym e))
queue-met q t (Running w) h = (λ e. omega arith, λ e. omega arith)
queue-met q t (Returning w) h = (λ e. omega arith, λ e. omega arith)

one-met : (lim : Limits) (d : Dispatcher) (e : Expired) → Expiring lim d e → (policy : Policy) (now : ℕ) (t : Timer) → object_at e.objects t.address ≡ some (timer t) → t.inserted ≡ true → Met (expiry_refusal policy now e.dpcs t)
unfolding expiry_refusal
one-met lim d e v unselected now t f i = go (eqb t.dpc 0)
  where
    go : (b : Bool) → Met (cond b (horizon_refusal now t) 20)
    go true = horizon-met now t
    go false = (λ z. omega arith, λ z. omega arith)
one-met lim d e v (cpu0_dispatch first second) now t f i = go (eqb (horizon_refusal now t) 0) (eqb t.dpc 0) refl
  where
    served : (t.dpc ≡ 0 → ⊥) → (present (dpc_at e.dpcs.table t.dpc) ≡ true) × ((w : DpcWork) → phase_at e.dpcs.table t.dpc ≡ Queued w → is_from t w.origin ≡ true)
    served n = v.linked.served t.address (timer t) f i n

    go : (a b : Bool) → eqb t.dpc 0 ≡ b → Met (cond a (cond b 0 (cond (present (dpc_at e.dpcs.table t.dpc)) (queue_refusal e.dpcs t (phase_at e.dpcs.table t.dpc)) 2)) (horizon_refusal now t))
    go true true z = (λ y. omega arith, λ y. omega arith)
    go true false z =
        let r = served (eqb-false t.dpc 0 z) in
        subst (λ (c : Bool). Met (cond c (queue_refusal e.dpcs t (phase_at e.dpcs.table t.dpc)) 2)) (sym r.0) (queue-met e.dpcs t (phase_at e.dpcs.table t.dpc) r.1)
    go false b z = horizon-met now t

each-met : (lim : Limits) (d : Dispatcher) (policy : Policy) (now : ℕ) (ts : List Timer) (e : Expired) → Expiring lim d e → Pending e.objects ts → Met (refusal_of_each policy now e ts)
each-met lim d policy now [] e v p = (λ z. omega arith, λ z. omega arith)
each-met lim d policy now (t ∷ ts) e v p =
    go (eqb (expiry_refusal policy now e.dpcs t) 0) refl
    (λ z. each-met lim d policy now ts (expire_one policy now e t) (one-expired lim d e v policy now t p.0 p.1 z) (pending-on policy now e t ts p))
  where
    go : (b : Bool) → eqb (expiry_refusal policy now e.dpcs t) 0 ≡ b → (expiry_refusal policy now e.dpcs t ≡ 0 → Met (refusal_of_each policy now (expire_one policy now e t) ts))
        → Met (cond b (refusal_of_each policy now (expire_one policy now e t) ts) (expiry_refusal policy now e.dpcs t))
    go true z h = h (eqb-true (expiry_refusal policy now e.dpcs t) 0 z)
    go false z h = one-met lim d e v policy now t p.0 p.1

module _ (s : State) (v : Valid s) where
  -- "other queued work 21, which no call sequence reaches"
  pub advance-never-21 : (time : ℕ) → advance_refusal s time ≡ 21 → ⊥
  unfolding advance_refusal
  advance-never-21 time = go (ltb time s.now) (each-met s.limits s.dispatcher s.policy time (due_timers s.policy time s.dispatcher.objects) (unexpired s) (begun s v) (due-pending s.policy time s.dispatcher.objects v.sound.rising))
    where
      go : (b : Bool) → Met (refusal_of_each s.policy time (unexpired s) (due_timers s.policy time s.dispatcher.objects)) → cond b 12 (refusal_of_each s.policy time (unexpired s) (due_timers s.policy time s.dispatcher.objects)) ≡ 21 → ⊥
      go true h e = omega arith
      go false h e = h.0 e

  -- nor 2, for a DPC that is not there
  pub advance-never-2 : (time : ℕ) → advance_refusal s time ≡ 2 → ⊥
  unfolding advance_refusal
  advance-never-2 time = go (ltb time s.now) (each-met s.limits s.dispatcher s.policy time (due_timers s.policy time s.dispatcher.objects) (unexpired s) (begun s v) (due-pending s.policy time s.dispatcher.objects v.sound.rising))
    where
      go : (b : Bool) → Met (refusal_of_each s.policy time (unexpired s) (due_timers s.policy time s.dispatcher.objects)) → cond b 12 (refusal_of_each s.policy time (unexpired s) (due_timers s.policy time s.dispatcher.objects)) ≡ 2 → ⊥
      go true h e = omega arith
      go false h e = h.1 e

  -- a queued DPC is in the queue: its index is never lost
  pub queued-in-queue : (a : ℕ) (w : DpcWork) → phase_at s.dpcs.table a ≡ Queued w → Mem a s.dpcs.queue
  queued-in-queue a w e = member-mem a s.dpcs.queue (v.queueing.queued a ∙ ap is_queued e)

  -- two inserted timers on one DPC are one
  pub one-timer-a-dpc : (k j : ℕ) (t u : Timer) → timer_at s.dispatcher.objects k ≡ some t → timer_at s.dispatcher.objects j ≡ some u → t.inserted ≡ true → u.inserted ≡ true → (t.dpc ≡ 0 → ⊥) → t.dpc ≡ u.dpc → t.address ≡ u.address
  one-timer-a-dpc k j t u f g = v.linked.alone k (timer t) (timer-found (object_at s.dispatcher.objects k) t f) j (timer u) (timer-found (object_at s.dispatcher.objects j) u g)
