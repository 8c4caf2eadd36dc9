-- DPCs: what each change of one keeps of the queue, the counts and the sum.
use Prim.Native.Nat.{ℕ, suc, ◌+◌, ◌≤◌, ◌<◌}
use mathlib.Core.List.{List, [], ◌∷◌, ◌++◌}
use mathlib.Core.Bool.{Bool, true, false, cond, not}
use mathlib.Core.Path.{◌≡◌, refl, sym, ap, ◌∙◌, subst}
use mathlib.Core.Option.{Option, none, some}
use native.Mathlib.Omega.{arith}
use native.Mathlib.Decide.{ℕ_discrete}
use borrow.Author.Tests.{ne_eqb}
use lib.Dec.{eqb}
use lib.ListN.{length, length-append}
use Rattle.images.specs.declared.Dpc.{Dpc}
use Rattle.images.specs.declared.DpcWork.{DpcWork}
use Rattle.images.specs.declared.DpcOrigin.{DpcOrigin}
use Rattle.images.specs.declared.DpcPhase.{DpcPhase}
use Rattle.images.specs.declared.DpcPhase.TheVariants.{Idle, Queued, Running, Returning}
use Rattle.model.specs.Lists.{Mem, Distinct, member, without, rest, keep, count_of, present, given}
use Rattle.model.specs.Table.{Rising}
use Rattle.model.specs.State.{Dpcs, Counters}
use Rattle.model.specs.Dpcs.{address_of, dpc_at, phase_at, in_phase, put_dpc, rephased, is_idle, is_queued, is_active, is_returning, is_busy, work_of, active_dpc, new_work, accepted, duplicated, withdrawn, started, returned, restored, one_accepted, one_removed, one_restored, one_returned, one_started}
use Rattle.model.specs.Timers.{lifetime}
use Rattle.model.specs.Valid.{Each, RisingBy, sequence_of, work_at, active_count, returning_count, DpcPlaced, Queueing}
use Rattle.model.proofs.ListLaws.{not-both, mem-without, distinct-keep, distinct-last, rising-keep, rising-last, rising-same, last-own, last-other, out-own, out-other, member-mem, not-member, member-not, length_without, length-keep}
use Rattle.model.proofs.TableLaws.{some_same, none-some, found, find-put-own, find-put-other, rising-put, rising-keep as table-keep, find-kept, kept-found, each-put, each_keep, length-put-known, count-put-known, count-put-new, count-keep}

-- ---- phases

pub idle-not-busy : (p : DpcPhase) → is_busy p ≡ false → p ≡ Idle
idle-not-busy Idle e = refl
idle-not-busy (Queued w) e = absurd (not-both e)
idle-not-busy (Running w) e = absurd (not-both e)
idle-not-busy (Returning w) e = absurd (not-both e)

pub queued-work : (p : DpcPhase) → is_queued p ≡ true → (w : DpcWork) × (p ≡ Queued w)
queued-work Idle e = absurd (not-both (sym e))
queued-work (Queued w) e = (w, refl)
queued-work (Running w) e = absurd (not-both (sym e))
queued-work (Returning w) e = absurd (not-both (sym e))

pub present-some : (l : List Dpc) (a : ℕ) → present (dpc_at l a) ≡ true → (d : Dpc) × (dpc_at l a ≡ some d)
present-some l a e = go (dpc_at l a) refl e
  where
    go : (o : Option Dpc) → dpc_at l a ≡ o → present o ≡ true → (d : Dpc) × (dpc_at l a ≡ some d)
    go none f t = absurd (not-both (sym t))
    go (some d) f t = (d, f)

pub phase-found : (l : List Dpc) (a : ℕ) (d : Dpc) → dpc_at l a ≡ some d → phase_at l a ≡ d.phase
phase-found l a d f = ap (λ (o : Option Dpc). given o Idle (λ (x : Dpc). x.phase)) f

-- a DPC whose phase is not idle is there
pub phase-known : (l : List Dpc) (a : ℕ) → is_idle (phase_at l a) ≡ false → (d : Dpc) × (dpc_at l a ≡ some d)
phase-known l a e = go (dpc_at l a) refl e
  where
    go : (o : Option Dpc) → dpc_at l a ≡ o → is_idle (given o Idle (λ (x : Dpc). x.phase)) ≡ false → (d : Dpc) × (dpc_at l a ≡ some d)
    go none f t = absurd (not-both t)
    go (some d) f t = (d, f)

-- ---- one DPC in another phase

module _ (l : List Dpc) (r : Rising address_of l) (a : ℕ) (d : Dpc) (f : dpc_at l a ≡ some d) (p : DpcPhase) where
  is-put : rephased l a p ≡ put_dpc (in_phase d p) l
  is-put = ap (λ (o : Option Dpc). given o l (λ (x : Dpc). put_dpc (in_phase x p) l)) f

  at_a : d.address ≡ a
  at_a = (found address_of l a d f).1

  found-own : dpc_at (rephased l a p) a ≡ some (in_phase d p)
  found-own = ap (λ (t : List Dpc). dpc_at t a) is-put ∙ ap (dpc_at (put_dpc (in_phase d p) l)) (sym at_a) ∙ find-put-own address_of (in_phase d p) l

  found-other : (b : ℕ) → (b ≡ a → ⊥) → dpc_at (rephased l a p) b ≡ dpc_at l b
  found-other b n = ap (λ (t : List Dpc). dpc_at t b) is-put ∙ find-put-other address_of (in_phase d p) l b (λ e. n (e ∙ at_a))

  pub phase-own : phase_at (rephased l a p) a ≡ p
  phase-own = ap (λ (o : Option Dpc). given o Idle (λ (x : Dpc). x.phase)) found-own

  pub phase-other : (b : ℕ) → (b ≡ a → ⊥) → phase_at (rephased l a p) b ≡ phase_at l b
  phase-other b n = ap (λ (o : Option Dpc). given o Idle (λ (x : Dpc). x.phase)) (found-other b n)

  pub still-present : (b : ℕ) → present (dpc_at (rephased l a p) b) ≡ present (dpc_at l b)
  still-present b = elim (ℕ_discrete b a) [
    | yes e ↦ ap (λ (k : ℕ). present (dpc_at (rephased l a p) k)) e ∙ ap present found-own ∙ sym (ap present f) ∙ ap (λ (k : ℕ). present (dpc_at l k)) (sym e)
    | no n ↦ ap present (found-other b n)
  ]

  re-rising : Rising address_of (rephased l a p)
  re-rising = subst (Rising address_of) (sym is-put) (rising-put address_of (in_phase d p) l r)

  known-key : dpc_at l (address_of (in_phase d p)) ≡ some d
  known-key = ap (dpc_at l) at_a ∙ f

  re-length : length (rephased l a p) ≡ length l
  re-length = ap length is-put ∙ length-put-known address_of (in_phase d p) l r d known-key

  re-placed : Each address_of l DpcPlaced → Each address_of (rephased l a p) DpcPlaced
  re-placed h = subst (λ (t : List Dpc). Each address_of t DpcPlaced) (sym is-put) (each-put address_of DpcPlaced (in_phase d p) l (h a d f) h)

  re-count : (g : DpcPhase → Bool) → count_of (λ (x : Dpc). g x.phase) (rephased l a p) + cond (g d.phase) 1 0 ≡ count_of (λ (x : Dpc). g x.phase) l + cond (g p) 1 0
  re-count g =
      ap (λ (t : List Dpc). count_of (λ (x : Dpc). g x.phase) t + cond (g d.phase) 1 0) is-put
      ∙ count-put-known address_of (λ (x : Dpc). g x.phase) (in_phase d p) l r d known-key

  -- what is asked of the queue and of the counts after it
  pub record Rephases (limit : ℕ) (queue queue' : List ℕ) (c c' : Counters) : Type 0 where
    pub own : member a queue' ≡ is_queued p
    pub others : (b : ℕ) → (b ≡ a → ⊥) → member b queue' ≡ member b queue
    pub once : Distinct queue'
    pub by_acceptance : RisingBy (work_at (rephased l a p)) queue'
    pub given-own : sequence_of (work_of p) ≤ c'.accepted
    pub more : c.accepted ≤ c'.accepted
    pub lived : c'.accepted ≤ lifetime
    pub sum : c'.accepted ≡ c'.removed + c'.restored + length queue' + active_count (rephased l a p)
    pub starts : c'.started ≡ c'.restored + active_count (rephased l a p)
    pub one_active : active_count (rephased l a p) ≤ 1
    pub returns : c'.returned ≡ c'.restored + returning_count (rephased l a p)

  queueing-rephased : (limit : ℕ) (queue queue' : List ℕ) (c c' : Counters) → Queueing limit l queue c → Rephases limit queue queue' c c' → Queueing limit (rephased l a p) queue' c'
  queueing-rephased limit queue queue' c c' q h = record {
    rising = re-rising;
    room = omega (arith, re-length, q.room);
    places = re-placed q.places;
    queued = λ b. elim (ℕ_discrete b a) [
      | yes e ↦ subst (λ (k : ℕ). member k queue' ≡ is_queued (phase_at (rephased l a p) k)) (sym e) (h.own ∙ ap is_queued (sym phase-own))
      | no n ↦ h.others b n ∙ q.queued b ∙ ap is_queued (sym (phase-other b n))
    ];
    once = h.once;
    by_acceptance = h.by_acceptance;
    given_out = λ b. elim (ℕ_discrete b a) [
      | yes e ↦ subst (λ (k : ℕ). work_at (rephased l a p) k ≤ c'.accepted) (sym e) (omega (arith, h.given-own, ap (λ (x : DpcPhase). sequence_of (work_of x)) phase-own))
      | no n ↦ omega (arith, q.given_out b, h.more, ap (λ (x : DpcPhase). sequence_of (work_of x)) (phase-other b n))
    ];
    lived = h.lived;
    sum = h.sum;
    starts = h.starts;
    one_active = h.one_active;
    returns = h.returns;
  }

  -- the work of the others stays, so a queue without it rises on
  pub still-rising : (queue : List ℕ) → ((b : ℕ) → Mem b queue → b ≡ a → ⊥) → RisingBy (work_at l) queue → RisingBy (work_at (rephased l a p)) queue
  still-rising queue n h = rising-same (work_at l) (work_at (rephased l a p)) queue (λ b m. ap (λ (x : DpcPhase). sequence_of (work_of x)) (sym (phase-other b (n b m)))) h

-- ---- the calls

module _ (limit : ℕ) (q : Dpcs) (v : Queueing limit q.table q.queue q.counters) where
  idle-out : (a : ℕ) → is_queued (phase_at q.table a) ≡ false → (b : ℕ) → Mem b q.queue → b ≡ a → ⊥
  idle-out a e b m z = member-not a q.queue (v.queued a ∙ e) (subst (λ (k : ℕ). Mem k q.queue) z m)

  pub queueing-accepted : (a first second : ℕ) (o : DpcOrigin) → (d : Dpc) → dpc_at q.table a ≡ some d → d.phase ≡ Idle → q.counters.accepted < lifetime
      → let q' = accepted q a first second o in Queueing limit q'.table q'.queue q'.counters
  unfolding accepted
  queueing-accepted a first second o d f e h =
      let p : DpcPhase = Queued (new_work q first second o) in
      let i : phase_at q.table a ≡ Idle = phase-found q.table a d f ∙ e in
      let out = idle-out a (ap is_queued i) in
      let act = re-count q.table v.rising a d f p is_active in
      let ret = re-count q.table v.rising a d f p is_returning in
      let n₁ : ◌≡◌ {A = ℕ} (cond (is_active d.phase) 1 0) 0 = ap {B = ℕ} (λ (x : DpcPhase). cond (is_active x) 1 0) e in
      let n₂ : ◌≡◌ {A = ℕ} (cond (is_returning d.phase) 1 0) 0 = ap {B = ℕ} (λ (x : DpcPhase). cond (is_returning x) 1 0) e in
      let len : length (q.queue ++ (a ∷ [])) ≡ length q.queue + 1 = length-append q.queue (a ∷ []) in
      queueing-rephased q.table v.rising a d f p limit q.queue (q.queue ++ (a ∷ [])) q.counters (one_accepted q.counters) v (record {
        own = last-own a q.queue;
        others = λ b n. last-other b a q.queue n;
        once = distinct-last q.queue a v.once (λ m. out a m refl);
        by_acceptance = rising-last (work_at (rephased q.table a p)) q.queue a (still-rising q.table v.rising a d f p q.queue out v.by_acceptance)
            (λ b m. omega (arith, v.given_out b, ap (λ (x : DpcPhase). sequence_of (work_of x)) (phase-other q.table v.rising a d f p b (out b m)), ap (λ (x : DpcPhase). sequence_of (work_of x)) (phase-own q.table v.rising a d f p)));
        given-own = omega arith;
        more = omega arith;
        lived = omega arith;
        sum = omega (arith, v.sum, len, act, n₁);
        starts = omega (arith, v.starts, act, n₁);
        one_active = omega (arith, v.one_active, act, n₁);
        returns = omega (arith, v.returns, ret, n₂);
      })

  pub queueing-duplicated : let q' = duplicated q in Queueing limit q'.table q'.queue q'.counters
  unfolding duplicated
  queueing-duplicated = record {
    rising = v.rising;
    room = v.room;
    places = v.places;
    queued = v.queued;
    once = v.once;
    by_acceptance = v.by_acceptance;
    given_out = v.given_out;
    lived = v.lived;
    sum = v.sum;
    starts = v.starts;
    one_active = v.one_active;
    returns = v.returns;
  }

  pub queueing-withdrawn : (a : ℕ) (d : Dpc) → dpc_at q.table a ≡ some d → (w : DpcWork) → d.phase ≡ Queued w
      → let q' = withdrawn q a in Queueing limit q'.table q'.queue q'.counters
  unfolding withdrawn
  queueing-withdrawn a d f w e =
      let i : phase_at q.table a ≡ Queued w = phase-found q.table a d f ∙ e in
      let m : Mem a q.queue = member-mem a q.queue (v.queued a ∙ ap is_queued i) in
      let act = re-count q.table v.rising a d f Idle is_active in
      let ret = re-count q.table v.rising a d f Idle is_returning in
      let n₁ : ◌≡◌ {A = ℕ} (cond (is_active d.phase) 1 0) 0 = ap {B = ℕ} (λ (x : DpcPhase). cond (is_active x) 1 0) e in
      let n₂ : ◌≡◌ {A = ℕ} (cond (is_returning d.phase) 1 0) 0 = ap {B = ℕ} (λ (x : DpcPhase). cond (is_returning x) 1 0) e in
      let len = length_without a q.queue v.once m in
      queueing-rephased q.table v.rising a d f Idle limit q.queue (without a q.queue) q.counters (one_removed q.counters) v (record {
        own = out-own a q.queue;
        others = λ b n. out-other b a q.queue n;
        once = distinct-keep (λ x. not (eqb x a)) q.queue v.once;
        by_acceptance = still-rising q.table v.rising a d f Idle (without a q.queue) (λ b z. (mem-without b a q.queue z).1) (rising-keep (work_at q.table) (λ x. not (eqb x a)) q.queue v.by_acceptance);
        given-own = omega arith;
        more = omega arith;
        lived = v.lived;
        sum = omega (arith, v.sum, len, act, n₁);
        starts = omega (arith, v.starts, act, n₁);
        one_active = omega (arith, v.one_active, act, n₁);
        returns = omega (arith, v.returns, ret, n₂);
      })

  -- none active: the count is 0
  pub none-active : present (active_dpc q.table) ≡ false → active_count q.table ≡ 0
  none-active e = go q.table e
    where
      go : (l : List Dpc) → present (active_dpc l) ≡ false → active_count l ≡ 0
      go [] z = refl
      go (x ∷ xs) z = by (is_active x.phase) z (go xs)
        where
          by : (b : Bool) → present (cond b (some x) (active_dpc xs)) ≡ false → (present (active_dpc xs) ≡ false → active_count xs ≡ 0) → cond b 1 0 + active_count xs ≡ 0
          by true y ih = absurd (not-both y)
          by false y ih = omega (arith, ih y)

  pub queueing-started : (a : ℕ) (xs : List ℕ) → q.queue ≡ a ∷ xs → (d : Dpc) → dpc_at q.table a ≡ some d → (w : DpcWork) → d.phase ≡ Queued w → present (active_dpc q.table) ≡ false
      → let q' = started q a w in Queueing limit q'.table q'.queue q'.counters
  unfolding started
  queueing-started a xs head d f w e none' =
      let p : DpcPhase = Running w in
      let dist = subst Distinct head v.once in
      let rise = subst (RisingBy (work_at q.table)) head v.by_acceptance in
      let out : (b : ℕ) → Mem b xs → b ≡ a → ⊥ = λ b m z. dist.0 (subst (λ (k : ℕ). Mem k xs) z m) in
      let act = re-count q.table v.rising a d f p is_active in
      let ret = re-count q.table v.rising a d f p is_returning in
      let n₁ : ◌≡◌ {A = ℕ} (cond (is_active d.phase) 1 0) 0 = ap {B = ℕ} (λ (x : DpcPhase). cond (is_active x) 1 0) e in
      let n₂ : ◌≡◌ {A = ℕ} (cond (is_returning d.phase) 1 0) 0 = ap {B = ℕ} (λ (x : DpcPhase). cond (is_returning x) 1 0) e in
      let len : length q.queue ≡ suc (length xs) = ap length head in
      let zero' = none-active none' in
      subst (λ (y : List ℕ). Queueing limit (rephased q.table a p) (rest y) (one_started q.counters)) (sym head)
      (queueing-rephased q.table v.rising a d f p limit q.queue xs q.counters (one_started q.counters) v (record {
        own = not-member a xs (λ m. out a m refl);
        others = λ b n. sym (ap (member b) head ∙ ap (λ (t : Bool). cond t true (member b xs)) (ne_eqb a b (λ z. n (sym z))));
        once = dist.1;
        by_acceptance = still-rising q.table v.rising a d f p xs out rise.1;
        given-own = omega (arith, v.given_out a, ap (λ (x : DpcPhase). sequence_of (work_of x)) (phase-found q.table a d f ∙ e));
        more = omega arith;
        lived = v.lived;
        sum = omega (arith, v.sum, len, act, n₁, zero');
        starts = omega (arith, v.starts, act, n₁, zero');
        one_active = omega (arith, act, n₁, zero');
        returns = omega (arith, v.returns, ret, n₂);
      }))

  pub queueing-returned : (a : ℕ) (d : Dpc) → dpc_at q.table a ≡ some d → (w : DpcWork) → d.phase ≡ Running w
      → let q' = returned q a w in Queueing limit q'.table q'.queue q'.counters
  unfolding returned
  queueing-returned a d f w e =
      let p : DpcPhase = Returning w in
      let i : phase_at q.table a ≡ Running w = phase-found q.table a d f ∙ e in
      let out = idle-out a (ap is_queued i) in
      let act = re-count q.table v.rising a d f p is_active in
      let ret = re-count q.table v.rising a d f p is_returning in
      let n₁ : ◌≡◌ {A = ℕ} (cond (is_active d.phase) 1 0) 1 = ap {B = ℕ} (λ (x : DpcPhase). cond (is_active x) 1 0) e in
      let n₂ : ◌≡◌ {A = ℕ} (cond (is_returning d.phase) 1 0) 0 = ap {B = ℕ} (λ (x : DpcPhase). cond (is_returning x) 1 0) e in
      queueing-rephased q.table v.rising a d f p limit q.queue q.queue q.counters (one_returned q.counters) v (record {
        own = v.queued a ∙ ap is_queued i;
        others = λ b n. refl;
        once = v.once;
        by_acceptance = still-rising q.table v.rising a d f p q.queue out v.by_acceptance;
        given-own = omega (arith, v.given_out a, ap (λ (x : DpcPhase). sequence_of (work_of x)) i);
        more = omega arith;
        lived = v.lived;
        sum = omega (arith, v.sum, act, n₁);
        starts = omega (arith, v.starts, act, n₁);
        one_active = omega (arith, v.one_active, act, n₁);
        returns = omega (arith, v.returns, ret, n₂);
      })

  pub queueing-restored : (a : ℕ) (d : Dpc) → dpc_at q.table a ≡ some d → (w : DpcWork) → d.phase ≡ Returning w
      → let q' = restored q a in Queueing limit q'.table q'.queue q'.counters
  unfolding restored
  queueing-restored a d f w e =
      let i : phase_at q.table a ≡ Returning w = phase-found q.table a d f ∙ e in
      let out = idle-out a (ap is_queued i) in
      let act = re-count q.table v.rising a d f Idle is_active in
      let ret = re-count q.table v.rising a d f Idle is_returning in
      let n₁ : ◌≡◌ {A = ℕ} (cond (is_active d.phase) 1 0) 1 = ap {B = ℕ} (λ (x : DpcPhase). cond (is_active x) 1 0) e in
      let n₂ : ◌≡◌ {A = ℕ} (cond (is_returning d.phase) 1 0) 1 = ap {B = ℕ} (λ (x : DpcPhase). cond (is_returning x) 1 0) e in
      queueing-rephased q.table v.rising a d f Idle limit q.queue q.queue q.counters (one_restored q.counters) v (record {
        own = v.queued a ∙ ap is_queued i;
        others = λ b n. refl;
        once = v.once;
        by_acceptance = still-rising q.table v.rising a d f Idle q.queue out v.by_acceptance;
        given-own = omega arith;
        more = omega arith;
        lived = v.lived;
        sum = omega (arith, v.sum, act, n₁);
        starts = omega (arith, v.starts, act, n₁);
        one_active = omega (arith, v.one_active, act, n₁);
        returns = omega (arith, v.returns, ret, n₂);
      })

  -- the same phases in another table
  pub queueing-phases : (l : List Dpc) → Rising address_of l → length l ≤ limit → Each address_of l DpcPlaced → ((b : ℕ) → phase_at l b ≡ phase_at q.table b)
      → active_count l ≡ active_count q.table → returning_count l ≡ returning_count q.table → Queueing limit l q.queue q.counters
  queueing-phases l r k p h act ret = record {
    rising = r;
    room = k;
    places = p;
    queued = λ b. v.queued b ∙ ap is_queued (sym (h b));
    once = v.once;
    by_acceptance = rising-same (work_at q.table) (work_at l) q.queue (λ b m. ap (λ (x : DpcPhase). sequence_of (work_of x)) (sym (h b))) v.by_acceptance;
    given_out = λ b. omega (arith, v.given_out b, ap (λ (x : DpcPhase). sequence_of (work_of x)) (h b));
    lived = v.lived;
    sum = omega (arith, v.sum, act);
    starts = omega (arith, v.starts, act);
    one_active = omega (arith, v.one_active, act);
    returns = omega (arith, v.returns, ret);
  }

  -- an idle DPC in the place of an idle one, or a new one
  pub idle-phases : (x : Dpc) → x.phase ≡ Idle → phase_at q.table x.address ≡ Idle → (b : ℕ) → phase_at (put_dpc x q.table) b ≡ phase_at q.table b
  idle-phases x e i b = elim (ℕ_discrete b x.address) [
    | yes z ↦ ap (phase_at (put_dpc x q.table)) z ∙ ap (λ (o : Option Dpc). given o Idle (λ (y : Dpc). y.phase)) (find-put-own address_of x q.table) ∙ e ∙ sym i ∙ ap (phase_at q.table) (sym z)
    | no n ↦ ap (λ (o : Option Dpc). given o Idle (λ (y : Dpc). y.phase)) (find-put-other address_of x q.table b n)
  ]

  idle-count : (x : Dpc) → x.phase ≡ Idle → phase_at q.table x.address ≡ Idle → (g : DpcPhase → Bool) → g Idle ≡ false
      → count_of (λ (y : Dpc). g y.phase) (put_dpc x q.table) ≡ count_of (λ (y : Dpc). g y.phase) q.table
  idle-count x e i g z = go (dpc_at q.table x.address) refl
    where
      n₁ : ◌≡◌ {A = ℕ} (cond (g x.phase) 1 0) 0
      n₁ = ap {B = ℕ} (λ (y : DpcPhase). cond (g y) 1 0) e ∙ ap {B = ℕ} (λ (b : Bool). cond b 1 0) z

      go : (o : Option Dpc) → dpc_at q.table x.address ≡ o → count_of (λ (y : Dpc). g y.phase) (put_dpc x q.table) ≡ count_of (λ (y : Dpc). g y.phase) q.table
      go none f = omega (arith, count-put-new address_of (λ (y : Dpc). g y.phase) x q.table f, n₁)
      go (some d) f =
          let n₂ : ◌≡◌ {A = ℕ} (cond (g d.phase) 1 0) 0 = ap {B = ℕ} (λ (y : DpcPhase). cond (g y) 1 0) (sym (phase-found q.table x.address d f) ∙ i) ∙ ap {B = ℕ} (λ (b : Bool). cond b 1 0) z in
          omega (arith, count-put-known address_of (λ (y : Dpc). g y.phase) x q.table v.rising d f, n₁, n₂)

  pub queueing-put : (x : Dpc) → x.phase ≡ Idle → phase_at q.table x.address ≡ Idle → length (put_dpc x q.table) ≤ limit → DpcPlaced x → Queueing limit (put_dpc x q.table) q.queue q.counters
  queueing-put x e i k p =
      queueing-phases (put_dpc x q.table) (rising-put address_of x q.table v.rising) k (each-put address_of DpcPlaced x q.table p v.places)
      (idle-phases x e i) (idle-count x e i is_active refl) (idle-count x e i is_returning refl)

  -- idle DPCs gone
  module _ (g : Dpc → Bool) (idle : (x : Dpc) → Mem x q.table → g x ≡ false → x.phase ≡ Idle) where
    pub kept-phases : (b : ℕ) → phase_at (keep g q.table) b ≡ phase_at q.table b
    kept-phases b = go (dpc_at q.table b) refl
      where
        gone : (d : Dpc) → dpc_at q.table b ≡ some d → g d ≡ false → dpc_at (keep g q.table) b ≡ none
        gone d f z = by (dpc_at (keep g q.table) b) refl
          where
            by : (o : Option Dpc) → dpc_at (keep g q.table) b ≡ o → dpc_at (keep g q.table) b ≡ none
            by none e = e
            by (some y) e =
                let h = kept-found address_of g q.table v.rising b y e in
                absurd (not-both (sym h.1 ∙ ap g (some_same y d (sym h.0 ∙ f)) ∙ z))

        go : (o : Option Dpc) → dpc_at q.table b ≡ o → phase_at (keep g q.table) b ≡ phase_at q.table b
        go none f = by (dpc_at (keep g q.table) b) refl
          where
            by : (o : Option Dpc) → dpc_at (keep g q.table) b ≡ o → phase_at (keep g q.table) b ≡ phase_at q.table b
            by none e = ap (λ (o : Option Dpc). given o Idle (λ (y : Dpc). y.phase)) (e ∙ sym f)
            by (some y) e = absurd (none-some y (sym f ∙ (kept-found address_of g q.table v.rising b y e).0))
        go (some d) f = by (g d) refl
          where
            by : (t : Bool) → g d ≡ t → phase_at (keep g q.table) b ≡ phase_at q.table b
            by true e = ap (λ (o : Option Dpc). given o Idle (λ (y : Dpc). y.phase)) (find-kept address_of g q.table b d f e ∙ sym f)
            by false e = ap (λ (o : Option Dpc). given o Idle (λ (y : Dpc). y.phase)) (gone d f e) ∙ sym (phase-found q.table b d f ∙ idle d (found address_of q.table b d f).0 e)

    pub queueing-kept : Queueing limit (keep g q.table) q.queue q.counters
    queueing-kept = queueing-phases (keep g q.table) (table-keep address_of g q.table v.rising) (omega (arith, v.room, length-keep g q.table))
        (each_keep address_of DpcPlaced g q.table v.rising v.places) kept-phases
        (count-keep address_of (λ (x : Dpc). is_active x.phase) g q.table (λ x m z. ap is_active (idle x m z)))
        (count-keep address_of (λ (x : Dpc). is_returning x.phase) g q.table (λ x m z. ap is_returning (idle x m z)))
