-- What the expiry of the due timers does to the DPCs: which work is new, where it stands in the queue, and the two counts.
use Prim.Native.Nat.{ℕ, ◌+◌, ◌≤◌, ◌<◌}
use mathlib.Core.List.{List, [], ◌∷◌, ◌++◌, append-nil, append_assoc}
use mathlib.Core.Bool.{Bool, true, false, cond, not}
use mathlib.Core.Path.{◌≡◌, refl, sym, ap, ◌∙◌, subst}
use mathlib.Core.Logic.{◌⊎◌, inl, inr, ⊎_elim}
use mathlib.Core.Option.{some}
use native.Mathlib.Omega.{arith}
use native.Mathlib.Decide.{ℕ_discrete}
use borrow.Author.Tests.{eqb-true, eqb-false, eq-eqb, ne_eqb}
use lib.Dec.{eqb}
use Rattle.images.specs.declared.Timer.{Timer}
use Rattle.images.specs.declared.Dpc.{Dpc}
use Rattle.images.specs.declared.DpcWork.{DpcWork}
use Rattle.images.specs.declared.DpcPhase.{DpcPhase}
use Rattle.images.specs.declared.DpcPhase.TheVariants.{Idle, Queued, Running, Returning}
use Rattle.model.specs.Lists.{Mem, keep, count_of, present}
use Rattle.model.specs.Table.{Rising}
use Rattle.model.specs.State.{Limits, Dispatcher, Object, timer, Dpcs, Policy, unselected, cpu0_dispatch}
use Rattle.model.specs.Waits.{object_at}
use Rattle.model.specs.Dpcs.{address_of, dpc_at, phase_at, is_queued, work_of, new_work, accepted, duplicated, rephased}
use Rattle.model.specs.Timers.{horizon_refusal, work_refusal, queue_refusal, expiry_refusal, origin_of, work_queued, dpcs_after, Expired, expire_one, expire_each, refusal_of_each}
use Rattle.model.proofs.ListLaws.{not-both}
use Rattle.model.proofs.TableLaws.{some_same}
use Rattle.model.proofs.DpcLaws.{present-some, phase-own, phase-other}
use Rattle.model.proofs.ExpiryLaws.{first-zero, Expiring, Pending, one-expired, pending-on}
use Rattle.model.proofs.RowLaws.{holds}

-- ---- lists

module _ {A : Type 0} (f g : A → Bool) where
  keep_same : (l : List A) → ((x : A) → Mem x l → f x ≡ g x) → keep f l ≡ keep g l
  keep_same [] h = refl
  keep_same (x ∷ l) h = ap (λ (b : Bool). cond b (x ∷ keep f l) (keep f l)) (h x (inl refl)) ∙ ap (λ (k : List A). cond (g x) (x ∷ k) k) (keep_same l (λ y m. h y (inr m)))

  pub count_same : (l : List A) → ((x : A) → Mem x l → f x ≡ g x) → count_of f l ≡ count_of g l
  count_same [] h = refl
  count_same (x ∷ l) h = ap (λ (b : Bool). cond b 1 0 + count_of f l) (h x (inl refl)) ∙ ap (λ (k : ℕ). cond (g x) 1 0 + k) (count_same l (λ y m. h y (inr m)))

-- the DPCs of timers, in their order
abbrev pub dpcs_of : List Timer → List ℕ
dpcs_of [] = []
dpcs_of (t ∷ ts) = t.dpc ∷ dpcs_of ts

-- ---- a timer that expires

-- it has a DPC, whose work is queued already
abbrev pub again : Dpcs → Timer → Bool
again q t = cond (eqb t.dpc 0) false (is_queued (phase_at q.table t.dpc))

-- or is not
abbrev pub anew : Dpcs → Timer → Bool
anew q t = cond (eqb t.dpc 0) false (not (is_queued (phase_at q.table t.dpc)))

-- work that the expiry of one of the timers put into the queue
pub record Fired (policy : Policy) (now : ℕ) (q q' : Dpcs) (ts : List Timer) (a : ℕ) (k : DpcWork) : Type 0 where
  pub timer : Timer
  pub listed : Mem timer ts
  pub dpc : timer.dpc ≡ a
  pub under : policy ≡ cpu0_dispatch k.first k.second
  pub origin : k.origin ≡ origin_of now timer
  pub above : q.counters.accepted < k.sequence
  pub within : k.sequence ≤ q'.counters.accepted

-- what the expiry of the timers makes of the DPCs
pub record Fires (policy : Policy) (now : ℕ) (q : Dpcs) (ts : List Timer) (q' : Dpcs) : Type 0 where
  pub queue : q'.queue ≡ q.queue ++ dpcs_of (keep (anew q) ts)
  pub duplicates : q'.counters.duplicates ≡ q.counters.duplicates + count_of (again q) ts
  pub accepted : q'.counters.accepted ≡ q.counters.accepted + count_of (anew q) ts
  pub works : (a : ℕ) (k : DpcWork) → work_of (phase_at q'.table a) ≡ some k → (work_of (phase_at q.table a) ≡ some k) ⊎ Fired policy now q q' ts a k
  pub idle : (t : Timer) → Mem t ts → anew q t ≡ true → phase_at q.table t.dpc ≡ Idle

-- of one timer
pub record FiresOne (policy : Policy) (now : ℕ) (q : Dpcs) (t : Timer) (q' : Dpcs) : Type 0 where
  pub fires : Fires policy now q (t ∷ []) q'
  pub others : (b : ℕ) → (b ≡ t.dpc → ⊥) → phase_at q'.table b ≡ phase_at q.table b

module _ (policy : Policy) (now : ℕ) (q : Dpcs) (t : Timer) where
  -- the two tests of a timer that has a DPC
  tests : (p : DpcPhase) → (t.dpc ≡ 0 → ⊥) → phase_at q.table t.dpc ≡ p → (again q t ≡ is_queued p) × (anew q t ≡ not (is_queued p))
  tests p n e =
      let z = ne_eqb t.dpc 0 n in (
        ap (λ (b : Bool). cond b false (is_queued (phase_at q.table t.dpc))) z ∙ ap is_queued e,
        ap (λ (b : Bool). cond b false (not (is_queued (phase_at q.table t.dpc)))) z ∙ ap (λ (x : DpcPhase). not (is_queued x)) e,
      )

  alone : (u : Timer) → Mem u (t ∷ []) → u ≡ t
  alone u (inl e) = e
  alone u (inr m) = absurd m

  -- no DPC
  fires-none : t.dpc ≡ 0 → FiresOne policy now q t q
  fires-none z =
      let e = eq-eqb t.dpc 0 z in
      let n₁ : anew q t ≡ false = ap (λ (b : Bool). cond b false (not (is_queued (phase_at q.table t.dpc)))) e in
      let n₂ : again q t ≡ false = ap (λ (b : Bool). cond b false (is_queued (phase_at q.table t.dpc))) e in
      let c₁ : ◌≡◌ {A = ℕ} (cond (anew q t) 1 0) 0 = ap (λ (b : Bool). cond b 1 0) n₁ in
      let c₂ : ◌≡◌ {A = ℕ} (cond (again q t) 1 0) 0 = ap (λ (b : Bool). cond b 1 0) n₂ in
      record {
        fires = record {
          queue = sym (ap (λ (b : Bool). q.queue ++ dpcs_of (cond b (t ∷ []) [])) n₁ ∙ append-nil q.queue);
          duplicates = omega (arith, c₂);
          accepted = omega (arith, c₁);
          works = λ a k e. inl e;
          idle = λ u m y. absurd (not-both (sym y ∙ ap (anew q) (alone u m) ∙ n₁));
        };
        others = λ b n. refl;
      }

  -- queued work: a duplicate
  fires-again : (t.dpc ≡ 0 → ⊥) → (w : DpcWork) → phase_at q.table t.dpc ≡ Queued w → FiresOne policy now q t (duplicated q)
  unfolding duplicated
  fires-again n w e =
      let r = tests (Queued w) n e in
      let c₁ : ◌≡◌ {A = ℕ} (cond (anew q t) 1 0) 0 = ap (λ (b : Bool). cond b 1 0) r.1 in
      let c₂ : ◌≡◌ {A = ℕ} (cond (again q t) 1 0) 1 = ap (λ (b : Bool). cond b 1 0) r.0 in
      record {
        fires = record {
          queue = sym (ap (λ (b : Bool). q.queue ++ dpcs_of (cond b (t ∷ []) [])) r.1 ∙ append-nil q.queue);
          duplicates = omega (arith, c₂);
          accepted = omega (arith, c₁);
          works = λ a k e. inl e;
          idle = λ u m y. absurd (not-both (sym y ∙ ap (anew q) (alone u m) ∙ r.1));
        };
        others = λ b m. refl;
      }

  -- an idle DPC: its work is new
  fires-anew : Rising address_of q.table → (t.dpc ≡ 0 → ⊥) → (d : Dpc) → dpc_at q.table t.dpc ≡ some d → phase_at q.table t.dpc ≡ Idle
      → (first second : ℕ) → policy ≡ cpu0_dispatch first second → FiresOne policy now q t (accepted q t.dpc first second (origin_of now t))
  unfolding accepted
  fires-anew rising n d f i first second under =
      let r = tests Idle n i in
      let k₀ = new_work q first second (origin_of now t) in
      let c₁ : ◌≡◌ {A = ℕ} (cond (anew q t) 1 0) 1 = ap (λ (b : Bool). cond b 1 0) r.1 in
      let c₂ : ◌≡◌ {A = ℕ} (cond (again q t) 1 0) 0 = ap (λ (b : Bool). cond b 1 0) r.0 in
      record {
        fires = record {
          queue = sym (ap (λ (b : Bool). q.queue ++ dpcs_of (cond b (t ∷ []) [])) r.1);
          duplicates = omega (arith, c₂);
          accepted = omega (arith, c₁);
          works = λ a k e. elim (ℕ_discrete a t.dpc) [
            | yes z ↦
                let same : k₀ ≡ k = some_same k₀ k (sym (ap (λ (p : DpcPhase). work_of p) (phase-own q.table rising t.dpc d f (Queued k₀))) ∙ ap (λ (b : ℕ). work_of (phase_at (rephased q.table t.dpc (Queued k₀)) b)) (sym z) ∙ e) in
                inr (subst (λ (w : DpcWork). Fired policy now q (accepted q t.dpc first second (origin_of now t)) (t ∷ []) a w) same (record {
                  timer = t;
                  listed = inl refl;
                  dpc = sym z;
                  under = under;
                  origin = refl;
                  above = omega arith;
                  within = omega arith;
                }))
            | no z ↦ inl (ap work_of (sym (phase-other q.table rising t.dpc d f (Queued k₀) a z)) ∙ e)
          ];
          idle = λ u m y. ap (λ (x : Timer). phase_at q.table x.dpc) (alone u m) ∙ i;
        };
        others = λ b m. phase-other q.table rising t.dpc d f (Queued k₀) b m;
      }

-- the expiry of one timer
one-fires : (policy : Policy) (now : ℕ) (q : Dpcs) (t : Timer) → Rising address_of q.table → expiry_refusal policy now q t ≡ 0 → FiresOne policy now q t (dpcs_after policy now q t)
unfolding expiry_refusal dpcs_after
one-fires unselected now q t rising r = fires-none unselected now q t (eqb-true t.dpc 0 (holds (eqb t.dpc 0) 19 (horizon_refusal now t) r).0)
one-fires (cpu0_dispatch first second) now q t rising r = go (eqb t.dpc 0) refl (first-zero (horizon_refusal now t) (work_refusal q t) r).1
  where
    in-phase : (t.dpc ≡ 0 → ⊥) → (d : Dpc) → dpc_at q.table t.dpc ≡ some d → (p : DpcPhase) → phase_at q.table t.dpc ≡ p → queue_refusal q t p ≡ 0
        → FiresOne (cpu0_dispatch first second) now q t (work_queued q first second now t p)
    in-phase n d f Idle e z = fires-anew (cpu0_dispatch first second) now q t rising n d f e first second refl
    in-phase n d f (Queued w) e z = fires-again (cpu0_dispatch first second) now q t n w e
    in-phase n d f (Running w) e z = absurd (omega arith)
    in-phase n d f (Returning w) e z = absurd (omega arith)

    go : (b : Bool) → eqb t.dpc 0 ≡ b → cond b 0 (cond (present (dpc_at q.table t.dpc)) (queue_refusal q t (phase_at q.table t.dpc)) 2) ≡ 0
        → FiresOne (cpu0_dispatch first second) now q t (cond b q (work_queued q first second now t (phase_at q.table t.dpc)))
    go true e z = fires-none (cpu0_dispatch first second) now q t (eqb-true t.dpc 0 e)
    go false e z =
        let h = holds (present (dpc_at q.table t.dpc)) 1 (queue_refusal q t (phase_at q.table t.dpc)) z in
        let d = present-some q.table t.dpc h.0 in
        in-phase (eqb-false t.dpc 0 e) d.0 d.1 (phase_at q.table t.dpc) refl h.1

-- ---- one after the other

module _ (policy : Policy) (now : ℕ) (q q₁ q' : Dpcs) (t : Timer) (ts : List Timer) (one : FiresOne policy now q t q₁) (rest : Fires policy now q₁ ts q')
    (apart : (u : Timer) → Mem u ts → (u.dpc ≡ 0 → ⊥) → u.dpc ≡ t.dpc → ⊥) where
  -- the tests of the others are as they were
  same_test : (f : DpcPhase → Bool) (u : Timer) → Mem u ts → cond (eqb u.dpc 0) false (f (phase_at q₁.table u.dpc)) ≡ cond (eqb u.dpc 0) false (f (phase_at q.table u.dpc))
  same_test f u m = go (eqb u.dpc 0) refl
    where
      go : (b : Bool) → eqb u.dpc 0 ≡ b → cond b false (f (phase_at q₁.table u.dpc)) ≡ cond b false (f (phase_at q.table u.dpc))
      go true e = refl
      go false e = ap f (one.others u.dpc (apart u m (eqb-false u.dpc 0 e)))

  join : (b : Bool) (l : List ℕ) (r : List Timer) → (l ++ dpcs_of (cond b (t ∷ []) [])) ++ dpcs_of r ≡ l ++ dpcs_of (cond b (t ∷ r) r)
  join true l r = append_assoc l (t.dpc ∷ []) (dpcs_of r)
  join false l r = ap (λ (x : List ℕ). x ++ dpcs_of r) (append-nil l)

  same-anew : keep (anew q₁) ts ≡ keep (anew q) ts
  same-anew = keep_same (anew q₁) (anew q) ts (same_test (λ p. not (is_queued p)))

  more : q₁.counters.accepted ≤ q'.counters.accepted
  more = omega (arith, rest.accepted)

  then-fires : Fires policy now q (t ∷ ts) q'
  then-fires = record {
    queue = rest.queue ∙ ap (λ (x : List Timer). q₁.queue ++ dpcs_of x) same-anew ∙ ap (λ (l : List ℕ). l ++ dpcs_of (keep (anew q) ts)) one.fires.queue ∙ join (anew q t) q.queue (keep (anew q) ts);
    duplicates = omega (arith, rest.duplicates, one.fires.duplicates, count_same (again q₁) (again q) ts (same_test is_queued));
    accepted = omega (arith, rest.accepted, one.fires.accepted, count_same (anew q₁) (anew q) ts (same_test (λ p. not (is_queued p))));
    works = λ a k e. ⊎_elim
        (λ (z : work_of (phase_at q₁.table a) ≡ some k). ⊎_elim
        (λ (y : work_of (phase_at q.table a) ≡ some k). inl y)
        (λ (y : Fired policy now q q₁ (t ∷ []) a k). inr (first y))
        (one.fires.works a k z))
        (λ (z : Fired policy now q₁ q' ts a k). inr (later z))
        (rest.works a k e);
    idle = λ u m y. ⊎_elim
        (λ (z : u ≡ t). one.fires.idle u (inl z) y)
        (λ (z : Mem u ts). still-idle u z y)
        m;
  }
    where
      still-idle : (u : Timer) → Mem u ts → anew q u ≡ true → phase_at q.table u.dpc ≡ Idle
      still-idle u z y =
          let n : u.dpc ≡ 0 → ⊥ = λ w. not-both (sym y ∙ ap (λ (b : Bool). cond b false (not (is_queued (phase_at q.table u.dpc)))) (eq-eqb u.dpc 0 w)) in
          sym (one.others u.dpc (apart u z n)) ∙ rest.idle u z (same_test (λ p. not (is_queued p)) u z ∙ y)

      first : {a : ℕ} {k : DpcWork} → Fired policy now q q₁ (t ∷ []) a k → Fired policy now q q' (t ∷ ts) a k
      first y = record { timer = y.timer; listed = ⊎_elim (λ z. inl z) (λ z. absurd z) y.listed; dpc = y.dpc; under = y.under; origin = y.origin; above = y.above; within = omega (arith, y.within, more) }

      later : {a : ℕ} {k : DpcWork} → Fired policy now q₁ q' ts a k → Fired policy now q q' (t ∷ ts) a k
      later y = record { timer = y.timer; listed = inr y.listed; dpc = y.dpc; under = y.under; origin = y.origin; above = omega (arith, y.above, one.fires.accepted); within = y.within }

pending-mem : (l : List Object) (ts : List Timer) → Pending l ts → (u : Timer) → Mem u ts → (object_at l u.address ≡ some (timer u)) × (u.inserted ≡ true)
pending-mem l [] p u m = absurd m
pending-mem l (t ∷ ts) p u (inl e) = subst (λ (x : Timer). (object_at l x.address ≡ some (timer x)) × (x.inserted ≡ true)) (sym e) (p.0, p.1)
pending-mem l (t ∷ ts) p u (inr m) = pending-mem l ts p.3 u m

-- the expiry of all of them: an inserted timer's DPC serves no other, so each finds its DPC as it was
pub all-fire : (lim : Limits) (d : Dispatcher) (policy : Policy) (now : ℕ) (ts : List Timer) (e : Expired) → Expiring lim d e → Pending e.objects ts → refusal_of_each policy now e ts ≡ 0
    → Fires policy now e.dpcs ts (expire_each policy now e ts).dpcs
all-fire lim d policy now [] e v p r = record {
  queue = sym (append-nil e.dpcs.queue);
  duplicates = omega arith;
  accepted = omega arith;
  works = λ a k z. inl z;
  idle = λ u m y. absurd m;
}
all-fire lim d policy now (t ∷ ts) e v p r =
    let z = first-zero (expiry_refusal policy now e.dpcs t) (refusal_of_each policy now (expire_one policy now e t) ts) r in
    let e₁ = expire_one policy now e t in
    then-fires policy now e.dpcs e₁.dpcs (expire_each policy now e₁ ts).dpcs t ts
    (one z.0)
    (all-fire lim d policy now ts e₁ (one-expired lim d e v policy now t p.0 p.1 z.0) (pending-on policy now e t ts p) z.1)
    (λ u m n s. let k = pending-mem e.objects ts p.3 u m in p.2 u m (v.linked.alone u.address (timer u) k.0 t.address (timer t) p.0 k.1 p.1 n s))
  where
    one : expiry_refusal policy now e.dpcs t ≡ 0 → FiresOne policy now e.dpcs t (expire_one policy now e t).dpcs
    one z = unfold expire_one in (one-fires policy now e.dpcs t v.queueing.rising z)
