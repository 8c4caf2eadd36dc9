-- The expiry of the timers that are due: what it keeps of objects, DPCs and their links.
use Prim.Native.Nat.{ℕ, ◌≤◌, ◌<◌}
use mathlib.Core.List.{List, [], ◌∷◌}
use mathlib.Core.Bool.{Bool, true, false, cond}
use mathlib.Core.Path.{◌≡◌, refl, sym, ap, ◌∙◌, subst}
use mathlib.Core.Logic.{◌⊎◌, inl, inr, ⊎_elim}
use mathlib.Core.Option.{Option, none, some}
use native.Mathlib.Omega.{arith}
use native.Mathlib.Decide.{ℕ_discrete}
use borrow.Author.Tests.{eq-eqb, eqb-true, eqb-false, leb-false, ne_eqb}
use lib.Dec.{eqb, leb}
use lib.ListN.{length}
use Rattle.images.specs.declared.Timer.{Timer}
use Rattle.images.specs.declared.Dpc.{Dpc}
use Rattle.images.specs.declared.DpcWork.{DpcWork}
use Rattle.images.specs.declared.DpcOrigin.{DpcOrigin}
use Rattle.images.specs.declared.DpcPhase.{DpcPhase}
use Rattle.images.specs.declared.DpcPhase.TheVariants.{Idle, Queued, Running, Returning}
use Rattle.model.specs.Lists.{Mem, keep, present}
use Rattle.model.specs.Table.{Rising, Above}
use Rattle.model.specs.State.{Limits, Dispatcher, Named, Object, timer, Dpcs, Policy, unselected, cpu0_dispatch}
use Rattle.model.specs.Threads.{is_thread, with_objects}
use Rattle.model.specs.Waits.{key_of, kind_of, object_at, of_kind, named_in, exists, put_object, timers_of}
use Rattle.model.specs.Dpcs.{dpc_at, phase_at, is_from, new_work, accepted, duplicated}
use Rattle.model.specs.Timers.{lifetime, retimed, next_due, is_periodic, expired, horizon_refusal, is_due, insert_by_due, by_due, in_order, due_timers, origin_of, queue_refusal, work_refusal, expiry_refusal, work_queued, dpcs_after, Expired, expire_one, expire_each, refusal_of_each}
use Rattle.model.specs.Valid.{Each, OwnerLive, Placed, Queueing, Linked}
use Rattle.model.proofs.ListLaws.{not-both, mem-keep}
use Rattle.model.proofs.TableLaws.{some_same, found, mem-found, find-put-own, find-put-other, rising-put, length-put-known, each-put}
use Rattle.model.proofs.ObjectLaws.{on-timer}
use Rattle.model.proofs.DpcLaws.{present-some, phase-found, queueing-accepted, queueing-duplicated}
use Rattle.model.proofs.LinkLaws.{Less, linked-less, linked-rephased, mem-timer}

-- ---- an object in the place of one of its kind: what exists does so on

pub exists-put : (d : Dispatcher) (x o : Object) → object_at d.objects (key_of x) ≡ some o → kind_of x ≡ kind_of o → (n : Named) → exists d n ≡ true → exists (with_objects d (put_object x d.objects)) n ≡ true
exists-put d x o f e n t = go (eqb n.kind 3) t
  where
    there : present (named_in d.objects n) ≡ true → present (named_in (put_object x d.objects) n) ≡ true
    there p = elim (ℕ_discrete n.key (key_of x)) [
      | yes q ↦ ap (λ (k : ℕ). present (of_kind n.kind (object_at (put_object x d.objects) k))) q ∙ ap (λ (a : Option Object). present (of_kind n.kind a)) (find-put-own key_of x d.objects)
          ∙ kind (eqb (kind_of o) n.kind) refl (sym (ap (λ (a : Option Object). present (of_kind n.kind a)) f) ∙ ap (λ (k : ℕ). present (of_kind n.kind (object_at d.objects k))) (sym q) ∙ p)
      | no z ↦ ap (λ (a : Option Object). present (of_kind n.kind a)) (find-put-other key_of x d.objects n.key z) ∙ p
    ]
      where
        kind : (b : Bool) → eqb (kind_of o) n.kind ≡ b → present (cond b (some o) none) ≡ true → present (cond (eqb (kind_of x) n.kind) (some x) none) ≡ true
        kind true q z = ap (λ (b : Bool). present (cond b (some x) none)) (ap (λ (k : ℕ). eqb k n.kind) e ∙ q)
        kind false q z = absurd (not-both (sym z))

    go : (b : Bool) → cond b (is_thread d n.key) (present (named_in d.objects n)) ≡ true → cond b (is_thread d n.key) (present (named_in (put_object x d.objects) n)) ≡ true
    go true q = q
    go false q = there q

-- ---- what an expiry keeps, for the threads of `d`

pub record Expiring (lim : Limits) (d : Dispatcher) (e : Expired) : Type 0 where
  pub rising : Rising key_of e.objects
  pub room : length e.objects ≤ lim.objects
  pub owners : Each key_of e.objects (OwnerLive d)
  pub places : Each key_of e.objects Placed
  pub keeps : (n : Named) → exists d n ≡ true → exists (with_objects d e.objects) n ≡ true
  pub queueing : Queueing lim.dpcs e.dpcs.table e.dpcs.queue e.dpcs.counters
  pub linked : Linked e.objects e.dpcs.table

expired-less : (now : ℕ) (t : Timer) → t.inserted ≡ true → Less (expired now t) t
unfolding expired
expired-less now t i = go (is_periodic t)
  where
    go : (b : Bool) → Less (cond b (retimed t true true (next_due t.due t.period_ms now)) (retimed t true false t.due)) t
    go true = record { inserted = λ e. i; address = refl; dpc = refl; arm = refl; initialization = refl }
    go false = record { inserted = λ e. absurd (not-both (sym e)); address = refl; dpc = refl; arm = refl; initialization = refl }

-- it stands where it stood, and is signaled
pub expired-is : (now : ℕ) (t : Timer) → ((expired now t).address ≡ t.address) × ((expired now t).signaled ≡ true)
unfolding expired
expired-is now t = go (is_periodic t)
  where
    go : (b : Bool) → let u = cond b (retimed t true true (next_due t.due t.period_ms now)) (retimed t true false t.due) in (u.address ≡ t.address) × (u.signaled ≡ true)
    go true = (refl, refl)
    go false = (refl, refl)

expired-placed : (now : ℕ) (t : Timer) → Placed (timer t) → Placed (timer (expired now t))
unfolding expired
expired-placed now t p = go (is_periodic t)
  where
    go : (b : Bool) → Placed (timer (cond b (retimed t true true (next_due t.due t.period_ms now)) (retimed t true false t.due)))
    go true = p
    go false = p

-- ---- the work of one expiry

pub first-zero : (a b : ℕ) → cond (eqb a 0) b a ≡ 0 → (a ≡ 0) × (b ≡ 0)
first-zero a b e = go (eqb a 0) refl e
  where
    go : (t : Bool) → eqb a 0 ≡ t → cond t b a ≡ 0 → (a ≡ 0) × (b ≡ 0)
    go true q z = (eqb-true a 0 q, z)
    go false q z = absurd (eqb-false a 0 q z)

-- under a policy, for a timer that has a DPC
module _ (lim : Limits) (d : Dispatcher) (e : Expired) (v : Expiring lim d e) (now : ℕ) (t : Timer) (f : object_at e.objects t.address ≡ some (timer t)) (i : t.inserted ≡ true) (has : t.dpc ≡ 0 → ⊥) (first second : ℕ) where
  abbrev After : Dpcs → Type 0
  After q = (Queueing lim.dpcs q.table q.queue q.counters) × Linked e.objects q.table

  own-work : is_from t (origin_of now t) ≡ true
  own-work = ap (λ (b : Bool). cond b (cond (eqb t.arm_generation t.arm_generation) (eqb t.initialization t.initialization) false) false) (eq-eqb t.address t.address refl)
      ∙ ap (λ (b : Bool). cond b (eqb t.initialization t.initialization) false) (eq-eqb t.arm_generation t.arm_generation refl) ∙ eq-eqb t.initialization t.initialization refl

  -- no other inserted timer has its DPC
  own-timer : (k : ℕ) (u : Timer) → object_at e.objects k ≡ some (timer u) → u.inserted ≡ true → u.dpc ≡ t.dpc → is_from u (origin_of now t) ≡ true
  own-timer k u g j z =
      let a : u.address ≡ t.address = v.linked.alone k (timer u) g t.address (timer t) f j i (λ y. has (sym z ∙ y)) z in
      let b : k ≡ t.address = sym (found key_of e.objects k (timer u) g).1 ∙ a in
      let c : some (timer u) ≡ some (timer t) = sym g ∙ ap (object_at e.objects) b ∙ f in
      let o : timer u ≡ timer t = some_same (timer u) (timer t) c in
      let y : u ≡ t = cc in subst (λ (x : Timer). is_from x (origin_of now t) ≡ true) (sym y) own-work

  work-after : (x : Dpc) → dpc_at e.dpcs.table t.dpc ≡ some x → (p : DpcPhase) → x.phase ≡ p → queue_refusal e.dpcs t p ≡ 0 → After (work_queued e.dpcs first second now t p)
  unfolding accepted duplicated
  work-after x g Idle z r =
      let few : e.dpcs.counters.accepted < lifetime = below (leb lifetime e.dpcs.counters.accepted) refl r in (
        queueing-accepted lim.dpcs e.dpcs v.queueing t.dpc first second (origin_of now t) x g z few,
        linked-rephased e.objects e.dpcs.table v.queueing.rising t.dpc x g (Queued (new_work e.dpcs first second (origin_of now t)))
            (λ k u h j y w q. subst (λ (o : DpcOrigin). is_from u o ≡ true) (origin-of w q) (own-timer k u h j y)) v.linked,
      )
    where
      below : (b : Bool) → leb lifetime e.dpcs.counters.accepted ≡ b → ◌≡◌ {A = ℕ} (cond b 14 0) 0 → e.dpcs.counters.accepted < lifetime
      below true q y = absurd (omega arith)
      below false q y = leb-false lifetime e.dpcs.counters.accepted q

      origin-of : (w : DpcWork) → Queued (new_work e.dpcs first second (origin_of now t)) ≡ Queued w → origin_of now t ≡ w.origin
      origin-of w q = let y : new_work e.dpcs first second (origin_of now t) ≡ w = cc in ap (λ (u : DpcWork). u.origin) y
  work-after x g (Queued w) z r = (queueing-duplicated lim.dpcs e.dpcs v.queueing, v.linked)
  work-after x g (Running w) z r = absurd (omega arith)
  work-after x g (Returning w) z r = absurd (omega arith)

  work-queued : work_refusal e.dpcs t ≡ 0 → After (work_queued e.dpcs first second now t (phase_at e.dpcs.table t.dpc))
  work-queued r = known (present (dpc_at e.dpcs.table t.dpc)) refl (sym (ap (λ (b : Bool). cond b 0 (cond (present (dpc_at e.dpcs.table t.dpc)) (queue_refusal e.dpcs t (phase_at e.dpcs.table t.dpc)) 2)) (ne_eqb t.dpc 0 has)) ∙ r)
    where
      known : (b : Bool) → present (dpc_at e.dpcs.table t.dpc) ≡ b → cond b (queue_refusal e.dpcs t (phase_at e.dpcs.table t.dpc)) 2 ≡ 0 → After (work_queued e.dpcs first second now t (phase_at e.dpcs.table t.dpc))
      known true q z = let x = present-some e.dpcs.table t.dpc q in work-after x.0 x.1 (phase_at e.dpcs.table t.dpc) (sym (phase-found e.dpcs.table t.dpc x.0 x.1)) z
      known false q z = absurd (omega arith)

-- ---- one expiry

one-work : (lim : Limits) (d : Dispatcher) (e : Expired) → Expiring lim d e → (policy : Policy) (now : ℕ) (t : Timer) → object_at e.objects t.address ≡ some (timer t) → t.inserted ≡ true → expiry_refusal policy now e.dpcs t ≡ 0
    → let q = dpcs_after policy now e.dpcs t in (Queueing lim.dpcs q.table q.queue q.counters) × Linked e.objects q.table
unfolding dpcs_after expiry_refusal
one-work lim d e v unselected now t f i r = (v.queueing, v.linked)
one-work lim d e v (cpu0_dispatch first second) now t f i r = go (eqb t.dpc 0) refl
  where
    go : (b : Bool) → eqb t.dpc 0 ≡ b → let q = cond b e.dpcs (work_queued e.dpcs first second now t (phase_at e.dpcs.table t.dpc)) in (Queueing lim.dpcs q.table q.queue q.counters) × Linked e.objects q.table
    go true z = (v.queueing, v.linked)
    go false z = work-queued lim d e v now t f i (eqb-false t.dpc 0 z) first second (first-zero (horizon_refusal now t) (work_refusal e.dpcs t) r).1

pub one-expired : (lim : Limits) (d : Dispatcher) (e : Expired) → Expiring lim d e → (policy : Policy) (now : ℕ) (t : Timer) → object_at e.objects t.address ≡ some (timer t) → t.inserted ≡ true → expiry_refusal policy now e.dpcs t ≡ 0
    → Expiring lim d (expire_one policy now e t)
unfolding expire_one
one-expired lim d e v policy now t f i r =
    let w = one-work lim d e v policy now t f i r in
    let l = expired-less now t i in
    let k : key_of (timer (expired now t)) ≡ t.address = l.address in
    let g : object_at e.objects (key_of (timer (expired now t))) ≡ some (timer t) = ap (object_at e.objects) k ∙ f in
    record {
      rising = rising-put key_of (timer (expired now t)) e.objects v.rising;
      room = omega (arith, v.room, length-put-known key_of (timer (expired now t)) e.objects v.rising (timer t) g);
      owners = each-put key_of (OwnerLive d) (timer (expired now t)) e.objects tt v.owners;
      places = each-put key_of Placed (timer (expired now t)) e.objects (expired-placed now t (v.places t.address (timer t) f)) v.places;
      keeps = λ n x. exists-put (with_objects d e.objects) (timer (expired now t)) (timer t) g refl n (v.keeps n x);
      queueing = w.0;
      linked = linked-less (expired now t) t e.objects (dpcs_after policy now e.dpcs t).table l f w.1;
    }

-- ---- all that are due

-- each stands in the table as it is in the list, inserted, and no two at one address
abbrev pub Pending : List Object → List Timer → Type 0
Pending l [] = Unit
Pending l (t ∷ ts) = (object_at l t.address ≡ some (timer t)) × (t.inserted ≡ true) × ((u : Timer) → Mem u ts → u.address ≡ t.address → ⊥) × Pending l ts

-- what is put at another address leaves them
pending-put : (l : List Object) (x : Object) (ts : List Timer) → ((u : Timer) → Mem u ts → u.address ≡ key_of x → ⊥) → Pending l ts → Pending (put_object x l) ts
pending-put l x [] n p = tt
pending-put l x (t ∷ ts) n p =
    (find-put-other key_of x l t.address (n t (inl refl)) ∙ p.0, p.1, p.2, pending-put l x ts (λ u m. n u (inr m)) p.3)

pub pending-on : (policy : Policy) (now : ℕ) (e : Expired) (t : Timer) (ts : List Timer) → Pending e.objects (t ∷ ts) → Pending (expire_one policy now e t).objects ts
unfolding expire_one
pending-on policy now e t ts q = pending-put e.objects (timer (expired now t)) ts (λ u m y. q.2 u m (y ∙ (expired-less now t q.1).address)) q.3

pub all-expired : (lim : Limits) (d : Dispatcher) (policy : Policy) (now : ℕ) (ts : List Timer) (e : Expired) → Expiring lim d e → Pending e.objects ts → refusal_of_each policy now e ts ≡ 0 → Expiring lim d (expire_each policy now e ts)
all-expired lim d policy now [] e v p r = v
all-expired lim d policy now (t ∷ ts) e v p r =
    let z = first-zero (expiry_refusal policy now e.dpcs t) (refusal_of_each policy now (expire_one policy now e t) ts) r in
    all-expired lim d policy now ts (expire_one policy now e t) (one-expired lim d e v policy now t p.0 p.1 z.0) (pending-on policy now e t ts p) z.1

-- ---- the due timers are such

due-inserted : (now : ℕ) (t : Timer) → is_due now t ≡ true → t.inserted ≡ true
due-inserted now t e = go t.inserted refl e
  where
    go : (b : Bool) → t.inserted ≡ b → cond b (leb t.due now) false ≡ true → t.inserted ≡ true
    go true q z = q
    go false q z = absurd (not-both (sym z))

-- by address
apart_above : (a : ℕ) (l : List Object) → Above key_of a l → (t : Timer) → Mem t (timers_of l) → t.address ≡ a → ⊥
apart_above a l h t m e = omega (arith, above a l h (timer t) (mem-timer l t m), e)
  where
    above : (a : ℕ) (l : List Object) → Above key_of a l → (x : Object) → Mem x l → a < key_of x
    above a [] h x m = absurd m
    above a (y ∷ ys) h x (inl q) = subst (λ (z : Object). a < key_of z) (sym q) h.0
    above a (y ∷ ys) h x (inr m) = above a ys h.1 x m

abbrev Distincts : List Timer → Type 0
Distincts [] = Unit
Distincts (t ∷ ts) = ((u : Timer) → Mem u ts → u.address ≡ t.address → ⊥) × Distincts ts

timers-distinct : (l : List Object) → Rising key_of l → Distincts (timers_of l)
timers-distinct [] r = tt
timers-distinct (x ∷ l) r = on-timer Distincts x (λ n. timers-distinct l r.1)
    (λ t q. (apart_above t.address l (subst (λ (y : Object). Above key_of (key_of y) l) q r.0), timers-distinct l r.1))

keep-distinct : (g : Timer → Bool) (ts : List Timer) → Distincts ts → Distincts (keep g ts)
keep-distinct g [] h = tt
keep-distinct g (t ∷ ts) h = go (g t) (keep-distinct g ts h.1)
  where
    go : (b : Bool) → Distincts (keep g ts) → Distincts (cond b (t ∷ keep g ts) (keep g ts))
    go true k = (λ u m e. h.0 u (mem-keep g u ts m).0 e, k)
    go false k = k

-- by due
pub mem-insert : (t : Timer) (us : List Timer) (u : Timer) → Mem u (insert_by_due t us) → (u ≡ t) ⊎ Mem u us
mem-insert t [] u m = m
mem-insert t (x ∷ xs) u m = go (leb t.due x.due) m (mem-insert t xs u)
  where
    go : (b : Bool) → Mem u (cond b (t ∷ x ∷ xs) (x ∷ insert_by_due t xs)) → (Mem u (insert_by_due t xs) → (u ≡ t) ⊎ Mem u xs) → (u ≡ t) ⊎ Mem u (x ∷ xs)
    go true a ih = a
    go false (inl q) ih = inr (inl q)
    go false (inr a) ih = ⊎_elim (λ (q : u ≡ t). inl q) (λ (q : Mem u xs). inr (inr q)) (ih a)

insert-distinct : (t : Timer) (us : List Timer) → ((u : Timer) → Mem u us → u.address ≡ t.address → ⊥) → Distincts us → Distincts (insert_by_due t us)
insert-distinct t [] n h = (λ u m e. m, tt)
insert-distinct t (x ∷ xs) n h = go (leb t.due x.due) (insert-distinct t xs (λ u m. n u (inr m)) h.1)
  where
    go : (b : Bool) → Distincts (insert_by_due t xs) → Distincts (cond b (t ∷ x ∷ xs) (x ∷ insert_by_due t xs))
    go true k = (n, h)
    go false k = (λ u m e. ⊎_elim (λ (q : u ≡ t). n x (inl refl) (sym e ∙ ap (λ (y : Timer). y.address) q)) (λ (q : Mem u xs). h.0 u q e) (mem-insert t xs u m), k)

pub mem-sorted : (ts : List Timer) (u : Timer) → Mem u (by_due ts) → Mem u ts
mem-sorted [] u m = m
mem-sorted (t ∷ ts) u m = ⊎_elim (λ (q : u ≡ t). inl q) (λ (q : Mem u (by_due ts)). inr (mem-sorted ts u q)) (mem-insert t (by_due ts) u m)

sorted-distinct : (ts : List Timer) → Distincts ts → Distincts (by_due ts)
sorted-distinct [] h = tt
sorted-distinct (t ∷ ts) h = insert-distinct t (by_due ts) (λ u m e. h.0 u (mem-sorted ts u m) e) (sorted-distinct ts h.1)

ordered : (policy : Policy) (ts : List Timer) → Distincts ts → (Distincts (in_order policy ts)) × ((u : Timer) → Mem u (in_order policy ts) → Mem u ts)
ordered unselected ts h = (h, λ u m. m)
ordered (cpu0_dispatch first second) ts h = (sorted-distinct ts h, mem-sorted ts)

pub due-pending : (policy : Policy) (now : ℕ) (l : List Object) → Rising key_of l → Pending l (due_timers policy now l)
due-pending policy now l r =
    let o = ordered policy (keep (is_due now) (timers_of l)) (keep-distinct (is_due now) (timers_of l) (timers-distinct l r)) in
    pending (due_timers policy now l) o.0 (λ u m. let k = mem-keep (is_due now) u (timers_of l) (o.1 u m) in (mem-found key_of l r (timer u) (mem-timer l u k.0), due-inserted now u k.1))
  where
    pending : (ts : List Timer) → Distincts ts → ((u : Timer) → Mem u ts → (object_at l u.address ≡ some (timer u)) × (u.inserted ≡ true)) → Pending l ts
    pending [] h k = tt
    pending (t ∷ ts) h k = ((k t (inl refl)).0, (k t (inl refl)).1, h.0, pending ts h.1 (λ u m. k u (inr m)))
