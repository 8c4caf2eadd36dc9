-- The expiry of the timers that are due: one after another, the words agree with the log's state in the midst of the advance.
use Prim.Native.Nat.{ℕ, ◌+◌, ◌*◌}
use mathlib.Core.List.{List, [], ◌∷◌}
use mathlib.Core.Bool.{Bool, true, false, cond}
use mathlib.Core.Option.{some}
use mathlib.Core.Logic.{inl, inr}
use mathlib.Core.Path.{◌≡◌, refl, sym, ap, ◌∙◌, subst}
use lib.ListN.{set}
use lib.Dec.{eqb}
use Rattle.words.specs.Layout as at
use Rattle.words.specs.Layout.{entry_at}
use Rattle.objects.specs.Objects.{objects_base}
use Rattle.expiry.specs.Expire.{work_queued, settled, expired_one, expired_list}
use Rattle.expiry_advance.specs.Advance as words
use Rattle.images.specs.declared.Timer.{Timer}
use Rattle.model.specs.Lists.{Mem, nth, present}
use Rattle.model.specs.Table.{Rising}
use Rattle.model.specs.State.{State, Object, timer, Policy}
use Rattle.model.specs.Waits.{key_of, object_at, put_object}
use Rattle.model.specs.Dpcs.{dpc_at}
use Rattle.model.specs.Timers.{retimed, next_due, is_periodic, due_timers, expired, expiry_refusal, dpcs_after, Expired, expire_one, expire_each, refusal_of_each}
use Rattle.model.specs.Refusal.{unexpired}
use Rattle.model.specs.Valid.{Valid}
use Rattle.model.specs.Step.{with_table, with_dpcs, expired_at}
use Rattle.model.proofs.TableLaws.{some_same, found}
use Rattle.model.proofs.ExpiryLaws.{Expiring, one-expired, Pending, pending-on, due-pending}
use Rattle.model.proofs.KeepTimers.{begun}
use Rattle.agreement_tables.specs.Tables.{below}
use Rattle.agreement_tables.proofs.Lists.{find-nth, find_at, put-known}
use Rattle.agreement_tables.proofs.Numbers.{below-nth}
use Rattle.agreement.specs.Records.{active_address, holder_of}
use Rattle.agreement.specs.Agree.{objects_from, Agreeing, Agree}
use Rattle.agreement.proofs.Lookups.{base-is}
use Rattle.agreement_advance.proofs.Order.{Names, entry-is, timer-row-at, order-names}
use Rattle.agreement_advance.proofs.Apart.{after-present}
use Rattle.agreement_advance.proofs.Passed.{first-zero, horizon-passed}
use Rattle.agreement_advance.proofs.Refusals.{expiry-refusal-is}
use Rattle.agreement_advance.proofs.Work.{active-after, sim-work-queued}
use Rattle.agreement_advance.proofs.Settle.{sim-settled}

-- the state in the midst of the expiry
abbrev pub in_midst : State → Expired → State
in_midst s e = with_table (with_dpcs s e.dpcs) e.objects

-- ---- the positions of the timers that are left

names-put : (l : List Object) → Rising key_of l → (x z : Object) → object_at l (key_of x) ≡ some z → (is : List ℕ) (ts : List Timer)
    → ((u : Timer) → Mem u ts → u.address ≡ key_of x → ⊥) → Names l is ts → Names (put_object x l) is ts
names-put l r x z e [] [] n h = tt
names-put l r x z e [] (u ∷ us) n h = absurd h
names-put l r x z e (j ∷ js) [] n h = absurd h
names-put l r x z e (j ∷ js) (u ∷ us) n h =
    ((put-known key_of x l r z e).others j (λ q. n u (inl refl) (other q)) ∙ h.0, names-put l r x z e js us (λ v m. n v (inr m)) h.1)
  where
    other : j ≡ below key_of (key_of x) l → u.address ≡ key_of x
    other q = ap key_of (some_same (timer u) z (sym h.0 ∙ ap (nth l) q ∙ find_at key_of l r (key_of x) z e)) ∙ (found key_of l (key_of x) z e).1

expired-address : (time : ℕ) (t : Timer) → (expired time t).address ≡ t.address
unfolding expired
expired-address time t = go (is_periodic t)
  where
    go : (b : Bool) → (cond b (retimed t true true (next_due t.due t.period_ms time)) (retimed t true false t.due)).address ≡ t.address
    go true = refl
    go false = refl

names-on : (policy : Policy) (time : ℕ) (e : Expired) → Rising key_of e.objects → (t : Timer) (is : List ℕ) (ts : List Timer) → Pending e.objects (t ∷ ts)
    → Names e.objects is ts → Names (expire_one policy time e t).objects is ts
unfolding expire_one
names-on policy time e r t is ts p n =
    names-put e.objects r (timer (expired time t)) (timer t) (ap (object_at e.objects) (expired-address time t) ∙ p.0) is ts (λ u m q. p.2 u m (q ∙ expired-address time t)) n

module _ (s : State) (time : ℕ) where
  -- ---- one timer

  module _ (w : List ℕ) (e : Expired) (a : Agree w (in_midst s e)) (v : Expiring s.limits s.dispatcher e)
      (i : ℕ) (t : Timer) (n : nth e.objects i ≡ some (timer t)) (ins : t.inserted ≡ true) (r : expiry_refusal s.policy time e.dpcs t ≡ 0) where
    abbrev m : State
    m = in_midst s e

    abbrev m₁ : State
    m₁ = with_dpcs m (dpcs_after s.policy time e.dpcs t)

    there : object_at e.objects t.address ≡ some (timer t)
    there = find-nth key_of e.objects v.rising i (timer t) n

    place_is : entry_at (objects_from s.limits) i ≡ objects_from s.limits + 32 * below key_of t.address e.objects
    place_is =
        entry-is w m (holder_of e.objects) (active_address e.dpcs.table) a i (timer t) n
        ∙ ap (λ (k : ℕ). objects_from s.limits + 32 * k) (sym (below-nth key_of e.objects v.rising i (timer t) n))

    known : (t.dpc ≡ 0 → ⊥) → present (dpc_at e.dpcs.table t.dpc) ≡ true
    known has = (v.linked.served t.address (timer t) there ins has).0

    worked : Agreeing (work_queued w (entry_at (objects_from s.limits) i) time) m₁ (holder_of e.objects) (active_address (dpcs_after s.policy time e.dpcs t).table)
    worked =
        subst (Agreeing (work_queued w (entry_at (objects_from s.limits) i) time) m₁ (holder_of e.objects)) (sym (active-after s.policy time e.dpcs t v.queueing.rising known))
        (sim-work-queued w m (holder_of e.objects) (active_address e.dpcs.table) a time (entry_at (objects_from s.limits) i) t
        (timer-row-at w m (holder_of e.objects) (active_address e.dpcs.table) a i t n) s.limits.dpcs v.queueing known r)

    pub sim-expired-one : Agree (expired_one w (entry_at (objects_from s.limits) i) time) (in_midst s (expire_one s.policy time e t))
    unfolding expired_one expire_one
    sim-expired-one =
        subst (λ (p : ℕ). Agree (settled (set (work_queued w (entry_at (objects_from s.limits) i) time) (p + at.signaled) 1) p time) (in_midst s (expire_one s.policy time e t))) (sym place_is)
        (sim-settled (work_queued w (entry_at (objects_from s.limits) i) time) m₁ (active_address (dpcs_after s.policy time e.dpcs t).table) worked t there ins
        (λ has. after-present s.policy time e.dpcs t v.queueing.rising known t.dpc ∙ known has) v.linked.alone time (horizon-passed time e.dpcs t s.policy r))

  -- ---- all of a list

  pub sim-expired-each : (is : List ℕ) (ts : List Timer) (w : List ℕ) (e : Expired) → Agree w (in_midst s e) → Expiring s.limits s.dispatcher e → Names e.objects is ts → Pending e.objects ts
      → refusal_of_each s.policy time e ts ≡ 0 → Agree (expired_list w (objects_from s.limits) is time) (in_midst s (expire_each s.policy time e ts))
  unfolding expired_list
  sim-expired-each [] [] w e a v n p r = a
  sim-expired-each [] (t ∷ ts) w e a v n p r = absurd n
  sim-expired-each (i ∷ is) [] w e a v n p r = absurd n
  sim-expired-each (i ∷ is) (t ∷ ts) w e a v n p r =
      let z = first-zero (expiry_refusal s.policy time e.dpcs t) (refusal_of_each s.policy time (expire_one s.policy time e t) ts) r in
      sim-expired-each is ts (expired_one w (entry_at (objects_from s.limits) i) time) (expire_one s.policy time e t) (sim-expired-one w e a v i t n.0 p.1 z.0)
      (one-expired s.limits s.dispatcher e v s.policy time t p.0 p.1 z.0) (names-on s.policy time e v.rising t is ts p n.1) (pending-on s.policy time e t ts p) z.1

-- ---- the expiry of an advance

pub sim-expired : (w : List ℕ) (s : State) → Agree w s → Valid s → (time : ℕ)
    → refusal_of_each s.policy time (unexpired s) (due_timers s.policy time s.dispatcher.objects) ≡ 0
    → Agree (words.expiry_words w time) (with_table (with_dpcs s (expired_at s time).dpcs) (expired_at s time).objects)
unfolding words.expiry_words words.ran words.expiry_refusal
sim-expired w s a v time r =
    subst (λ (n : ℕ). Agree (cond (eqb n 0) (expired_list w (objects_base w) (words.order w time) time) w) after) (sym (expiry-refusal-is w s a v time ∙ r))
    (subst (λ (b : ℕ). Agree (expired_list w b (words.order w time) time) after) (sym (base-is w s holder active a))
    (sim-expired-each s time (words.order w time) (due_timers s.policy time s.dispatcher.objects) w (unexpired s) a (begun s v) (order-names w s holder active a time)
    (due-pending s.policy time s.dispatcher.objects v.sound.rising) r))
  where
    holder : ℕ → ℕ
    holder = holder_of s.dispatcher.objects

    active : ℕ
    active = active_address s.dpcs.table

    after : State
    after = with_table (with_dpcs s (expired_at s time).dpcs) (expired_at s time).objects
