-- The work of a DPC has the arguments and the origin that it was given at its acceptance, after any list of calls.
use Prim.Native.Nat.{ℕ, ◌≤◌, ◌<◌}
use mathlib.Core.List.{List, [], ◌∷◌, ◌++◌, append-nil, append_assoc}
use mathlib.Core.Bool.{Bool, true, false, cond}
use mathlib.Core.Path.{◌≡◌, refl, sym, ap, ◌∙◌, subst}
use mathlib.Core.Logic.{◌⊎◌, inl, inr, ⊎_elim}
use mathlib.Core.Option.{Option, some}
use native.Mathlib.Omega.{arith}
use native.Mathlib.Decide.{ℕ_discrete}
use borrow.Author.Tests.{eqb-true, eq-eqb, leb-true}
use lib.Dec.{eqb, leb, ltb}
use Rattle.images.specs.declared.Timer.{Timer}
use Rattle.images.specs.declared.Dpc.{Dpc}
use Rattle.images.specs.declared.DpcWork.{DpcWork}
use Rattle.images.specs.declared.DpcOrigin.{DpcOrigin}
use Rattle.images.specs.declared.DpcOrigin.TheVariants as origin
use Rattle.images.specs.declared.DpcPhase.{DpcPhase}
use Rattle.images.specs.declared.DpcPhase.TheVariants.{Idle, Queued, Running, Returning}
use Rattle.model.specs.Lists.{Mem, present, given}
use Rattle.model.specs.State.{State, timer}
use Rattle.model.specs.Waits.{key_of, object_at, as_timer}
use Rattle.model.specs.Dpcs.{is_from, address_of, dpc_at, phase_at, in_phase, put_dpc, rephased, is_queued, work_of, new_work, accepted, duplicated}
use Rattle.model.specs.Timers.{is_periodic, is_named, origin_of, due_timers, refusal_of_each}
use Rattle.model.specs.Refusal.{is_unselected, insert_in_phase, insert_refusal, unexpired, advance_refusal}
use Rattle.model.specs.Answer.{Answer, Outcome, gives, Refused, Done, Flag, TimerIs, DpcIs, WorkIs, PolicyIs}
use Rattle.model.specs.Call.{Call, Open, InsertQueueDpc, AdvanceTo, StartDpc}
use Rattle.model.specs.Call as call
use Rattle.model.specs.Step.{refusal, effect, step, after, opened, with_dpcs, dpc_inserted, dpc_started, advanced}
use Rattle.model.specs.Start.{Start, by_open, Accepted, begun}
use Rattle.model.specs.Valid.{Valid}
use Rattle.model.proofs.ListLaws.{not-both}
use Rattle.model.proofs.TableLaws.{some_same, none-some, found, mem-found, find-put-own}
use Rattle.model.proofs.DpcLaws.{present-some, phase-found, phase-own, phase-other}
use Rattle.model.proofs.ObjectLaws.{timer-found}
use Rattle.model.proofs.ExpiryLaws.{due-pending}
use Rattle.model.proofs.OrderLaws.{listed-due}
use Rattle.model.proofs.RowLaws.{passes, holds}
use Rattle.model.proofs.KeepTimers as timers
use Rattle.model.proofs.WdkLaws.{step_is}
use Rattle.model.proofs.StepLaws.{valid-after, refused-unchanged}
use Rattle.model.proofs.StartLaws.{valid-begun}
use Rattle.model.specs.Acceptance.{HasWork, FromInsert, Reached, OfTimer, OwnWork, Numbered, Accepts, QueuedLast, NoRestart, Given}
use Rattle.model.proofs.Firing.{Fired, Fires, all-fire}
use Rattle.model.proofs.Leaving.{Kind, opens, inserts, advances, leaves, kind}
use Rattle.model.proofs.Told.{asked, told-timer, timer-told, policy-answers, counters-answers, dpc-told, told-dpc}

-- ---- one call

-- an answer that is no refusal
pub passed : (s : State) (c : Call) (x : Answer) → ((n : ℕ) → Refused n ≡ x → ⊥) → asked s c ≡ x → refusal c s ≡ 0
passed s c x h e = elim (ℕ_discrete (refusal c s) 0) [
  | yes z ↦ z
  | no n ↦ absurd (h (refusal c s) (sym (ap (λ (o : Outcome). o.answer) (refused-unchanged c s n)) ∙ e))
]

pub not_done : (n : ℕ) → Refused n ≡ Done → ⊥
not_done n e = let z : ◌≡◌ {A = ℕ} 0 1 = cc in omega arith

-- the number of the work
numbered : (s s' : State) (k : DpcWork) → s.dpcs.counters.accepted < k.sequence → k.sequence ≤ s'.dpcs.counters.accepted → Numbered (asked s) (asked s') k
numbered s s' k h g = record { old = s.dpcs.counters; read_old = counters-answers s; above = h; new = s'.dpcs.counters; read_new = counters-answers s'; within = g }

-- the work of an expiry is the timer's
pub of_timer : (now : ℕ) (t : Timer) (k : DpcWork) → k.origin ≡ origin_of now t → OfTimer now t k
of_timer now t k e = record {
  periodic = is_periodic t;
  origin = e;
  with_period = λ y z. not-both (sym y ∙ ap (λ (b : Bool). cond b false true) (eq-eqb t.period_ms 0 z));
  without_period = λ y. go (eqb t.period_ms 0) refl y;
}
  where
    go : (b : Bool) → eqb t.period_ms 0 ≡ b → cond b false true ≡ false → t.period_ms ≡ 0
    go true q z = eqb-true t.period_ms 0 q
    go false q z = absurd (not-both z)

-- work that is from the timer is its own, and only that
pub own-from : (t : Timer) (k : DpcWork) → OwnWork t k → is_from t k.origin ≡ true
own-from t k w = ap (is_from t) w.origin
    ∙ ap (λ (b : Bool). cond b (cond (eqb t.arm_generation t.arm_generation) (eqb t.initialization t.initialization) false) false) (eq-eqb t.address t.address refl)
    ∙ ap (λ (b : Bool). cond b (eqb t.initialization t.initialization) false) (eq-eqb t.arm_generation t.arm_generation refl)
    ∙ eq-eqb t.initialization t.initialization refl

pub from-own : (t : Timer) (k : DpcWork) → is_from t k.origin ≡ true → OwnWork t k
from-own t k h = go k.origin refl h
  where
    same : (x y : ℕ) (b : Bool) → cond (eqb x y) b false ≡ true → (x ≡ y) × (b ≡ true)
    same x y b e = by (eqb x y) refl e
      where
        by : (c : Bool) → eqb x y ≡ c → cond c b false ≡ true → (x ≡ y) × (b ≡ true)
        by true q z = (eqb-true x y q, z)
        by false q z = absurd (not-both (sym z))

    go : (o : DpcOrigin) → k.origin ≡ o → is_from t o ≡ true → OwnWork t k
    go origin.Caller e z = absurd (not-both (sym z))
    go (origin.Timer address arm initialization deadline observed periodic) e z =
        let x = same address t.address (cond (eqb arm t.arm_generation) (eqb initialization t.initialization) false) z in
        let y = same arm t.arm_generation (eqb initialization t.initialization) x.1 in
        record {
          deadline = deadline;
          observed = observed;
          periodic = periodic;
          origin = e
              ∙ ap (λ (n : ℕ). origin.Timer n arm initialization deadline observed periodic) x.0
              ∙ ap (λ (n : ℕ). origin.Timer t.address n initialization deadline observed periodic) y.0
              ∙ ap (λ (n : ℕ). origin.Timer t.address t.arm_generation n deadline observed periodic) (eqb-true initialization t.initialization y.1);
        }

module _ (s : State) (v : Valid s) where
  -- queued work of an inserted timer's DPC is the timer's own
  pub own-queued : (a : ℕ) (t : Timer) (x : Dpc) (k : DpcWork) → asked s (call.Reads (call.TimerAt a)) ≡ TimerIs t → t.inserted ≡ true → (t.dpc ≡ 0 → ⊥)
      → asked s (call.Reads (call.DpcAt t.dpc)) ≡ DpcIs x → x.phase ≡ Queued k → OwnWork t k
  own-queued a t x k e i n f q =
      from-own t k ((v.linked.served a (timer t) (timer-found (object_at s.dispatcher.objects a) t (timer-told s a t e)) i n).1 k
      (phase-found s.dpcs.table t.dpc x (dpc-told s t.dpc x f) ∙ q))

  -- a due timer reads as inserted and due
  pub reached : (time : ℕ) (t : Timer) → Mem t (due_timers s.policy time s.dispatcher.objects) → Reached (asked s) time t.dpc t
  reached time t m =
      let k = listed-due s.policy time s.dispatcher.objects t m in
      let f = mem-found key_of s.dispatcher.objects v.sound.rising (timer t) k.0 in
      let d = due t.inserted refl k.1 in
      record { read = told-timer s t.address t (ap as_timer f); inserted = d.0; due = d.1; dpc = refl }
    where
      due : (b : Bool) → t.inserted ≡ b → cond b (leb t.due time) false ≡ true → (t.inserted ≡ true) × (t.due ≤ time)
      due true e z = (e, leb-true t.due time z)
      due false e z = absurd (not-both (sym z))

  -- what an advance makes of the DPCs
  pub advance-fires : (time : ℕ) → refusal (AdvanceTo time) s ≡ 0
      → Fires s.policy time s.dpcs (due_timers s.policy time s.dispatcher.objects) (step (AdvanceTo time) s).state.dpcs
  unfolding refusal advance_refusal effect advanced
  advance-fires time e =
      let ts = due_timers s.policy time s.dispatcher.objects in
      subst (λ (o : Outcome). Fires s.policy time s.dpcs ts o.state.dpcs) (sym (step_is (AdvanceTo time) s e))
      (all-fire s.limits s.dispatcher s.policy time ts (unexpired s) (timers.begun s v) (due-pending s.policy time s.dispatcher.objects v.sound.rising)
      (passes (ltb time s.now) 11 (refusal_of_each s.policy time (unexpired s) ts) e).1)

  -- work in the phase at an address
  abbrev Has : State → ℕ → DpcWork → Type 0
  Has x a k = work_of (phase_at x.dpcs.table a) ≡ some k

  opens-works : (m p t o d : ℕ) → (a : ℕ) (k : DpcWork) → Has (effect (Open m p t o d) s).state a k → ⊥
  unfolding effect opened
  opens-works m p t o d a k e = none-some k e

  -- an insert at queued work, or not
  abbrev inserted : Bool → ℕ → ℕ → ℕ → Outcome
  inserted b x first second = cond b (gives (Flag false) (with_dpcs s (duplicated s.dpcs))) (gives (Flag true) (with_dpcs s (accepted s.dpcs x first second origin.Caller)))

  insert-works : (x first second : ℕ) → refusal (InsertQueueDpc x first second) s ≡ 0 → (a : ℕ) (k : DpcWork) → Has (effect (InsertQueueDpc x first second) s).state a k
      → (Has s a k) ⊎ Accepts (asked s) (asked (effect (InsertQueueDpc x first second) s).state) (InsertQueueDpc x first second) a k
  unfolding refusal insert_refusal effect dpc_inserted accepted duplicated
  insert-works x first second r a k h =
      let r₁ = passes (is_named s.dispatcher.objects x) 17 _ r in
      let r₂ = passes (is_unselected s.policy) 19 _ r₁.1 in
      let r₃ = holds (present (dpc_at s.dpcs.table x)) 1 (insert_in_phase s (phase_at s.dpcs.table x)) r₂.1 in
      let d = present-some s.dpcs.table x r₃.0 in
      go (is_queued (phase_at s.dpcs.table x)) (ap (λ (o : Outcome). o.answer) (step_is (InsertQueueDpc x first second) s r)) d.0 d.1 h
    where
      go : (b : Bool) → asked s (InsertQueueDpc x first second) ≡ (inserted b x first second).answer → (d : Dpc) → dpc_at s.dpcs.table x ≡ some d → Has (inserted b x first second).state a k
          → (Has s a k) ⊎ Accepts (asked s) (asked (inserted b x first second).state) (InsertQueueDpc x first second) a k
      go true z d f h' = inl h'
      go false z d f h' = elim (ℕ_discrete a x) [
        | yes y ↦
            let same : new_work s.dpcs first second origin.Caller ≡ k = some_same (new_work s.dpcs first second origin.Caller) k
            (sym (ap work_of (phase-own s.dpcs.table v.queueing.rising x d f (Queued (new_work s.dpcs first second origin.Caller))))
            ∙ ap (λ (n : ℕ). work_of (phase_at (rephased s.dpcs.table x (Queued (new_work s.dpcs first second origin.Caller))) n)) (sym y) ∙ h') in
            inr (subst (λ (w : DpcWork). Accepts (asked s) (asked (with_dpcs s (accepted s.dpcs x first second origin.Caller))) (InsertQueueDpc x first second) a w) same (record {
              from = inl (record { inserts = ap (λ (n : ℕ). InsertQueueDpc n first second) (sym y); accepted = z; origin = refl });
              numbered = numbered s (with_dpcs s (accepted s.dpcs x first second origin.Caller)) (new_work s.dpcs first second origin.Caller) (omega arith) (omega arith);
            }))
        | no y ↦ inl (ap work_of (sym (phase-other s.dpcs.table v.queueing.rising x d f (Queued (new_work s.dpcs first second origin.Caller)) a y)) ∙ h')
      ]

  -- an insert that answers yes leaves its own work, with the last number
  pub insert-queues : (a first second : ℕ) → asked s (InsertQueueDpc a first second) ≡ Flag true
      → (k : DpcWork) × (FromInsert (asked s) (InsertQueueDpc a first second) a k) × QueuedLast (asked (step (InsertQueueDpc a first second) s).state) a k
  unfolding refusal insert_refusal effect dpc_inserted accepted
  insert-queues a first second answer =
      let r = passed s (InsertQueueDpc a first second) (Flag true) (λ n e. let z : ◌≡◌ {A = ℕ} 0 1 = cc in omega arith) answer in
      let r₁ = passes (is_named s.dispatcher.objects a) 17 _ r in
      let r₂ = passes (is_unselected s.policy) 19 _ r₁.1 in
      let r₃ = holds (present (dpc_at s.dpcs.table a)) 1 (insert_in_phase s (phase_at s.dpcs.table a)) r₂.1 in
      let d = present-some s.dpcs.table a r₃.0 in
      let k = new_work s.dpcs first second origin.Caller in (
        k,
        record { inserts = refl; accepted = answer; origin = refl },
        subst (λ (o : Outcome). QueuedLast (asked o.state) a k) (sym (step_is (InsertQueueDpc a first second) s r))
            (go (is_queued (phase_at s.dpcs.table a)) (sym (ap (λ (o : Outcome). o.answer) (step_is (InsertQueueDpc a first second) s r)) ∙ answer) d.0 d.1),
      )
    where
      go : (b : Bool) → (inserted b a first second).answer ≡ Flag true → (d : Dpc) → dpc_at s.dpcs.table a ≡ some d
          → QueuedLast (asked (inserted b a first second).state) a (new_work s.dpcs first second origin.Caller)
      go true z d f = absurd (not-both (let y : false ≡ true = cc in sym y))
      go false z d f =
          let k = new_work s.dpcs first second origin.Caller in
          let s' = with_dpcs s (accepted s.dpcs a first second origin.Caller) in
          record {
            dpc = in_phase d (Queued k);
            read = told-dpc s' a (in_phase d (Queued k)) (ap (λ (o : Option Dpc). dpc_at (given o s.dpcs.table (λ x. put_dpc (in_phase x (Queued k)) s.dpcs.table)) a) f
                ∙ ap (dpc_at (put_dpc (in_phase d (Queued k)) s.dpcs.table)) (sym (found address_of s.dpcs.table a d f).1) ∙ find-put-own address_of (in_phase d (Queued k)) s.dpcs.table);
            queued = refl;
            counters = s'.dpcs.counters;
            counted = counters-answers s';
            last = refl;
          }

  advance-works : (time : ℕ) → refusal (AdvanceTo time) s ≡ 0 → (a : ℕ) (k : DpcWork) → Has (step (AdvanceTo time) s).state a k
      → (Has s a k) ⊎ Accepts (asked s) (asked (step (AdvanceTo time) s).state) (AdvanceTo time) a k
  unfolding effect
  advance-works time e a k h = ⊎_elim (λ (z : Has s a k). inl z) (λ (z : Fired s.policy time s.dpcs (step (AdvanceTo time) s).state.dpcs (due_timers s.policy time s.dispatcher.objects) a k). inr (record {
    from = inr (record {
      time = time;
      advances = refl;
      accepted = ap (λ (o : Outcome). o.answer) (step_is (AdvanceTo time) s e);
      policy = policy-answers s ∙ ap PolicyIs z.under;
      timer = z.timer;
      reached = subst (λ (b : ℕ). Reached (asked s) time b z.timer) z.dpc (reached time z.timer z.listed);
      of_timer = of_timer time z.timer k z.origin;
    });
    numbered = numbered s (step (AdvanceTo time) s).state k z.above z.within;
  })) ((advance-fires time e).works a k h)

  -- work after a call was there before, or the call accepted it
  pub call-works : (c : Call) (a : ℕ) (k : DpcWork) → Has (step c s).state a k → (Has s a k) ⊎ Accepts (asked s) (asked (step c s).state) c a k
  call-works c a k h = elim (ℕ_discrete (refusal c s) 0) [
    | yes z ↦ by_kind z (kind s v.queueing.rising c)
    | no n ↦ inl (subst (λ (o : Outcome). Has o.state a k) (refused-unchanged c s n) h)
  ]
    where
      in-effect : refusal c s ≡ 0 → Has (effect c s).state a k
      in-effect z = subst (λ (o : Outcome). Has o.state a k) (step_is c s z) h

      by_kind : refusal c s ≡ 0 → Kind s c → (Has s a k) ⊎ Accepts (asked s) (asked (step c s).state) c a k
      by_kind z (opens m p t o d e) = absurd (opens-works m p t o d a k (subst (λ (x : Call). Has (effect x s).state a k) e (in-effect z)))
      by_kind z (inserts x first second e) =
          let r : refusal (InsertQueueDpc x first second) s ≡ 0 = ap (λ (y : Call). refusal y s) (sym e) ∙ z in
          subst (λ (y : Call). (Has s a k) ⊎ Accepts (asked s) (asked (step y s).state) y a k) (sym e)
          (subst (λ (o : Outcome). (Has s a k) ⊎ Accepts (asked s) (asked o.state) (InsertQueueDpc x first second) a k) (sym (step_is (InsertQueueDpc x first second) s r))
          (insert-works x first second r a k (subst (λ (y : Call). Has (effect y s).state a k) e (in-effect z))))
      by_kind z (advances time e) =
          subst (λ (y : Call). (Has s a k) ⊎ Accepts (asked s) (asked (step y s).state) y a k) (sym e)
          (advance-works time (ap (λ (y : Call). refusal y s) (sym e) ∙ z) a k (subst (λ (y : Call). Has (step y s).state a k) e h))
      by_kind z (leaves n l) = inl (l.works a k (in-effect z))

  -- an accepted `open` leaves no work
  open-empties : (c : Call) (m p t o d : ℕ) → c ≡ Open m p t o d → asked s c ≡ Done → (a : ℕ) (k : DpcWork) → Has (step c s).state a k → ⊥
  open-empties c m p t o d z y a k h =
      opens-works m p t o d a k (subst (λ (x : Call). Has (effect x s).state a k) z (subst (λ (x : Outcome). Has x.state a k) (step_is c s (passed s c Done not_done y)) h))

-- ---- any list of calls

-- one more call that does not start anew
no-restart-last : (asks : List Call → Call → Answer) (done cs : List Call) (c : Call) → NoRestart asks done cs → ((m p t o d : ℕ) → c ≡ Open m p t o d → asks (done ++ cs) c ≡ Done → ⊥)
    → NoRestart asks done (cs ++ (c ∷ []))
no-restart-last asks done [] c h n = (subst (λ (l : List Call). (m p t o d : ℕ) → c ≡ Open m p t o d → asks l c ≡ Done → ⊥) (append-nil done) n, tt)
no-restart-last asks done (x ∷ cs) c h n =
    (h.0, no-restart-last asks (done ++ (x ∷ [])) cs c h.1 (subst (λ (l : List Call). (m p t o d : ℕ) → c ≡ Open m p t o d → asks l c ≡ Done → ⊥) (sym (append_assoc done (x ∷ []) cs)) n))

pub after_last : (cs : List Call) (c : Call) (s : State) → after (cs ++ (c ∷ [])) s ≡ (step c (after cs s)).state
after_last [] c s = refl
after_last (x ∷ cs) c s = after_last cs c (step x s).state

-- what a call would be answered after a list of calls
abbrev pub asked_after : State → List Call → Call → Answer
asked_after s cs c = (step c (after cs s)).answer

module _ (s : State) (v : Valid s) (none : (a : ℕ) (k : DpcWork) → work_of (phase_at s.dpcs.table a) ≡ some k → ⊥) where
  -- all work after the calls was given by one of them
  abbrev AllGiven : List Call → Type 0
  AllGiven cs = (a : ℕ) (k : DpcWork) → work_of (phase_at (after cs s).dpcs.table a) ≡ some k → Given (asked_after s) cs a k

  one_more : (cs : List Call) (c : Call) → AllGiven cs → AllGiven (cs ++ (c ∷ []))
  one_more cs c h a k e = ⊎_elim old new (call-works (after cs s) (valid-after cs s v) c a k after-c)
    where
      after-c : work_of (phase_at (step c (after cs s)).state.dpcs.table a) ≡ some k
      after-c = subst (λ (x : State). work_of (phase_at x.dpcs.table a) ≡ some k) (after_last cs c s) e

      old : work_of (phase_at (after cs s).dpcs.table a) ≡ some k → Given (asked_after s) (cs ++ (c ∷ [])) a k
      old z = let g = h a k z in record {
        earlier = g.earlier;
        acceptance = g.acceptance;
        later = g.later ++ (c ∷ []);
        is = ap (λ (l : List Call). l ++ (c ∷ [])) g.is ∙ append_assoc g.earlier (g.acceptance ∷ g.later) (c ∷ []);
        accepts = g.accepts;
        since = no-restart-last (asked_after s) (g.earlier ++ (g.acceptance ∷ [])) g.later c g.since (λ m p t o d y q.
            open-empties (after cs s) (valid-after cs s v) c m p t o d y (subst (λ (l : List Call). asked_after s l c ≡ Done) (append_assoc g.earlier (g.acceptance ∷ []) g.later ∙ sym g.is) q) a k after-c);
      }

      new : Accepts (asked (after cs s)) (asked (step c (after cs s)).state) c a k → Given (asked_after s) (cs ++ (c ∷ [])) a k
      new z = record {
        earlier = cs;
        acceptance = c;
        later = [];
        is = refl;
        accepts = subst (λ (x : State). Accepts (asked (after cs s)) (asked x) c a k) (sym (after_last cs c s)) z;
        since = tt;
      }

  and-more : (cs more : List Call) → AllGiven cs → AllGiven (cs ++ more)
  and-more cs [] h = subst AllGiven (sym (append-nil cs)) h
  and-more cs (c ∷ more) h = subst AllGiven (append_assoc cs (c ∷ []) more) (and-more (cs ++ (c ∷ [])) more (one_more cs c h))

  all-given : (cs : List Call) → AllGiven cs
  all-given cs = and-more [] cs (λ a k e. absurd (none a k e))

-- no work at the start
begun-idle : (start : Start) (a : ℕ) (k : DpcWork) → work_of (phase_at (begun start).dpcs.table a) ≡ some k → ⊥
unfolding opened
begun-idle (by_open p t o d) a k e = none-some k e

work-is : (p : DpcPhase) (k : DpcWork) → HasWork p k → work_of p ≡ some k
work-is p k (inl e) = ap work_of e
work-is p k (inr (inl e)) = ap work_of e
work-is p k (inr (inr e)) = ap work_of e

module _ (words : ℕ) (start : Start) (accepted : Accepted words start) (calls : List Call) where
  abbrev s : State
  s = after calls (begun start)

  given-at : (a : ℕ) (k : DpcWork) → work_of (phase_at s.dpcs.table a) ≡ some k → Given (asked_after (begun start)) calls a k
  given-at = all-given (begun start) (valid-begun words start accepted) (begun-idle start) calls

  -- the work that `dpc` tells of, be it queued, running or returning
  pub dpc-given : (a : ℕ) (x : Dpc) (k : DpcWork) → asked_after (begun start) calls (call.Reads (call.DpcAt a)) ≡ DpcIs x → HasWork x.phase k → Given (asked_after (begun start)) calls a k
  dpc-given a x k e h = given-at a k (ap work_of (phase-found s.dpcs.table a x (dpc-told s a x e)) ∙ work-is x.phase k h)

  -- the work that `start_dpc` answers
  pub start-given : (a : ℕ) (k : DpcWork) → asked_after (begun start) calls (StartDpc a) ≡ WorkIs k → Given (asked_after (begun start)) calls a k
  unfolding step effect dpc_started
  start-given a k e = given-at a k (ap work_of (queued (eqb (refusal (StartDpc a) s) 0) e))
    where
      work : (p : DpcPhase) → (dpc_started s a p).answer ≡ WorkIs k → p ≡ Queued k
      work Idle z = let y : ◌≡◌ {A = ℕ} 0 1 = cc in absurd (omega arith)
      work (Queued w) z = let y : w ≡ k = cc in ap Queued y
      work (Running w) z = let y : ◌≡◌ {A = ℕ} 0 1 = cc in absurd (omega arith)
      work (Returning w) z = let y : ◌≡◌ {A = ℕ} 0 1 = cc in absurd (omega arith)

      queued : (b : Bool) → (cond b (effect (StartDpc a) s) (gives (Refused (refusal (StartDpc a) s)) s)).answer ≡ WorkIs k → phase_at s.dpcs.table a ≡ Queued k
      queued true z = work (phase_at s.dpcs.table a) z
      queued false z = let y : ◌≡◌ {A = ℕ} 0 1 = cc in absurd (omega arith)
