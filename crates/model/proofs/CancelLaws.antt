-- What a cancel leaves of the DPCs.
use Prim.Native.Nat.{ℕ}
use mathlib.Core.Bool.{Bool, true, false, cond}
use mathlib.Core.Option.{Option, none, some}
use mathlib.Core.Path.{◌≡◌, refl, sym, ap, ◌∙◌, subst}
use borrow.Author.Tests.{eqb-false, ne_eqb}
use lib.Dec.{eqb}
use Rattle.images.specs.declared.Timer.{Timer}
use Rattle.images.specs.declared.Dpc.{Dpc}
use Rattle.images.specs.declared.DpcWork.{DpcWork}
use Rattle.images.specs.declared.DpcPhase.{DpcPhase}
use Rattle.images.specs.declared.DpcPhase.TheVariants.{Idle, Queued, Running, Returning}
use Rattle.model.specs.Lists.{given}
use Rattle.model.specs.State.{State, timer, Policy, unselected, cpu0_dispatch}
use Rattle.model.specs.Waits.{timer_at, put_object}
use Rattle.model.specs.Dpcs.{address_of, dpc_at, phase_at, in_phase, put_dpc, withdrawn}
use Rattle.model.specs.Timers.{cancelled}
use Rattle.model.specs.Refusal.{is_unselected}
use Rattle.model.specs.Answer.{Outcome, gives, Done, Flag}
use Rattle.model.specs.Call as call
use Rattle.model.specs.Step.{refusal, effect, step, with_table, with_dpcs, own_queued, cancels_work, timer_cancelled}
use Rattle.model.proofs.ListLaws.{not-both}
use Rattle.model.proofs.TableLaws.{find-put-own, find-put-other}
use Rattle.model.proofs.DpcLaws.{phase-found}
use Rattle.model.proofs.WdkLaws.{step_is}
use Rattle.model.proofs.AcceptanceLaws.{own-from, from-own}
use Rattle.model.specs.Leaving as leaving
use Rattle.model.specs.Leaving.{OwnQueued, CancelsWork}

module _ (s : State) (x : Timer) where
  -- the log's test passes exactly where there is such work
  own-passes : (d : Dpc) (k : DpcWork) → OwnQueued s x d k → cancels_work s x ≡ true
  unfolding cancels_work
  own-passes d k w =
      ap (λ (b : Bool). cond b (cond (is_unselected s.policy) false (cond (eqb x.dpc 0) false (own_queued x (phase_at s.dpcs.table x.dpc)))) false) w.inserted
      ∙ selected s.policy w.policy
      ∙ ap (λ (b : Bool). cond b false (own_queued x (phase_at s.dpcs.table x.dpc))) (ne_eqb x.dpc 0 w.some_dpc)
      ∙ ap (own_queued x) (phase-found s.dpcs.table x.dpc d w.found ∙ w.queued) ∙ own-from x k w.own
    where
      selected : (p : Policy) → (p ≡ unselected → ⊥)
          → cond (is_unselected p) false (cond (eqb x.dpc 0) false (own_queued x (phase_at s.dpcs.table x.dpc))) ≡ cond (eqb x.dpc 0) false (own_queued x (phase_at s.dpcs.table x.dpc))
      selected unselected n = absurd (n refl)
      selected (cpu0_dispatch first second) n = refl

  passes-own : cancels_work s x ≡ true → (d : Dpc) × (k : DpcWork) × OwnQueued s x d k
  unfolding cancels_work
  passes-own e = by-inserted x.inserted refl e
    where
      by-dpc : x.inserted ≡ true → (s.policy ≡ unselected → ⊥) → (x.dpc ≡ 0 → ⊥) → (o : Option Dpc) → dpc_at s.dpcs.table x.dpc ≡ o
          → own_queued x (given o Idle (λ (d : Dpc). d.phase)) ≡ true → (d : Dpc) × (k : DpcWork) × OwnQueued s x d k
      by-dpc i p n none f z = absurd (not-both (sym z))
      by-dpc i p n (some d) f z = by-phase d.phase refl z
        where
          by-phase : (q : DpcPhase) → d.phase ≡ q → own_queued x q ≡ true → (d : Dpc) × (k : DpcWork) × OwnQueued s x d k
          by-phase Idle r y = absurd (not-both (sym y))
          by-phase (Queued k) r y = (d, k, record { inserted = i; policy = p; some_dpc = n; found = f; queued = r; own = from-own x k y })
          by-phase (Running k) r y = absurd (not-both (sym y))
          by-phase (Returning k) r y = absurd (not-both (sym y))

      by_number : x.inserted ≡ true → (s.policy ≡ unselected → ⊥) → (b : Bool) → eqb x.dpc 0 ≡ b → cond b false (own_queued x (phase_at s.dpcs.table x.dpc)) ≡ true
          → (d : Dpc) × (k : DpcWork) × OwnQueued s x d k
      by_number i p true q z = absurd (not-both (sym z))
      by_number i p false q z = by-dpc i p (eqb-false x.dpc 0 q) (dpc_at s.dpcs.table x.dpc) refl z

      by-policy : x.inserted ≡ true → (p : Policy) → s.policy ≡ p → cond (is_unselected p) false (cond (eqb x.dpc 0) false (own_queued x (phase_at s.dpcs.table x.dpc))) ≡ true
          → (d : Dpc) × (k : DpcWork) × OwnQueued s x d k
      by-policy i unselected q z = absurd (not-both (sym z))
      by-policy i (cpu0_dispatch first second) q z = by_number i (λ u. let y : cpu0_dispatch first second ≡ unselected = sym q ∙ u in not-both (ap is_unselected (sym y))) (eqb x.dpc 0) refl z

      by-inserted : (b : Bool) → x.inserted ≡ b → cond b (cond (is_unselected s.policy) false (cond (eqb x.dpc 0) false (own_queued x (phase_at s.dpcs.table x.dpc)))) false ≡ true
          → (d : Dpc) × (k : DpcWork) × OwnQueued s x d k
      by-inserted true i z = by-policy i s.policy refl z
      by-inserted false i z = absurd (not-both (sym z))

-- its own queued work is removed, and no other
pub cancels-work : (s : State) (address : ℕ) (x : Timer) → refusal (call.CancelTimer address) s ≡ 0 → timer_at s.dispatcher.objects address ≡ some x → CancelsWork s (step (call.CancelTimer address) s).state x
unfolding effect timer_cancelled withdrawn
cancels-work s address x e f =
    subst (λ (o : Outcome). CancelsWork s o.state x) (sym (step_is (call.CancelTimer address) s e
    ∙ ap (λ (a : Option Timer). given a (gives Done s) (λ (t : Timer). gives (Flag t.inserted)
    (with_table (with_dpcs s (cond (cancels_work s t) (withdrawn s.dpcs t.dpc) s.dpcs)) (put_object (timer (cancelled t)) s.dispatcher.objects)))) f))
    (go (cancels_work s x) refl)
  where
    removed : (d : Dpc) (k : DpcWork) → OwnQueued s x d k → leaving.Removed s (with_table (with_dpcs s (withdrawn s.dpcs x.dpc)) (put_object (timer (cancelled x)) s.dispatcher.objects)) d
    removed d k w =
        record {
          own = ap (λ (o : Option Dpc). dpc_at (given o s.dpcs.table (λ y. put_dpc (in_phase y Idle) s.dpcs.table)) d.address) w.found ∙ find-put-own address_of (in_phase d Idle) s.dpcs.table;
          others = λ b n. ap (λ (o : Option Dpc). dpc_at (given o s.dpcs.table (λ y. put_dpc (in_phase y Idle) s.dpcs.table)) b) w.found ∙ find-put-other address_of (in_phase d Idle) s.dpcs.table b n;
          counters = refl;
        }

    go : (b : Bool) → cancels_work s x ≡ b → CancelsWork s (with_table (with_dpcs s (cond b (withdrawn s.dpcs x.dpc) s.dpcs)) (put_object (timer (cancelled x)) s.dispatcher.objects)) x
    go true q = let r = passes-own s x q in leaving.removes r.0 r.1 r.2 (removed r.0 r.1 r.2)
    go false q = leaving.leaves (λ d k w. not-both (sym (own-passes s x d k w) ∙ q)) refl
