-- Whether a timer's own work is queued: the words of the timer and of its DPC tell what the log says.
use Prim.Native.Nat.{ℕ, ◌+◌}
use mathlib.Core.List.{List, ◌∷◌, ◌++◌}
use mathlib.Core.Bool.{Bool, false, cond, not}
use mathlib.Core.Option.{Option, none, some}
use mathlib.Core.Path.{◌≡◌, refl, sym, ap, ◌∙◌, subst}
use lib.ListN.{get_or}
use lib.Dec.{eqb}
use borrow.Author.Tests.{eq-eqb}
use Rattle.words.specs.Layout as at
use Rattle.images.specs.declared.Timer.{Timer}
use Rattle.images.specs.declared.Dpc.{Dpc}
use Rattle.images.specs.declared.DpcOrigin.{DpcOrigin}
use Rattle.images.specs.declared.DpcOrigin.TheVariants as origin
use Rattle.images.specs.declared.DpcPhase.{DpcPhase}
use Rattle.images.specs.declared.DpcPhase.TheVariants.{Idle, Queued, Running, Returning}
use Rattle.objects.specs.Objects.{place_of, dpc_found}
use Rattle.arming.specs.Arm as words
use Rattle.model.specs.Lists.{present, given}
use Rattle.model.specs.State.{State, Policy, unselected, cpu0_dispatch, timer}
use Rattle.model.specs.Waits.{object_at}
use Rattle.model.specs.Dpcs.{dpc_at, phase_at, work_of, is_from}
use Rattle.model.specs.Refusal.{is_unselected}
use Rattle.model.specs.Step.{own_queued, cancels_work}
use Rattle.agreement.specs.Row.{Row}
use Rattle.agreement.specs.Records.{policy_number, phase_number, origin_row, work_row, timer_row, dpc_row}
use Rattle.agreement.specs.Agree.{Agreeing}
use Rattle.agreement.proofs.Dpcs.{before_work}
use Rattle.agreement.proofs.Lookups.{object-row, dpc-place, dpc-row}
use Rattle.agreement_timers.proofs.Found.{dpc-missing, dpc-known, timer-place, timer_word, inserted-is}

same-policy : (p : Policy) → eqb (policy_number p) 0 ≡ is_unselected p
same-policy unselected = refl
same-policy (cpu0_dispatch first second) = refl

module _ (w : List ℕ) (place : ℕ) (t : Timer) (row : Row w place (timer_row t)) (stands holder : ℕ) (d : Dpc) where
  own_origin_lem : (o : DpcOrigin) (sequence first second : ℕ) → Row w stands (before_work holder d 1 ++ (some sequence ∷ some first ∷ some second ∷ origin_row o))
      → cond (eqb (get_or w (stands + at.origin) 0) 1) (words.own_origin w place stands) false ≡ is_from t o
  unfolding words.own_origin words.same_word
  own_origin_lem origin.Caller sequence first second r =
      ap (λ (n : ℕ). cond (eqb n 1) (words.own_origin w place stands) false) (r 14 0 refl)
  own_origin_lem (origin.Timer address arm initialization deadline observed periodic) sequence first second r =
      ap (λ (n : ℕ). cond (eqb n 1) (words.own_origin w place stands) false) (r 14 1 refl)
      ∙ ap (λ (n : ℕ). cond (eqb n (get_or w (place + at.key) 0)) (cond (words.same_word w (stands + at.origin_arm) (place + at.arm)) (words.same_word w (stands + at.origin_initialization) (place + at.initialization)) false) false) (r 15 address refl)
      ∙ ap (λ (n : ℕ). cond (eqb address n) (cond (words.same_word w (stands + at.origin_arm) (place + at.arm)) (words.same_word w (stands + at.origin_initialization) (place + at.initialization)) false) false) (row 0 t.address refl)
      ∙ ap (λ (n : ℕ). cond (eqb address t.address) (cond (eqb n (get_or w (place + at.arm) 0)) (words.same_word w (stands + at.origin_initialization) (place + at.initialization)) false) false) (r 16 arm refl)
      ∙ ap (λ (n : ℕ). cond (eqb address t.address) (cond (eqb arm n) (words.same_word w (stands + at.origin_initialization) (place + at.initialization)) false) false) (row 10 t.arm_generation refl)
      ∙ ap (λ (n : ℕ). cond (eqb address t.address) (cond (eqb arm t.arm_generation) (eqb n (get_or w (place + at.initialization) 0)) false) false) (r 17 initialization refl)
      ∙ ap (λ (n : ℕ). cond (eqb address t.address) (cond (eqb arm t.arm_generation) (eqb initialization n) false) false) (row 11 t.initialization refl)

  own-work : (p : DpcPhase) → Row w stands (before_work holder d (phase_number p) ++ work_row (work_of p)) → words.own_work w place stands ≡ own_queued t p
  unfolding words.own_work
  own-work Idle r = ap (λ (n : ℕ). cond (eqb n 1) (cond (eqb (get_or w (stands + at.origin) 0) 1) (words.own_origin w place stands) false) false) (r 1 0 refl)
  own-work (Queued x) r =
      ap (λ (n : ℕ). cond (eqb n 1) (cond (eqb (get_or w (stands + at.origin) 0) 1) (words.own_origin w place stands) false) false) (r 1 1 refl)
      ∙ own_origin_lem x.origin x.sequence x.first x.second r
  own-work (Running x) r = ap (λ (n : ℕ). cond (eqb n 1) (cond (eqb (get_or w (stands + at.origin) 0) 1) (words.own_origin w place stands) false) false) (r 1 2 refl)
  own-work (Returning x) r = ap (λ (n : ℕ). cond (eqb n 1) (cond (eqb (get_or w (stands + at.origin) 0) 1) (words.own_origin w place stands) false) false) (r 1 3 refl)

module _ (w : List ℕ) (s : State) (holder : ℕ → ℕ) (active : ℕ) (a : Agreeing w s holder active) (k : ℕ) (t : Timer) (e : object_at s.dispatcher.objects k ≡ some (timer t)) where
  row : Row w (place_of w 2 k) (timer_row t)
  row = subst (λ (p : ℕ). Row w p (timer_row t)) (sym (timer-place w s holder active a k t e)) (object-row w s holder active a k (timer t) e)

  -- of the DPC that there is, or none
  at-dpc : cond (eqb (dpc_found w t.dpc) 0) false (words.own_work w (place_of w 2 k) (dpc_found w t.dpc)) ≡ own_queued t (phase_at s.dpcs.table t.dpc)
  at-dpc = go (dpc_at s.dpcs.table t.dpc) refl
    where
      go : (o : Option Dpc) → dpc_at s.dpcs.table t.dpc ≡ o
          → cond (eqb (dpc_found w t.dpc) 0) false (words.own_work w (place_of w 2 k) (dpc_found w t.dpc)) ≡ own_queued t (given o Idle (λ (d : Dpc). d.phase))
      go none q = ap (λ (b : Bool). cond b false (words.own_work w (place_of w 2 k) (dpc_found w t.dpc))) (eq-eqb (dpc_found w t.dpc) 0 (dpc-missing w s holder active a t.dpc q))
      go (some d) q =
          ap (λ (b : Bool). cond b false (words.own_work w (place_of w 2 k) (dpc_found w t.dpc))) (dpc-known w s holder active a t.dpc ∙ ap (λ (x : Option Dpc). not (present x)) q)
          ∙ own-work w (place_of w 2 k) t row (dpc_found w t.dpc) (holder d.address) d d.phase
          (subst (λ (p : ℕ). Row w p (dpc_row (holder d.address) d)) (sym (dpc-place w s holder active a t.dpc d q)) (dpc-row w s holder active a t.dpc d q))

  pub own-queued : words.own_queued w (place_of w 2 k) ≡ cancels_work s t
  unfolding words.own_queued cancels_work
  own-queued =
      let own : ℕ → Bool = λ d. cond (eqb d 0) false (cond (eqb (dpc_found w d) 0) false (words.own_work w (place_of w 2 k) (dpc_found w d))) in
      ap (λ (b : Bool). cond b (cond (eqb (get_or w at.policy 0) 0) false (own (get_or w (place_of w 2 k + at.timer_dpc) 0))) false) (inserted-is w s holder active a k t e)
      ∙ ap (λ (n : ℕ). cond t.inserted (cond (eqb n 0) false (own (get_or w (place_of w 2 k + at.timer_dpc) 0))) false) (a.numbers at.policy (policy_number s.policy) refl)
      ∙ ap (λ (b : Bool). cond t.inserted (cond b false (own (get_or w (place_of w 2 k + at.timer_dpc) 0))) false) (same-policy s.policy)
      ∙ ap (λ (n : ℕ). cond t.inserted (cond (is_unselected s.policy) false (own n)) false) (timer_word w s holder active a k t e 8 t.dpc refl)
      ∙ ap (λ (b : Bool). cond t.inserted (cond (is_unselected s.policy) false (cond (eqb t.dpc 0) false b)) false) at-dpc
