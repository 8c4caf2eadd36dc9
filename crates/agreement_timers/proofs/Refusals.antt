-- A timer that is set: the words refuse it by the number that the log refuses it by.
use Prim.Native.Nat.{ℕ, ◌+◌, ◌≤◌}
use mathlib.Core.List.{List}
use mathlib.Core.Bool.{Bool, true, false, cond, not}
use mathlib.Core.Option.{Option, none, some}
use mathlib.Core.Path.{◌≡◌, refl, sym, ap, ◌∙◌}
use native.Mathlib.Omega.{arith}
use lib.ListN.{get_or}
use lib.Dec.{eqb, leb}
use lib.IntN.{ℤ, pos, negsuc}
use borrow.Author.Tests.{eq-eqb, ne_eqb, eqb-false, leb-true, le-leb}
use Rattle.words.specs.Layout as at
use Rattle.images.specs.declared.Timer.{Timer}
use Rattle.images.specs.declared.Dpc.{Dpc}
use Rattle.objects.specs.Objects.{place_of, dpc_found}
use Rattle.timers.specs.Record.{busy}
use Rattle.arming.specs.Signed.{negative}
use Rattle.arming.specs.Arm as words
use Rattle.model.specs.Lists.{present, given}
use Rattle.model.specs.State.{State, timer}
use Rattle.model.specs.Waits.{timer_at}
use Rattle.model.specs.Dpcs.{dpc_at, phase_at, is_busy}
use Rattle.model.specs.Timers.{most, is_named_by_other}
use Rattle.model.specs.Refusal.{is_negative, former_busy, arm_refusal, set_refusal}
use Rattle.model.specs.Valid.{Valid}
use Rattle.model.proofs.ListLaws.{not-both}
use Rattle.agreement.specs.Records.{holder_of, active_address}
use Rattle.agreement.specs.Agree.{Agree}
use Rattle.agreement_work.proofs.Named.{named-by-other}
use Rattle.agreement_timers.proofs.Found.{timer-object, dpc-missing, dpc-known, holder-is, busy-is, timer-missing, timer-known, timer_word}

-- an arm count that has not passed the end is at it or before it
at-end : (n : ℕ) → n ≤ most → eqb n words.largest ≡ leb most n
at-end n h = go (leb most n) refl
  where
    go : (b : Bool) → leb most n ≡ b → eqb n words.largest ≡ b
    go true q = eq-eqb n words.largest (omega (arith, h, leb-true most n q))
    go false q = ne_eqb n words.largest (λ e. absurd (not-both (sym (le-leb most n (omega (arith, e))) ∙ q)))

same_sign : (v : ℤ) → negative v ≡ is_negative v
same_sign (pos n) = refl
same_sign (negsuc n) = refl

module _ (w : List ℕ) (s : State) (a : Agree w s) (v : Valid s) (address : ℕ) where
  abbrev holder : ℕ → ℕ
  holder = holder_of s.dispatcher.objects

  abbrev active : ℕ
  active = active_address s.dpcs.table

  -- ---- 19 the timer's former DPC busy; 2 timer; 24

  abbrev place : ℕ
  place = place_of w 2 address

  abbrev armed : ℕ
  armed = cond (words.former_busy w place) 19 (cond (eqb place 0) 2 (cond (eqb (get_or w (place + at.arm) 0) words.largest) 24 0))

  arm-refusal : armed ≡ arm_refusal s address
  unfolding words.former_busy arm_refusal
  arm-refusal = go (timer_at s.dispatcher.objects address) refl
    where
      go : (o : Option Timer) → timer_at s.dispatcher.objects address ≡ o
          → ◌≡◌ {A = ℕ}
          (cond (cond (eqb place 0) false (cond (eqb (get_or w (place + at.timer_dpc) 0) 0) false (busy w (get_or w (place + at.timer_dpc) 0)))) 19
          (cond (eqb place 0) 2 (cond (eqb (get_or w (place + at.arm) 0) words.largest) 24 0)))
          (given o 2 (λ (t : Timer). cond (former_busy s t) 19 (cond (leb most t.arm_generation) 24 0)))
      go none e =
          ap (λ (b : Bool). cond (cond b false (cond (eqb (get_or w (place + at.timer_dpc) 0) 0) false (busy w (get_or w (place + at.timer_dpc) 0)))) 19
          (cond b 2 (cond (eqb (get_or w (place + at.arm) 0) words.largest) 24 0)))
          (eq-eqb place 0 (timer-missing w s holder active a address e))
      go (some t) e =
          let f = timer-object s.dispatcher.objects address t e in
          ap (λ (b : Bool). cond (cond b false (cond (eqb (get_or w (place + at.timer_dpc) 0) 0) false (busy w (get_or w (place + at.timer_dpc) 0)))) 19
          (cond b 2 (cond (eqb (get_or w (place + at.arm) 0) words.largest) 24 0)))
          (timer-known w s holder active a address t f)
          ∙ ap (λ (d : ℕ). cond (cond (eqb d 0) false (busy w d)) 19 (cond (eqb (get_or w (place + at.arm) 0) words.largest) 24 0))
          (timer_word w s holder active a address t f 8 t.dpc refl)
          ∙ ap (λ (b : Bool). cond (cond (eqb t.dpc 0) false b) 19 (cond (eqb (get_or w (place + at.arm) 0) words.largest) 24 0)) (busy-is w s holder active a t.dpc)
          ∙ ap (λ (n : ℕ). cond (former_busy s t) 19 (cond (eqb n words.largest) 24 0)) (timer_word w s holder active a address t f 10 t.arm_generation refl)
          ∙ ap (λ (b : Bool). cond (former_busy s t) 19 (cond b 24 0)) (at-end t.arm_generation (a.shape.bounded address (timer t) f).0)

  -- ---- unless the DPC is 0: 2 for it, 18 another inserted timer has it, 19 it is busy

  elsewhere : (k : ℕ) (d : Dpc) → (k ≡ 0 → ⊥) → dpc_at s.dpcs.table k ≡ some d
      → words.named_elsewhere w (dpc_found w k) address ≡ is_named_by_other s.dispatcher.objects address k
  unfolding words.named_elsewhere
  elsewhere k d n e =
      ap (λ (h : ℕ). cond (eqb h 0) false (not (eqb h address))) (holder-is w s holder active a k d e)
      ∙ sym (named-by-other s.dispatcher.objects a.shape.rising v.linked.alone k n v.sound.places address)

  -- what is left where the DPC does not refuse it
  abbrev unless_new : ℕ → ℕ → ℕ
  unless_new dpc r =
      cond (eqb dpc 0) r
      (cond (present (dpc_at s.dpcs.table dpc))
      (cond (is_named_by_other s.dispatcher.objects address dpc) 18
      (cond (is_busy (phase_at s.dpcs.table dpc)) 19 r))
      2)

  new-refusal : (dpc : ℕ) → words.new_refusal w address dpc ≡ unless_new dpc 0
  unfolding words.new_refusal
  new-refusal dpc = go (eqb dpc 0) refl (dpc_at s.dpcs.table dpc) refl
    where
      go : (z : Bool) → eqb dpc 0 ≡ z → (o : Option Dpc) → dpc_at s.dpcs.table dpc ≡ o
          → ◌≡◌ {A = ℕ}
          (cond z 0 (cond (eqb (dpc_found w dpc) 0) 2 (cond (words.named_elsewhere w (dpc_found w dpc) address) 18 (cond (busy w dpc) 19 0))))
          (cond z 0 (cond (present o) (cond (is_named_by_other s.dispatcher.objects address dpc) 18 (cond (is_busy (phase_at s.dpcs.table dpc)) 19 0)) 2))
      go true q o e = refl
      go false q none e =
          ap (λ (b : Bool). cond b 2 (cond (words.named_elsewhere w (dpc_found w dpc) address) 18 (cond (busy w dpc) 19 0))) (eq-eqb (dpc_found w dpc) 0 (dpc-missing w s holder active a dpc e))
      go false q (some d) e =
          ap (λ (b : Bool). cond b 2 (cond (words.named_elsewhere w (dpc_found w dpc) address) 18 (cond (busy w dpc) 19 0)))
          (dpc-known w s holder active a dpc ∙ ap (λ (x : Option Dpc). not (present x)) e)
          ∙ ap (λ (b : Bool). cond b 18 (cond (busy w dpc) 19 0)) (elsewhere dpc d (eqb-false dpc 0 q) e)
          ∙ ap (λ (b : Bool). cond (is_named_by_other s.dispatcher.objects address dpc) 18 (cond b 19 0)) (busy-is w s holder active a dpc)

  -- the refusal of the DPC, else the other
  first-of : (dpc r : ℕ) → cond (eqb (unless_new dpc 0) 0) r (unless_new dpc 0) ≡ unless_new dpc r
  first-of dpc r = go (eqb dpc 0) (present (dpc_at s.dpcs.table dpc)) (is_named_by_other s.dispatcher.objects address dpc) (is_busy (phase_at s.dpcs.table dpc))
    where
      go : (z p o b : Bool)
          → cond (eqb (cond z 0 (cond p (cond o 18 (cond b 19 0)) 2)) 0) r (cond z 0 (cond p (cond o 18 (cond b 19 0)) 2)) ≡ cond z r (cond p (cond o 18 (cond b 19 r)) 2)
      go true p o b = refl
      go false false o b = refl
      go false true true b = refl
      go false true false true = refl
      go false true false false = refl

  pub set-refusal : (period : ℤ) (dpc : ℕ) → words.set_refusal w address period dpc ≡ set_refusal s address period dpc
  unfolding words.set_refusal set_refusal
  set-refusal period dpc =
      ap (λ (b : Bool). cond b 17 (cond (eqb (words.new_refusal w address dpc) 0) armed (words.new_refusal w address dpc))) (same_sign period)
      ∙ ap (λ (n : ℕ). cond (is_negative period) 17 (cond (eqb n 0) armed n)) (new-refusal dpc)
      ∙ ap (λ (n : ℕ). cond (is_negative period) 17 (cond (eqb (unless_new dpc 0) 0) n (unless_new dpc 0))) arm-refusal
      ∙ ap (λ (n : ℕ). cond (is_negative period) 17 n) (first-of dpc (arm_refusal s address))
