-- The words that keep which inserted timer has a DPC, written: for a DPC that there is, and for the DPC of a timer.
use Prim.Native.Nat.{ℕ, ◌+◌, ◌*◌}
use mathlib.Core.List.{List}
use mathlib.Core.Bool.{Bool, true, false, cond, not}
use mathlib.Core.Option.{Option, none, some}
use mathlib.Core.Path.{◌≡◌, refl, sym, ap, ◌∙◌, subst}
use lib.ListN.{get_or, set}
use lib.Dec.{eqb}
use borrow.Author.Tests.{eq-eqb, ne_eqb, eqb-true, eqb-false}
use Rattle.words.specs.Layout as at
use Rattle.images.specs.declared.Timer.{Timer}
use Rattle.images.specs.declared.Dpc.{Dpc}
use Rattle.objects.specs.Objects.{dpc_found}
use Rattle.timers.specs.Record.{is_inserted}
use Rattle.arming.specs.Arm as words
use Rattle.model.specs.Lists.{present}
use Rattle.model.specs.State.{State, timer}
use Rattle.model.specs.Waits.{key_of, object_at}
use Rattle.model.specs.Dpcs.{address_of, dpc_at}
use Rattle.model.proofs.TableLaws.{none-some, mem-found}
use Rattle.agreement_tables.specs.Tables.{below}
use Rattle.agreement.specs.Row.{Row}
use Rattle.agreement.specs.Records.{flag, timer_row, holds}
use Rattle.agreement.specs.Agree.{objects_from, Agreeing}
use Rattle.agreement.proofs.Records.{flag-read}
use Rattle.agreement.proofs.Lookups.{object-row}
use Rattle.agreement.proofs.Dpcs.{sim-holder}
use Rattle.agreement_work.proofs.Same.{agreeing-at, agreeing-same}
use Rattle.agreement_timers.proofs.Found.{dpc-missing, dpc-known}

swapped : (x y : ℕ) → eqb x y ≡ eqb y x
swapped x y = go (eqb y x) refl
  where
    go : (c : Bool) → eqb y x ≡ c → eqb x y ≡ c
    go true e = eq-eqb x y (sym (eqb-true y x e))
    go false e = ne_eqb x y (λ z. eqb-false y x e (sym z))

module _ (w : List ℕ) (s : State) (holder : ℕ → ℕ) (active : ℕ) (a : Agreeing w s holder active) where
  -- a DPC had by `n`; an address without a DPC changes nothing
  pub sim-named : (k n : ℕ) (holder' : ℕ → ℕ) → ((b : ℕ) → (b ≡ 0 → ⊥) → holder' b ≡ cond (eqb b k) n (holder b)) → Agreeing (words.named w k n) s holder' active
  unfolding words.named
  sim-named k n holder' h = go (eqb k 0) refl (dpc_at s.dpcs.table k) refl
    where
      elsewhere : (b : ℕ) → (b ≡ 0 → ⊥) → (b ≡ k → ⊥) → holder' b ≡ holder b
      elsewhere b z e = h b z ∙ ap (λ (t : Bool). cond t n (holder b)) (ne_eqb b k e)

      go : (z : Bool) → eqb k 0 ≡ z → (o : Option Dpc) → dpc_at s.dpcs.table k ≡ o
          → Agreeing (cond z w (cond (eqb (dpc_found w k) 0) w (set w (dpc_found w k + at.named_by) n))) s holder' active
      go true q o e = agreeing-same w s holder active a holder' (λ b z. elsewhere b z (λ y. z (y ∙ eqb-true k 0 q)))
      go false q none e =
          subst (λ (t : Bool). Agreeing (cond t w (set w (dpc_found w k + at.named_by) n)) s holder' active) (sym (eq-eqb (dpc_found w k) 0 (dpc-missing w s holder active a k e)))
          (agreeing-at w s holder active a holder' (λ d m. elsewhere d.address (a.shape.dpcs.placed d m)
          (λ y. none-some d (sym e ∙ ap (dpc_at s.dpcs.table) (sym y) ∙ mem-found address_of s.dpcs.table a.shape.dpcs.rising d m))))
      go false q (some d) e =
          subst (λ (t : Bool). Agreeing (cond t w (set w (dpc_found w k + at.named_by) n)) s holder' active) (sym (dpc-known w s holder active a k ∙ ap (λ (x : Option Dpc). not (present x)) e))
          (agreeing-same (set w (dpc_found w k + at.named_by) n) s (λ b. cond (eqb b k) n (holder b)) active
          (sim-holder w s holder active a k d e n (λ b. cond (eqb b k) n (holder b)) (ap (λ (t : Bool). cond t n (holder k)) (eq-eqb k k refl))
          (λ b y. ap (λ (t : Bool). cond t n (holder b)) (ne_eqb b k y))) holder' h)

  -- the DPC of an inserted timer had by none
  pub sim-unnamed : (k : ℕ) (t : Timer) → object_at s.dispatcher.objects k ≡ some (timer t)
      → Agreeing (words.unnamed w (objects_from s.limits + 32 * below key_of k s.dispatcher.objects)) s (λ b. cond (holds b t) 0 (holder b)) active
  unfolding words.unnamed is_inserted
  sim-unnamed k t e =
      subst (λ (i : ℕ). Agreeing (cond (not (eqb i 0)) (words.named w (get_or w (place + at.timer_dpc) 0) 0) w) s without active) (sym (row 5 (flag t.inserted) refl))
      (subst (λ (i : Bool). Agreeing (cond i (words.named w (get_or w (place + at.timer_dpc) 0) 0) w) s without active) (sym (flag-read t.inserted))
      (subst (λ (d : ℕ). Agreeing (cond t.inserted (words.named w d 0) w) s without active) (sym (row 8 t.dpc refl))
      (go t.inserted refl)))
    where
      place : ℕ
      place = objects_from s.limits + 32 * below key_of k s.dispatcher.objects

      without : ℕ → ℕ
      without b = cond (holds b t) 0 (holder b)

      row : Row w place (timer_row t)
      row = object-row w s holder active a k (timer t) e

      go : (i : Bool) → t.inserted ≡ i → Agreeing (cond i (words.named w t.dpc 0) w) s without active
      go true q = sim-named t.dpc 0 without (λ b z. ap (λ (c : Bool). cond c 0 (holder b)) (ap (λ (i : Bool). cond i (eqb t.dpc b) false) q ∙ swapped t.dpc b))
      go false q = agreeing-same w s holder active a without (λ b z. ap (λ (c : Bool). cond c 0 (holder b)) (ap (λ (i : Bool). cond i (eqb t.dpc b) false) q))
