-- A mutex or an event entered: no timer goes, so whom the DPCs name stays.
use Prim.Native.Nat.{ℕ, ◌≤◌}
use mathlib.Core.List.{List}
use mathlib.Core.Bool.{Bool, true, false, cond, not}
use mathlib.Core.Option.{Option, none, some}
use mathlib.Core.Path.{◌≡◌, refl, sym, ap, ◌∙◌}
use lib.ListN.{length}
use lib.Dec.{eqb}
use Rattle.objects.specs.declared.Object as stored
use Rattle.objects.specs.Objects.{entered}
use Rattle.model.specs.Lists.{present, given}
use Rattle.model.specs.State.{State, Object}
use Rattle.model.specs.Waits.{key_of, kind_of, object_at, as_timer, timer_at, put_object}
use Rattle.model.specs.Dpcs.{dpc_at}
use Rattle.model.specs.Refusal.{collides}
use Rattle.model.specs.Step.{with_table}
use Rattle.model.proofs.ListLaws.{not-both}
use Rattle.model.proofs.ObjectLaws.{on-timer}
use Rattle.agreement_work.proofs.Holders.{has}
use Rattle.agreement_work.proofs.Puts.{holder-plain}
use Rattle.agreement_work.proofs.Same.{agreeing-same}
use Rattle.agreement.specs.Records.{object_row, holder_of, active_address}
use Rattle.agreement.specs.Shape.{ObjectFits}
use Rattle.agreement.specs.Agree.{Agree}
use Rattle.agreement_objects.proofs.Enter.{five_row, sim-enter-object}

-- no timer has a key that a mutex or an event may take
pub no-timer : (s : State) (kind key : ℕ) → eqb 2 kind ≡ false → collides s kind key ≡ false → timer_at s.dispatcher.objects key ≡ none
unfolding collides
no-timer s kind key q = go (present (dpc_at s.dpcs.table key)) (object_at s.dispatcher.objects key)
  where
    go : (b : Bool) (o : Option Object) → cond b true (given o false (λ x. not (eqb (kind_of x) kind))) ≡ false → as_timer o ≡ none
    go true o e = absurd (not-both e)
    go false none e = refl
    go false (some x) e = on-timer (λ o. o ≡ none) x (λ n. refl) (λ t z. absurd (not-both (sym (ap not q) ∙ sym (ap (λ (y : Object). not (eqb (kind_of y) kind)) z) ∙ e)))

pub agree-enter : (w : List ℕ) (s : State) → Agree w s → (x : Object) (o : stored.Object) → length (put_object x s.dispatcher.objects) ≤ s.limits.objects
    → ObjectFits x → five_row (key_of x) o ≡ object_row x → ((b : ℕ) → has b x ≡ false) → timer_at s.dispatcher.objects (key_of x) ≡ none
    → Agree (entered w (key_of x) o) (with_table s (put_object x s.dispatcher.objects))
agree-enter w s a x o room fits row plain none-there =
    agreeing-same (entered w (key_of x) o) (with_table s (put_object x s.dispatcher.objects)) (holder_of s.dispatcher.objects) (active_address s.dpcs.table)
    (sim-enter-object w s (holder_of s.dispatcher.objects) (active_address s.dpcs.table) a x o room fits row) (holder_of (put_object x s.dispatcher.objects))
    (λ b z. holder-plain s.dispatcher.objects a.shape.rising x b (plain b) none-there)
