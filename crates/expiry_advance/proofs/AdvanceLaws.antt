-- Where no timer is due, an advance expires none.
use mathlib.Core.Bool.{Bool, cond, true, false}
use mathlib.Core.List.{List, []}
use mathlib.Core.Path.{◌≡◌, refl, ap, ◌∙◌}
use Prim.Native.Nat.{ℕ}
use lib.ListN.{get_or}
use lib.Dec.{eqb}
use Rattle.words.specs.Layout as at
use Rattle.objects.specs.Objects.{object_count, objects_base}
use Rattle.expiry_order.specs.Order.{sorted}
use Rattle.expiry.specs.Due.{due_list, any_due}
use Rattle.expiry.specs.Check.{refusal_in, list_refusal}
use Rattle.expiry.specs.Expire.{expired_list}
use Rattle.expiry_advance.specs.Advance.{arranged, order, ran, expiry_refusal, expiry_words}
use Rattle.expiry.proofs.DueLaws.{none-due}

none-arranged : (w : List ℕ) (base : ℕ) → arranged w base [] ≡ []
unfolding arranged sorted
none-arranged w base = go (eqb (get_or w at.policy 0) 0)
  where
    go : (b : Bool) → cond b [] (sorted w base []) ≡ []
    go true = refl
    go false = refl

none-in-order : (w : List ℕ) (time : ℕ) → any_due w time ≡ false → order w time ≡ []
unfolding order due_list any_due
none-in-order w time h = ap (arranged w (objects_base w)) (none-due (object_count w) w (objects_base w) 0 time h) ∙ none-arranged w (objects_base w)

pub none_refused : (w : List ℕ) (time : ℕ) → any_due w time ≡ false → expiry_refusal w time ≡ 0
unfolding expiry_refusal list_refusal refusal_in
none_refused w time h = ap (λ (l : List ℕ). list_refusal w (objects_base w) l time) (none-in-order w time h)

pub none_changed : (w : List ℕ) (time : ℕ) → any_due w time ≡ false → expiry_words w time ≡ w
unfolding expiry_words ran list_refusal refusal_in expired_list
none_changed w time h = ap (λ (l : List ℕ). ran w (objects_base w) l time) (none-in-order w time h)
