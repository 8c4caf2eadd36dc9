-- Events and timers among the objects, and the first of those that stay.
use mathlib.Core.List.{List, [], ◌∷◌}
use mathlib.Core.Bool.{Bool, true, false, cond}
use mathlib.Core.Option.{Option, some}
use mathlib.Core.Logic.{inl, inr}
use mathlib.Core.Path.{◌≡◌, refl, sym, ap, ◌∙◌}
use Rattle.images.specs.declared.Timer.{Timer}
use Rattle.model.specs.Lists.{any, keep, first_of, Mem}
use Rattle.model.specs.State.{Event, Object}
use Rattle.model.specs.Waits.{on_event, on_timer, timers_of, events_of}
use Rattle.model.proofs.ObjectLaws.{on-event₂, on-timer₂}

-- ---- events and timers among the objects

pub any-event : (f : Event → Bool) (l : List Object) → any f (events_of l) ≡ any (on_event false f) l
any-event f [] = refl
any-event f (x ∷ l) = on-event₂ (λ es b. any f es ≡ cond b true (any (on_event false f) l)) x (λ n. any-event f l) (λ e q. ap (λ (b : Bool). cond (f e) true b) (any-event f l))

pub any-timer : (f : Timer → Bool) (l : List Object) → any f (timers_of l) ≡ any (on_timer false f) l
any-timer f [] = refl
any-timer f (x ∷ l) = on-timer₂ (λ ts b. any f ts ≡ cond b true (any (on_timer false f) l)) x (λ n. any-timer f l) (λ t q. ap (λ (b : Bool). cond (f t) true b) (any-timer f l))

-- ---- the first that passes a test is the first of those that stay, where those that go do not pass it

pub first-kept : {A : Type 0} (f g : A → Bool) (l : List A) → ((x : A) → Mem x l → g x ≡ false → f x ≡ false) → first_of f (keep g l) ≡ first_of f l
first-kept f g [] h = refl
first-kept {A} f g (x ∷ xs) h = go (g x) refl (first-kept f g xs (λ y m. h y (inr m)))
  where
    go : (b : Bool) → g x ≡ b → first_of f (keep g xs) ≡ first_of f xs → first_of f (cond b (x ∷ keep g xs) (keep g xs)) ≡ cond (f x) (some x) (first_of f xs)
    go true q ih = ap (λ (o : Option A). cond (f x) (some x) o) ih
    go false q ih = ih ∙ sym (ap (λ (b : Bool). cond b (some x) (first_of f xs)) (h x (inl refl) q))
