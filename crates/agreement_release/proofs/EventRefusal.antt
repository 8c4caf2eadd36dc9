-- Event release is refused on the words just as in the log.
use Prim.Native.Nat.{ℕ, zero, suc, ◌+◌, ◌*◌}
use mathlib.Core.List.{List}
use mathlib.Core.Bool.{Bool, true, false, cond, not, ◌&&◌, ◌||◌}
use mathlib.Core.Path.{◌≡◌, refl, sym, ap, ap₂, ◌∙◌, subst}
use native.Mathlib.Omega.{arith}
use borrow.Author.Tests.{ltb-true, ltb-false, le-leb, lt-leb}
use lib.Dec.{eqb, leb, ltb}
use lib.ListN.{length}
use Rattle.event_release.specs.Release.{is_event, key_held, is_held, held_in, any_held, release_refusal}
use Rattle.timers.specs.Record.{some_in}
use Rattle.wakes.specs.Wake.{waits_on}
use Rattle.words.specs.Layout.{entry_at}
use Rattle.model.specs.Lists.{any}
use Rattle.model.specs.State.{State, Event, Object}
use Rattle.model.specs.Waits.{kind_of, on_event, events_of}
use Rattle.model.specs.Refusal.{is_waited_on, event_held, event_release_refusal}
use Rattle.model.proofs.ObjectLaws.{on-event}
use Rattle.agreement.specs.Row.{Row}
use Rattle.agreement.specs.Records.{object_row}
use Rattle.agreement.specs.Agree.{objects_from, Agreeing}
use Rattle.agreement.proofs.Headers.{objects-few}
use Rattle.agreement.proofs.Lookups.{base-is, object-count-is, row-kind}
use Rattle.agreement.proofs.Walks.{some_is}
use Rattle.agreement_release.proofs.Walks.{any-event}

-- one order told by the other
pub leb-not : (a b : ℕ) → leb a b ≡ not (ltb b a)
leb-not a b = go (ltb b a) refl
  where
    go : (c : Bool) → ltb b a ≡ c → leb a b ≡ not c
    go true q = lt-leb a b (ltb-true b a q)
    go false q = le-leb a b (ltb-false b a q)

-- the two ways to say that an event is held
held_same : (big before behind split past waited : Bool)
    → cond big true (cond (not before) false (cond (not behind) false (cond split true (cond past true waited)))) ≡ cond big true (cond (before && behind) ((split || past) || waited) false)
held_same true before behind split past waited = refl
held_same false false behind split past waited = refl
held_same false true false split past waited = refl
held_same false true true true past waited = refl
held_same false true true false true waited = refl
held_same false true true false false waited = refl

-- the walk of events is a walk of records
held-walk : (m : ℕ) (w : List ℕ) (base i lo hi span : ℕ) → held_in m w base i lo hi span ≡ some_in m (λ place. is_held w place lo hi span) base i
unfolding held_in some_in
held-walk zero w base i lo hi span = refl
held-walk (suc m) w base i lo hi span = ap (λ (b : Bool). cond (is_held w (entry_at base i) lo hi span) true b) (held-walk m w base (i + 1) lo hi span)

module _ (w : List ℕ) (s : State) (holder : ℕ → ℕ) (active : ℕ) (a : Agreeing w s holder active) (waits : (kind key : ℕ) → waits_on w kind key ≡ is_waited_on s kind key) where
  key-held-is : (lo hi span : ℕ) (e : Event) → key_held w e.key lo hi span ≡ event_held s lo hi span e
  unfolding key_held event_held
  key-held-is lo hi span e =
      ap (λ (b : Bool). cond (ltb 18446744073709551615 (k + span)) true (cond b false (cond (leb (k + span) lo) false (cond (ltb k lo) true (cond (ltb hi (k + span)) true (waits_on w 1 k)))))) (leb-not hi k)
      ∙ ap (λ (b : Bool). cond (ltb 18446744073709551615 (k + span)) true (cond (not (ltb k hi)) false (cond b false (cond (ltb k lo) true (cond (ltb hi (k + span)) true (waits_on w 1 k)))))) (leb-not (k + span) lo)
      ∙ ap (λ (b : Bool). cond (ltb 18446744073709551615 (k + span)) true (cond (not (ltb k hi)) false (cond (not (ltb lo (k + span))) false (cond (ltb k lo) true (cond (ltb hi (k + span)) true b))))) (waits 1 k)
      ∙ held_same (ltb 18446744073709551615 (k + span)) (ltb k hi) (ltb lo (k + span)) (ltb k lo) (ltb hi (k + span)) (is_waited_on s 1 k)
    where
      k : ℕ
      k = e.key

  held-is : (lo hi span place : ℕ) (x : Object) → Row w place (object_row x) → is_held w place lo hi span ≡ on_event false (event_held s lo hi span) x
  unfolding is_held is_event
  held-is lo hi span place x r = on-event (λ b. is_held w place lo hi span ≡ b) x (λ n. simp (r 1 (kind_of x) (row-kind x), n))
      (λ e q. let z = subst (λ (y : Object). Row w place (object_row y)) q r in simp (z 1 1 refl, z 0 e.key refl, key-held-is lo hi span e))

  any-held-is : (lo hi span : ℕ) → any_held w lo hi span ≡ any (event_held s lo hi span) (events_of s.dispatcher.objects)
  unfolding any_held
  any-held-is lo hi span =
      ap₂ (λ (m b : ℕ). held_in m w b 0 lo hi span) (object-count-is w s holder active a) (base-is w s holder active a)
      ∙ held-walk (length s.dispatcher.objects) w (objects_from s.limits) 0 lo hi span
      ∙ some_is (λ place. is_held w place lo hi span) (on_event false (event_held s lo hi span)) (objects_from s.limits) (omega (arith, a.shape.sizes.limits.threads)) s.dispatcher.objects 0
      (omega (arith, objects-few w s holder active a))
      (λ t x e. ap (λ (p : ℕ). is_held w p lo hi span) (let z : objects_from s.limits + 32 * (0 + t) ≡ objects_from s.limits + 32 * t = omega arith in z)
      ∙ held-is lo hi span (objects_from s.limits + 32 * t) x (a.objects t x e))
      ∙ sym (any-event (event_held s lo hi span) s.dispatcher.objects)

  pub event-release-is : (base size layout : ℕ) → release_refusal w base size layout ≡ event_release_refusal s base size layout
  unfolding release_refusal event_release_refusal
  event-release-is base size layout =
      ap (λ (b : Bool). cond (ltb 18446744073709551615 (base + size)) 23 (cond (eqb size 0) 23 (cond (eqb layout 0) 23 (cond b 23 0)))) (any-held-is base (base + size) layout)
