-- Who has a DPC after a timer was set, cancelled or expired, where no two inserted timers have one.
use Prim.Native.Nat.{ℕ}
use mathlib.Core.List.{List}
use mathlib.Core.Bool.{true, false}
use mathlib.Core.Option.{some}
use mathlib.Core.Path.{◌≡◌, ap, ◌∙◌, subst}
use Rattle.images.specs.declared.Timer.{Timer}
use Rattle.model.specs.Lists.{Mem}
use Rattle.model.specs.Table.{Rising}
use Rattle.model.specs.State.{Object, timer}
use Rattle.model.specs.Waits.{key_of, object_at, put_object}
use Rattle.model.specs.Timers.{is_named_by_other}
use Rattle.model.specs.Valid.{Each, Alone}
use Rattle.model.proofs.TableLaws.{found, mem-found}
use Rattle.model.proofs.ObjectLaws.{timer-passes}
use Rattle.model.proofs.LinkLaws.{unnamed-by-other}
use Rattle.agreement.specs.Records.{holds, holder_of}
use Rattle.agreement_work.proofs.Holders.{has, holder-is}
use Rattle.agreement_work.proofs.Puts.{holder-put-own, holder-put-none}
use Rattle.agreement_work.proofs.Named.{holds_parts, parts-hold, alone-has}

-- it is inserted, and no other has its DPC
pub holder-armed : (l : List Object) → Rising key_of l → (t : Timer) → t.inserted ≡ true → is_named_by_other l t.address t.dpc ≡ false
    → holder_of (put_object (timer t) l) t.dpc ≡ t.address
holder-armed l r t i e = holder-put-own (timer t) l t.dpc (parts-hold t i) only
  where
    only : (y : Object) → Mem y l → has t.dpc y ≡ true → key_of y ≡ t.address
    only y n h =
        let u = timer-passes (holds t.dpc) y h in
        let p = holds_parts t.dpc u.0 u.2 in
        ap key_of u.1 ∙ unnamed-by-other l t.address t.dpc e u.0.address u.0 (mem-found key_of l r (timer u.0) (subst (λ (z : Object). Mem z l) u.1 n)) p.0 p.1

module _ (l : List Object) (r : Rising key_of l) (alone : Each key_of l (λ x. Each key_of l (λ y. Alone x y))) (a : ℕ) (some_dpc : a ≡ 0 → ⊥) where
  -- a timer that has the DPC is the one that the DPC's record keeps
  pub holder-own : (u : Timer) → object_at l u.address ≡ some (timer u) → holds a u ≡ true → holder_of l a ≡ u.address
  holder-own u e h =
      let m = (found key_of l u.address (timer u) e).0 in
      holder-is l a u.address (λ x n q. alone-has l r alone a some_dpc x (timer u) n m q h) (timer u) m h

  -- a timer that had the DPC has it no longer
  pub holder-gone : (t u : Timer) → object_at l t.address ≡ some (timer u) → holds a u ≡ true → holds a t ≡ false → holder_of (put_object (timer t) l) a ≡ 0
  holder-gone t u e h f =
      let p = found key_of l t.address (timer u) e in
      holder-put-none (timer t) l r a f (λ y n q. alone-has l r alone a some_dpc y (timer u) n p.0 q h ∙ p.1)
