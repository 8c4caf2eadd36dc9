-- The last timer, and the last DPC, that begin before an end: those at the positions that the search in the words leads to.
use Prim.Native.Nat.{ℕ, zero, suc, ◌+◌, ◌*◌, ◌≤◌, ◌<◌}
use mathlib.Core.List.{List, [], ◌∷◌}
use mathlib.Core.Bool.{Bool, true, false, cond}
use mathlib.Core.Option.{Option, none, some}
use mathlib.Core.Path.{◌≡◌, refl, sym, ap, ◌∙◌, subst}
use native.Mathlib.Omega.{arith}
use lib.ListN.{length}
use lib.Dec.{eqb, ltb}
use borrow.Author.Tests.{ltb-false, le-ltb}
use Rattle.images.specs.declared.Timer.{Timer}
use Rattle.images.specs.declared.Dpc.{Dpc}
use Rattle.words.specs.Layout.{entry_at}
use Rattle.timers.specs.Record.{is_timer}
use Rattle.timers.specs.Reads.{last_below}
use Rattle.model.specs.Lists.{nth, given}
use Rattle.model.specs.Table.{Above, Rising}
use Rattle.model.specs.State.{Object, mutex, event, timer}
use Rattle.model.specs.Waits.{key_of, kind_of, as_timer, timers_of}
use Rattle.model.specs.Dpcs.{address_of}
use Rattle.model.specs.Reads.{last_timer_below, last_dpc_below}
use Rattle.model.proofs.ObjectLaws.{on-timer₂, on-timer}
use Rattle.agreement_tables.specs.Tables.{below}
use Rattle.agreement_tables.proofs.Lists.{nth-some, below-le}
use Rattle.agreement.specs.Row.{Row}
use Rattle.agreement.specs.Records.{object_row}
use Rattle.agreement.proofs.Places.{entry_place}
use Rattle.agreement_timers.proofs.Walks.{Stands, timer-here}

-- ---- the last timer of the first `n` objects

abbrev pub last_of : ℕ → List Object → Option Timer
last_of zero l = none
last_of (suc n) [] = none
last_of (suc n) (x ∷ l) = given (last_of n l) (as_timer (some x)) some

-- none begins before the end where all begin after it
above-end : (end k : ℕ) → end ≤ k → (l : List Object) → Above key_of k l → last_timer_below end (timers_of l) ≡ none
above-end end k le [] h = refl
above-end end k le (x ∷ l) h = on-timer (λ ts. last_timer_below end ts ≡ none) x (λ n. above-end end k le l h.1)
    (λ t q. ap (λ (b : Bool). cond b (given (last_timer_below end (timers_of l)) (some t) some) none) (le-ltb t.address end (omega (arith, h.0, ap key_of q))))

whole : (o : Option Timer) → given o none some ≡ o
whole none = refl
whole (some t) = refl

pub last-timer : (end : ℕ) (l : List Object) → Rising key_of l → last_timer_below end (timers_of l) ≡ last_of (below key_of end l) l
last-timer end [] r = refl
last-timer end (x ∷ l) r = go (ltb (key_of x) end) refl (last-timer end l r.1)
  where
    go : (b : Bool) → ltb (key_of x) end ≡ b → last_timer_below end (timers_of l) ≡ last_of (below key_of end l) l
        → last_timer_below end (timers_of (x ∷ l)) ≡ last_of (cond b (suc (below key_of end l)) 0) (x ∷ l)
    go true e h = on-timer₂ (λ ts o. last_timer_below end ts ≡ given (last_of (below key_of end l) l) o some) x (λ n. h ∙ sym (whole (last_of (below key_of end l) l)))
        (λ t q. ap (λ (b : Bool). cond b (given (last_timer_below end (timers_of l)) (some t) some) none) (sym (ap (λ (y : Object). ltb (key_of y) end) q) ∙ e) ∙ ap (λ (o : Option Timer). given o (some t) some) h)
    go false e h = let le = ltb-false (key_of x) end e in on-timer (λ ts. last_timer_below end ts ≡ none) x (λ n. above-end end (key_of x) le l r.0)
        (λ t q. ap (λ (b : Bool). cond b (given (last_timer_below end (timers_of l)) (some t) some) none) (le-ltb t.address end (omega (arith, le, ap key_of q))))

-- the next object is a timer, which is the last then, or it is none
last-next : (n : ℕ) (l : List Object) → n < length l → last_of (suc n) l ≡ given (as_timer (nth l n)) (last_of n l) some
last-next n [] h = absurd (omega arith)
last-next zero (x ∷ l) h = go (as_timer (some x))
  where
    go : (o : Option Timer) → given (last_of 0 l) o some ≡ given o none some
    go none = refl
    go (some t) = refl
last-next (suc n) (x ∷ l) h = ap (λ (o : Option Timer). given o (as_timer (some x)) some) (last-next n l (omega arith)) ∙ go (as_timer (nth l n))
  where
    go : (o : Option Timer) → given (given o (last_of n l) some) (as_timer (some x)) some ≡ given o (given (last_of n l) (as_timer (some x)) some) some
    go none = refl
    go (some t) = refl

-- where the words find it
module _ (w : List ℕ) (base : ℕ) (low : base ≤ 1000000) (one : 1 ≤ base) (l : List Object) (few : length l ≤ 8192)
    (rows : (j : ℕ) (x : Object) → nth l j ≡ some x → Row w (base + 32 * j) (object_row x)) where
  pub last-stands : (n : ℕ) → n ≤ length l → Stands w (last_below n w base) (last_of n l)
  unfolding last_below
  last-stands zero h = refl
  last-stands (suc n) h =
      let x = nth-some l n (omega arith) in
      let r = subst (λ (p : ℕ). Row w p (object_row x.0)) (sym (entry_place base n low (omega arith))) (rows n x.0 x.1) in
      subst (Stands w (cond (is_timer w (entry_at base n)) (entry_at base n) (last_below n w base))) (sym (last-next n l (omega arith) ∙ ap (λ (o : Option Object). given (as_timer o) (last_of n l) some) x.1))
      (subst (λ (b : Bool). Stands w (cond b (entry_at base n) (last_below n w base)) (given (as_timer (some x.0)) (last_of n l) some)) (sym (timer-here w base low one (entry_at base n) x.0 r))
      (go x.0 r (last-stands n (omega arith))))
    where
      go : (x : Object) → Row w (entry_at base n) (object_row x) → Stands w (last_below n w base) (last_of n l)
          → Stands w (cond (eqb (kind_of x) 2) (entry_at base n) (last_below n w base)) (given (as_timer (some x)) (last_of n l) some)
      go (mutex m) r k = k
      go (event v) r k = k
      go (timer t) r k = (omega (arith, entry_place base n low (omega arith)), r)

-- ---- the last DPC

-- the one before position `n`
abbrev pub before : List Dpc → ℕ → Option Dpc
before l zero = none
before l (suc n) = nth l n

pub last-dpc : (end : ℕ) (l : List Dpc) → last_dpc_below end l ≡ before l (below address_of end l)
last-dpc end [] = refl
last-dpc end (d ∷ l) = go (ltb d.address end) (below address_of end l) (below-le address_of end l) (last-dpc end l)
  where
    go : (b : Bool) (n : ℕ) → n ≤ length l → last_dpc_below end l ≡ before l n → cond b (given (last_dpc_below end l) (some d) some) none ≡ before (d ∷ l) (cond b (suc n) 0)
    go true zero le h = ap (λ (o : Option Dpc). given o (some d) some) h
    go true (suc n) le h = let x = nth-some l n (omega arith) in ap (λ (o : Option Dpc). given o (some d) some) (h ∙ x.1) ∙ sym x.1
    go false n le h = refl
