-- The order of the due timers, and that all of them are there.
use Prim.Native.Nat.{ℕ, ◌≤◌, ◌<◌}
use mathlib.Core.List.{List, [], ◌∷◌}
use mathlib.Core.Bool.{Bool, true, false, cond}
use mathlib.Core.Path.{◌≡◌, refl, sym, ap, subst}
use mathlib.Core.Logic.{◌⊎◌, inl, inr, ⊎_elim}
use native.Mathlib.Omega.{arith}
use native.Mathlib.Decide.{ℕ_discrete}
use borrow.Author.Tests.{leb-true, leb-false}
use lib.Dec.{leb}
use Rattle.images.specs.declared.Timer.{Timer}
use Rattle.model.specs.Lists.{Mem, keep}
use Rattle.model.specs.Table.{Rising, Above}
use Rattle.model.specs.State.{Object, timer, Policy, unselected, cpu0_dispatch}
use Rattle.model.specs.Waits.{key_of, timers_of}
use Rattle.model.specs.Timers.{is_due, insert_by_due, by_due, in_order, due_timers}
use Rattle.model.specs.Order.{ByAddress, Sooner, ByDue}
use Rattle.model.proofs.ListLaws.{mem-keep, keep-mem}
use Rattle.model.proofs.ObjectLaws.{on-timer}
use Rattle.model.proofs.LinkLaws.{mem-timer, timer-mem}
use Rattle.model.proofs.ExpiryLaws.{mem-insert, mem-sorted}

-- ---- by address

above-mem : (a : ℕ) (l : List Object) → Above key_of a l → (x : Object) → Mem x l → a < key_of x
above-mem a [] h x m = absurd m
above-mem a (y ∷ ys) h x (inl q) = subst (λ (z : Object). a < key_of z) (sym q) h.0
above-mem a (y ∷ ys) h x (inr m) = above-mem a ys h.1 x m

timers-rise : (l : List Object) → Rising key_of l → ByAddress (timers_of l)
timers-rise [] r = tt
timers-rise (x ∷ l) r = on-timer ByAddress x (λ n. timers-rise l r.1)
    (λ t q. (λ u m. above-mem t.address l (subst (λ (y : Object). Above key_of (key_of y) l) q r.0) (timer u) (mem-timer l u m), timers-rise l r.1))

keep-rise : (g : Timer → Bool) (ts : List Timer) → ByAddress ts → ByAddress (keep g ts)
keep-rise g [] h = tt
keep-rise g (t ∷ ts) h = go (g t) (keep-rise g ts h.1)
  where
    go : (b : Bool) → ByAddress (keep g ts) → ByAddress (cond b (t ∷ keep g ts) (keep g ts))
    go true k = (λ u m. h.0 u (mem-keep g u ts m).0, k)
    go false k = k

-- ---- by due, then address

sooner-due : (t u : Timer) → Sooner t u → t.due ≤ u.due
sooner-due t u (inl h) = omega arith
sooner-due t u (inr h) = omega (arith, h.0)

insert-sorted : (t : Timer) (us : List Timer) → ((u : Timer) → Mem u us → t.address < u.address) → ByDue us → ByDue (insert_by_due t us)
insert-sorted t [] a h = (λ u m. absurd m, tt)
insert-sorted t (x ∷ xs) a h = go (leb t.due x.due) refl (insert-sorted t xs (λ u m. a u (inr m)) h.1)
  where
    before : (u : Timer) → t.due ≤ u.due → t.address < u.address → Sooner t u
    before u p q = elim (ℕ_discrete t.due u.due) [ yes e ↦ inr (e, q) | no n ↦ inl (omega (arith, n)) ]

    later : t.due ≤ x.due → (u : Timer) → (u ≡ x) ⊎ Mem u xs → t.due ≤ u.due
    later p u (inl e) = omega (arith, ap (λ (y : Timer). y.due) e)
    later p u (inr m) = omega (arith, sooner-due x u (h.0 u m))

    go : (b : Bool) → leb t.due x.due ≡ b → ByDue (insert_by_due t xs) → ByDue (cond b (t ∷ x ∷ xs) (x ∷ insert_by_due t xs))
    go true e ih = (λ u m. before u (later (leb-true t.due x.due e) u m) (a u m), h)
    go false e ih = (λ u m. ⊎_elim (λ (q : u ≡ t). inl (omega (arith, leb-false t.due x.due e, ap (λ (y : Timer). y.due) q))) (λ (q : Mem u xs). h.0 u q) (mem-insert t xs u m), ih)

sorted : (ts : List Timer) → ByAddress ts → ByDue (by_due ts)
sorted [] h = tt
sorted (t ∷ ts) h = insert-sorted t (by_due ts) (λ u m. h.0 u (mem-sorted ts u m)) (sorted ts h.1)

-- "Without a policy, due timers go by address"
pub by_address : (now : ℕ) (l : List Object) → Rising key_of l → ByAddress (due_timers unselected now l)
by_address now l r = keep-rise (is_due now) (timers_of l) (timers-rise l r)

-- "With a policy they go by due, then address"
pub by-due : (first second now : ℕ) (l : List Object) → Rising key_of l → ByDue (due_timers (cpu0_dispatch first second) now l)
by-due first second now l r = sorted (keep (is_due now) (timers_of l)) (keep-rise (is_due now) (timers_of l) (timers-rise l r))

-- ---- all that are due, and no other

insert-own : (t : Timer) (us : List Timer) → Mem t (insert_by_due t us)
insert-own t [] = inl refl
insert-own t (x ∷ xs) = go (leb t.due x.due) (insert-own t xs)
  where
    go : (b : Bool) → Mem t (insert_by_due t xs) → Mem t (cond b (t ∷ x ∷ xs) (x ∷ insert_by_due t xs))
    go true m = inl refl
    go false m = inr m

insert-mem : (t : Timer) (us : List Timer) (u : Timer) → Mem u us → Mem u (insert_by_due t us)
insert-mem t [] u m = absurd m
insert-mem t (x ∷ xs) u m = go (leb t.due x.due) m (insert-mem t xs u)
  where
    go : (b : Bool) → (u ≡ x) ⊎ Mem u xs → (Mem u xs → Mem u (insert_by_due t xs)) → Mem u (cond b (t ∷ x ∷ xs) (x ∷ insert_by_due t xs))
    go true a ih = inr a
    go false (inl q) ih = inl q
    go false (inr a) ih = inr (ih a)

sorted-mem : (ts : List Timer) (u : Timer) → Mem u ts → Mem u (by_due ts)
sorted-mem [] u m = m
sorted-mem (t ∷ ts) u (inl e) = subst (λ (x : Timer). Mem x (insert_by_due t (by_due ts))) (sym e) (insert-own t (by_due ts))
sorted-mem (t ∷ ts) u (inr m) = insert-mem t (by_due ts) u (sorted-mem ts u m)

in_order_lem : (policy : Policy) (ts : List Timer) (u : Timer) → (Mem u ts → Mem u (in_order policy ts)) × (Mem u (in_order policy ts) → Mem u ts)
in_order_lem unselected ts u = (λ m. m, λ m. m)
in_order_lem (cpu0_dispatch first second) ts u = (sorted-mem ts u, mem-sorted ts u)

pub due-listed : (policy : Policy) (now : ℕ) (l : List Object) (t : Timer) → Mem (timer t) l → is_due now t ≡ true → Mem t (due_timers policy now l)
due-listed policy now l t m e = (in_order_lem policy (keep (is_due now) (timers_of l)) t).0 (keep-mem (is_due now) t (timers_of l) (timer-mem l t m) e)

pub listed-due : (policy : Policy) (now : ℕ) (l : List Object) (t : Timer) → Mem t (due_timers policy now l) → (Mem (timer t) l) × (is_due now t ≡ true)
listed-due policy now l t m = let k = mem-keep (is_due now) t (timers_of l) ((in_order_lem policy (keep (is_due now) (timers_of l)) t).1 m) in (mem-timer l t k.0, k.1)
