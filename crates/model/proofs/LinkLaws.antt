-- Timers and the DPCs that serve them.
use Prim.Native.Nat.{ℕ}
use mathlib.Core.List.{List, [], ◌∷◌}
use mathlib.Core.Bool.{Bool, true, false, cond}
use mathlib.Core.Path.{◌≡◌, refl, sym, ap, ◌∙◌, subst}
use mathlib.Core.Option.{Option, none, some}
use native.Mathlib.Decide.{ℕ_discrete}
use lib.Dec.{eqb}
use Rattle.images.specs.declared.Timer.{Timer}
use Rattle.images.specs.declared.Dpc.{Dpc}
use Rattle.images.specs.declared.DpcWork.{DpcWork}
use Rattle.images.specs.declared.DpcOrigin.{DpcOrigin}
use Rattle.images.specs.declared.DpcOrigin.TheVariants as origin
use Rattle.images.specs.declared.DpcPhase.{DpcPhase}
use Rattle.images.specs.declared.DpcPhase.TheVariants.{Queued}
use Rattle.model.specs.Lists.{Mem, keep, present}
use Rattle.model.specs.Table.{Rising}
use Rattle.model.specs.State.{Object, mutex, event, timer, Event, Mutex}
use Rattle.model.specs.Waits.{key_of, object_at, put_object, timers_of, with_signal}
use Rattle.model.specs.Dpcs.{address_of, dpc_at, phase_at, rephased, is_from}
use Rattle.model.specs.Timers.{is_named, is_named_by_other}
use Rattle.model.specs.Valid.{Each, Served, Alone, Linked}
use Rattle.model.proofs.ListLaws.{not-both, any_false}
use Rattle.model.proofs.TableLaws.{none-some, found, find-put-other, kept-found, each-put, each_keep}
use Rattle.model.proofs.ObjectLaws.{on-timer, at-timer, map-timer, each-timer, timer-kind, core, core_of, core-of, same_kind, Same}
use Rattle.model.proofs.DpcLaws.{phase-own, phase-other, still-present}
use mathlib.Core.Logic.{inl, inr, ⊎_elim}
use borrow.Author.Tests.{eq-eqb, ne_eqb}

-- ---- a timer that serves as another does: the same address, DPC, arm and initialization, and not inserted unless the other is

pub from-same : (t u : Timer) → t.address ≡ u.address → t.arm_generation ≡ u.arm_generation → t.initialization ≡ u.initialization → (o : DpcOrigin) → is_from t o ≡ is_from u o
from-same t u a b c origin.Caller = refl
from-same t u a b c (origin.Timer address arm initialization deadline observed periodic) =
    ap (λ (x : ℕ). cond (eqb address x) (cond (eqb arm t.arm_generation) (eqb initialization t.initialization) false) false) a
    ∙ ap (λ (x : ℕ). cond (eqb address u.address) (cond (eqb arm x) (eqb initialization t.initialization) false) false) b
    ∙ ap (λ (x : ℕ). cond (eqb address u.address) (cond (eqb arm u.arm_generation) (eqb initialization x) false) false) c

pub record Less (t u : Timer) : Type 0 where
  pub inserted : t.inserted ≡ true → u.inserted ≡ true
  pub address : t.address ≡ u.address
  pub dpc : t.dpc ≡ u.dpc
  pub arm : t.arm_generation ≡ u.arm_generation
  pub initialization : t.initialization ≡ u.initialization

pub served-less : (table : List Dpc) (t u : Timer) → Less t u → Served table (timer u) → Served table (timer t)
served-less table t u h s i n =
    let r = s (h.inserted i) (λ z. n (h.dpc ∙ z)) in (
      ap (λ (a : ℕ). present (dpc_at table a)) h.dpc ∙ r.0,
      λ w e. from-same t u h.address h.arm h.initialization w.origin ∙ r.1 w (ap (phase_at table) (sym h.dpc) ∙ e),
    )

pub alone-less-left : (t u : Timer) → Less t u → (y : Object) → Alone (timer u) y → Alone (timer t) y
alone-less-left t u h = map-timer (λ v a i j n e. h.address ∙ a (h.inserted i) j (λ z. n (h.dpc ∙ z)) (sym h.dpc ∙ e))

pub alone-less-right : (t u : Timer) → Less t u → (y : Object) → Alone y (timer u) → Alone y (timer t)
alone-less-right t u h = map-timer (λ v a i j n e. a i (h.inserted j) n (e ∙ h.dpc) ∙ sym h.address)

pub alone-self : (x : Object) → Alone x x
alone-self x = at-timer x (λ t e. subst (Alone (timer t)) (sym e) (λ i j n q. refl))

-- a timer that is not inserted
pub alone-idle : (t : Timer) → t.inserted ≡ false → (y : Object) → (Alone (timer t) y) × Alone y (timer t)
alone-idle t e y = (at-timer y (λ u z i j n q. absurd (not-both (sym i ∙ e))), at-timer y (λ u z i j n q. absurd (not-both (sym j ∙ e))))

-- ---- owners and signals do not touch it

-- a timer was one before, but for its signal
timer-before : (l l' : List Object) → Same l l' → (k : ℕ) (t : Timer) → object_at l' k ≡ some (timer t) → (u : Timer) × (object_at l k ≡ some (timer u)) × Less t u
timer-before l l' s k t e =
    let c = core-of (object_at l k) (timer t) (sym (s k) ∙ ap core_of e) in
    let u = timer-kind c.0 (same_kind c.0 (timer t) c.2) in
    let q : core (timer u.0) ≡ core (timer t) = ap core (sym u.1) ∙ c.2 in
    let same : with_signal u.0 false ≡ with_signal t false = cc in (
      u.0,
      c.1 ∙ ap some u.1,
      record {
        inserted = λ i. ap (λ (x : Timer). x.inserted) same ∙ i;
        address = sym (ap (λ (x : Timer). x.address) same);
        dpc = sym (ap (λ (x : Timer). x.dpc) same);
        arm = sym (ap (λ (x : Timer). x.arm_generation) same);
        initialization = sym (ap (λ (x : Timer). x.initialization) same);
      },
    )

core-present : (a b : Option Object) → core_of a ≡ core_of b → present a ≡ present b
core-present none none e = refl
core-present none (some y) e = absurd (none-some (core y) e)
core-present (some x) none e = absurd (none-some (core x) (sym e))
core-present (some x) (some y) e = refl

pub linked-same : (l l' : List Object) (table : List Dpc) → Same l l' → Linked l table → Linked l' table
linked-same l l' table s h = record {
  served = each-timer l' (λ k t e. let b = timer-before l l' s k t e in served-less table t b.0 b.2 (h.served k (timer b.0) b.1));
  alone = λ k x e j y f. at-timer x (λ t q. at-timer y (λ u r.
      let a = timer-before l l' s k t (e ∙ ap some q) in
      let b = timer-before l l' s j u (f ∙ ap some r) in
      alone-less-left t a.0 a.2 (timer u) (alone-less-right u b.0 b.2 (timer a.0) (h.alone k (timer a.0) a.1 j (timer b.0) b.1))));
  apart = λ k p. h.apart k (sym (core-present (object_at l' k) (object_at l k) (s k)) ∙ p);
}

-- ---- one object put

pub linked-put : (x : Object) (l : List Object) (table : List Dpc) → Served table x → Each key_of l (λ y. Alone x y) → Each key_of l (λ y. Alone y x)
    → present (dpc_at table (key_of x)) ≡ false → Linked l table → Linked (put_object x l) table
linked-put x l table s a b p h = record {
  served = each-put key_of (Served table) x l s h.served;
  alone = each-put key_of (λ y. Each key_of (put_object x l) (λ z. Alone y z)) x l
      (each-put key_of (λ z. Alone x z) x l (alone-self x) a)
      (λ k y e. each-put key_of (λ z. Alone y z) x l (b k y e) (h.alone k y e));
  apart = λ k q. elim (ℕ_discrete k (key_of x)) [
    | yes e ↦ ap (λ (j : ℕ). present (dpc_at table j)) e ∙ p
    | no n ↦ h.apart k (sym (ap present (find-put-other key_of x l k n)) ∙ q)
  ];
}

-- a mutex or an event
pub linked-mutex : (m : Mutex) (l : List Object) (table : List Dpc) → present (dpc_at table m.key) ≡ false → Linked l table → Linked (put_object (mutex m) l) table
linked-mutex m l table p h = linked-put (mutex m) l table tt (λ k y e. tt) (λ k y e. at-timer y (λ t q. tt)) p h

pub linked-event : (m : Event) (l : List Object) (table : List Dpc) → present (dpc_at table m.key) ≡ false → Linked l table → Linked (put_object (event m) l) table
linked-event m l table p h = linked-put (event m) l table tt (λ k y e. tt) (λ k y e. at-timer y (λ t q. tt)) p h

-- a timer that is not inserted
pub linked-idle : (t : Timer) (l : List Object) (table : List Dpc) → t.inserted ≡ false → present (dpc_at table t.address) ≡ false → Linked l table → Linked (put_object (timer t) l) table
linked-idle t l table e p h = linked-put (timer t) l table (λ i n. absurd (not-both (sym i ∙ e))) (λ k y q. (alone-idle t e y).0) (λ k y q. (alone-idle t e y).1) p h

-- a timer in the place of one that served at least as it does
pub linked-less : (t u : Timer) (l : List Object) (table : List Dpc) → Less t u → object_at l u.address ≡ some (timer u) → Linked l table → Linked (put_object (timer t) l) table
linked-less t u l table h f k = linked-put (timer t) l table
    (served-less table t u h (k.served u.address (timer u) f))
    (λ j y e. alone-less-left t u h y (k.alone u.address (timer u) f j y e))
    (λ j y e. alone-less-right t u h y (k.alone j y e u.address (timer u) f))
    (ap (λ (a : ℕ). present (dpc_at table a)) h.address ∙ k.apart u.address (ap present f)) k

-- some objects gone
pub linked-kept : (f : Object → Bool) (l : List Object) (table : List Dpc) → Rising key_of l → Linked l table → Linked (keep f l) table
linked-kept f l table r h = record {
  served = each_keep key_of (Served table) f l r h.served;
  alone = λ k x e. each_keep key_of (λ y. Alone x y) f l r (h.alone k x (kept-found key_of f l r k x e).0);
  apart = λ k p. was k (object_at (keep f l) k) refl p;
}
  where
    was : (k : ℕ) (o : Option Object) → object_at (keep f l) k ≡ o → present (object_at (keep f l) k) ≡ true → present (dpc_at table k) ≡ false
    was k none e p = absurd (not-both (sym p ∙ ap present e))
    was k (some x) e p = h.apart k (ap present (kept-found key_of f l r k x e).0)

-- ---- another table of DPCs

pub linked-table : (l : List Object) (table table' : List Dpc) → Each key_of l (Served table') → ((k : ℕ) → present (object_at l k) ≡ true → present (dpc_at table k) ≡ false → present (dpc_at table' k) ≡ false)
    → Linked l table → Linked l table'
linked-table l table table' s p h = record { served = s; alone = h.alone; apart = λ k q. p k q (h.apart k q) }

-- one DPC in another phase: where that is queued, the timer that has it is the work's origin
module _ (l : List Object) (table : List Dpc) (r : Rising address_of table) (a : ℕ) (d : Dpc) (f : dpc_at table a ≡ some d) (p : DpcPhase) where
  pub linked-rephased : ((k : ℕ) (t : Timer) → object_at l k ≡ some (timer t) → t.inserted ≡ true → t.dpc ≡ a → (w : DpcWork) → p ≡ Queued w → is_from t w.origin ≡ true) → Linked l table → Linked l (rephased table a p)
  linked-rephased own h = linked-table l table (rephased table a p) (each-timer l after) (λ k q z. still-present table r a d f p k ∙ z) h
    where
      after : (k : ℕ) (t : Timer) → object_at l k ≡ some (timer t) → Served (rephased table a p) (timer t)
      after k t e = λ i n. let q = h.served k (timer t) e i n in (
        still-present table r a d f p t.dpc ∙ q.0,
        λ w z. elim (ℕ_discrete t.dpc a) [
          | yes y ↦ own k t e i y w (sym (phase-own table r a d f p) ∙ ap (phase_at (rephased table a p)) (sym y) ∙ z)
          | no y ↦ q.1 w (sym (phase-other table r a d f p t.dpc y) ∙ z)
        ],
      )

-- ---- the timers of a table

pub timer-mem : (l : List Object) (t : Timer) → Mem (timer t) l → Mem t (timers_of l)
timer-mem [] t m = absurd m
timer-mem (x ∷ l) t (inl e) = subst (λ (y : Object). Mem t (timers_of (y ∷ l))) e (inl refl)
timer-mem (x ∷ l) t (inr m) = on-timer (Mem t) x (λ n. timer-mem l t m) (λ u e. inr (timer-mem l t m))

pub mem-timer : (l : List Object) (t : Timer) → Mem t (timers_of l) → Mem (timer t) l
mem-timer [] t = λ m. absurd m
mem-timer (x ∷ l) t = on-timer (λ ts. Mem t ts → Mem (timer t) (x ∷ l)) x (λ n m. inr (mem-timer l t m)) (λ u e. ⊎_elim (λ q. inl (ap timer q ∙ sym e)) (λ m. inr (mem-timer l t m)))

pub timer-found-mem : (l : List Object) (k : ℕ) (t : Timer) → object_at l k ≡ some (timer t) → Mem t (timers_of l)
timer-found-mem l k t e = timer-mem l t (found key_of l k (timer t) e).0

-- no inserted timer has it
pub unnamed : (l : List Object) (a : ℕ) → is_named l a ≡ false → (k : ℕ) (t : Timer) → object_at l k ≡ some (timer t) → t.inserted ≡ true → t.dpc ≡ a → ⊥
unnamed l a e k t f i z =
    let h = any_false (λ (u : Timer). cond u.inserted (eqb u.dpc a) false) (timers_of l) e t (timer-found-mem l k t f) in
    not-both (sym (ap (λ (b : Bool). cond b (eqb t.dpc a) false) i ∙ eq-eqb t.dpc a z) ∙ h)

pub unnamed-by-other : (l : List Object) (address a : ℕ) → is_named_by_other l address a ≡ false → (k : ℕ) (t : Timer) → object_at l k ≡ some (timer t) → t.inserted ≡ true → t.dpc ≡ a → t.address ≡ address
unnamed-by-other l address a e k t f i z = elim (ℕ_discrete t.address address) [
  | yes y ↦ y
  | no n ↦
      let h = any_false (λ (u : Timer). cond (eqb u.address address) false (cond u.inserted (eqb u.dpc a) false)) (timers_of l) e t (timer-found-mem l k t f) in
      absurd (not-both (sym (ap (λ (b : Bool). cond b false (cond t.inserted (eqb t.dpc a) false)) (ne_eqb t.address address n)
      ∙ ap (λ (b : Bool). cond b (eqb t.dpc a) false) i ∙ eq-eqb t.dpc a z) ∙ h))
]
