-- What a row of the table that did not refuse says.
use Prim.Native.Nat.{ℕ, zero, suc, ◌≤◌}
use mathlib.Core.List.{List, [], ◌∷◌}
use mathlib.Core.Bool.{Bool, true, false, cond, ◌&&◌, ◌||◌}
use mathlib.Core.Path.{◌≡◌, refl, sym, ap, ◌∙◌, subst}
use mathlib.Core.Logic.{inl, inr}
use mathlib.Core.Option.{Option, none, some}
use native.Mathlib.Omega.{arith}
use borrow.Author.Tests.{eq-eqb, ltb-false}
use lib.Dec.{eqb, ltb}
use Rattle.model.specs.Lists.{Mem, any, present, given}
use Rattle.model.specs.State.{Dispatcher, Thread, Named, Mutex, Event, Object, mutex, event}
use Rattle.model.specs.Threads.{no_one, thread_at, status_of, wait_of}
use Rattle.model.specs.Waits.{mutexes_of, events_of, same_named, listed, waits_on}
use Rattle.model.specs.Refusal.{not_priority, bad_limits}
use Rattle.model.proofs.ListLaws.{not-both, neither, any_false}
use Rattle.model.proofs.ObjectLaws.{on-mutex, on-event}

-- a test that would have refused did not pass
pub passes : (b : Bool) (n m : ℕ) → cond b (suc n) m ≡ 0 → (b ≡ false) × (m ≡ 0)
passes true n m e = absurd (omega arith)
passes false n m e = (refl, e)

-- a test that has to pass did
pub holds : (b : Bool) (n m : ℕ) → cond b m (suc n) ≡ 0 → (b ≡ true) × (m ≡ 0)
holds true n m e = (refl, e)
holds false n m e = absurd (omega arith)

module _ {A : Type 0} where
  -- a record that has to be there is
  pub there : (o : Option A) (n : ℕ) (f : A → ℕ) → given o (suc n) f ≡ 0 → (x : A) × (o ≡ some x) × (f x ≡ 0)
  there none n f e = absurd (omega arith)
  there (some x) n f e = (x, refl, e)

  pub known : (o : Option A) → present o ≡ true → (x : A) × (o ≡ some x)
  known none e = absurd (not-both (sym e))
  known (some x) e = (x, refl)

  pub missing : (o : Option A) → present o ≡ false → o ≡ none
  missing none e = refl
  missing (some x) e = absurd (not-both e)

pub and-true : (a b : Bool) → (a && b) ≡ true → (a ≡ true) × (b ≡ true)
and-true true b e = (refl, e)
and-true false b e = absurd (not-both (sym e))

pub or-false : (a b : Bool) → (a || b) ≡ false → (a ≡ false) × (b ≡ false)
or-false true b e = absurd (not-both e)
or-false false b e = (refl, e)

pub priority-ok : (p : ℕ) → not_priority p ≡ false → (1 ≤ p) × (p ≤ 31)
unfolding not_priority
priority-ok p e = let h = neither (ltb p 1) (ltb 31 p) e in (ltb-false p 1 h.0, ltb-false 31 p h.1)

pub limits-ok : (t o d : ℕ) → bad_limits t o d ≡ false → (1 ≤ t) × (t ≤ 256) × (o ≤ 4096) × (d ≤ 4096)
unfolding bad_limits
limits-ok t o d e =
    let h = neither (ltb t 1) (cond (ltb 256 t) true (cond (ltb 4096 o) true (ltb 4096 d))) e in
    let g = neither (ltb 256 t) (cond (ltb 4096 o) true (ltb 4096 d)) h.1 in
    let f = neither (ltb 4096 o) (ltb 4096 d) g.1 in
    (ltb-false t 1 h.0, ltb-false 256 t g.0, ltb-false 4096 o f.0, ltb-false 4096 d f.1)

-- ---- threads that wait for something

-- a test that no thread passes
pub no-thread-passes : (f : Thread → Bool) → f no_one ≡ false → (l : List Thread) → any f l ≡ false → (i : ℕ) → f (thread_at l i) ≡ false
no-thread-passes f z l e zero = z
no-thread-passes f z [] e (suc n) = z
no-thread-passes f z (x ∷ xs) e (suc zero) = (neither (f x) (any f xs) e).0
no-thread-passes f z (x ∷ xs) e (suc (suc n)) = no-thread-passes f z xs (neither (f x) (any f xs) e).1 (suc n)

pub same-named : (a b : Named) → a.kind ≡ b.kind → a.key ≡ b.key → same_named a b ≡ true
same-named a b p q = ap (λ (t : Bool). t && eqb a.key b.key) (eq-eqb a.kind b.kind p) ∙ eq-eqb a.key b.key q

-- nobody waits for it: so whatever a thread waits for has another kind or key
pub unwaited : (d : Dispatcher) (m : Named) → waits_on d m ≡ false → (i : ℕ) (n : Named) → Mem n (wait_of (status_of d i)).objects → n.kind ≡ m.kind → n.key ≡ m.key → ⊥
unwaited d m e i n a p q =
    let h = no-thread-passes (λ (t : Thread). listed m (wait_of t.status).objects) refl d.threads e i in
    not-both (sym (same-named n m p q) ∙ any_false (λ x. same_named x m) (wait_of (status_of d i)).objects h n a)

-- ---- mutexes and events of a table

pub mutex-mem : (l : List Object) (m : Mutex) → Mem (mutex m) l → Mem m (mutexes_of l)
mutex-mem [] m a = absurd a
mutex-mem (x ∷ l) m (inl e) = subst (λ (y : Object). Mem m (mutexes_of (y ∷ l))) e (inl refl)
mutex-mem (x ∷ l) m (inr a) = on-mutex (Mem m) x (λ n. mutex-mem l m a) (λ y q. inr (mutex-mem l m a))

pub event-mem : (l : List Object) (m : Event) → Mem (event m) l → Mem m (events_of l)
event-mem [] m a = absurd a
event-mem (x ∷ l) m (inl e) = subst (λ (y : Object). Mem m (events_of (y ∷ l))) e (inl refl)
event-mem (x ∷ l) m (inr a) = on-event (Mem m) x (λ n. event-mem l m a) (λ y q. inr (event-mem l m a))
