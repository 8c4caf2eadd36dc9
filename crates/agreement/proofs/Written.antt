-- Agreement after the table of objects is written: its records, their count, and nothing else.
use Prim.Native.Nat.{ℕ, zero, suc, ◌+◌, ◌*◌, ◌≤◌, ◌<◌}
use mathlib.Core.List.{List, [], ◌∷◌}
use mathlib.Core.Option.{Option, none, some}
use mathlib.Core.Path.{◌≡◌, refl, sym, ap, ◌∙◌, subst}
use native.Mathlib.Omega.{arith}
use native.Mathlib.Decide.{ℕ_discrete}
use lib.ListN.{get_or, set, length}
use lib.Seq.{get_or-set_other}
use Rattle.words.specs.Layout as at
use Rattle.model.specs.Table.{Rising}
use Rattle.model.specs.State.{State, Object}
use Rattle.model.specs.Waits.{key_of}
use Rattle.model.specs.Valid.{Each}
use Rattle.model.specs.Step.{with_table}
use Rattle.model.proofs.TableLaws.{some_same, none-some}
use Rattle.agreement_chains.specs.Chains.{Same}
use Rattle.agreement.specs.Row.{Row, Of}
use Rattle.agreement.specs.Shape.{ObjectFits}
use Rattle.agreement.specs.Agree.{objects_from, dpcs_from, header_of, Objects, Agreeing}
use Rattle.agreement.proofs.Frames.{header-word, threads-depend, waits-depend, queues-depend, waiters-depend, work-depends, dpcs-depend}
use Rattle.agreement.proofs.Headers.{threads-few, dpcs-few}
use Rattle.agreement.proofs.Places.{ready-cases, waiter-cases, queue-cases}

-- ---- one word of a row written, the others as before

set_says : (row : List (Option ℕ)) (k v n : ℕ) → get_or (set row k (some v)) k none ≡ some n → v ≡ n
set_says [] k v n e = absurd (none-some n e)
set_says (x ∷ xs) zero v n e = some_same v n e
set_says (x ∷ xs) (suc k) v n e = set_says xs k v n e

pub row_one : (w w' : List ℕ) (from : ℕ) (row : List (Option ℕ)) (k v : ℕ) → Row w from row → ((j : ℕ) → Of from row j → (j ≡ from + k → ⊥) → get_or w' j 0 ≡ get_or w j 0) → get_or w' (from + k) 0 ≡ v
    → Row w' from (set row k (some v))
row_one w w' from row k v a same own i n e = go (ℕ_discrete i k)
  where
    go : Dec (i ≡ k) → get_or w' (from + i) 0 ≡ n
    go (yes q) = ap (λ (m : ℕ). get_or w' (from + m) 0) q ∙ own ∙ set_says row k v n (subst (λ (m : ℕ). get_or (set row k (some v)) m none ≡ some n) q e)
    go (no q) =
        let old : get_or row i none ≡ some n = sym (get_or-set_other row k i (some v) none q) ∙ e in
        same (from + i) (record { word = i; holds = n; says = old; here = refl }) (λ z. q (omega arith)) ∙ a i n old

module _ (w : List ℕ) (s : State) (holder : ℕ → ℕ) (active : ℕ) (a : Agreeing w s holder active) where
  -- neither the count nor a record of an object
  pub record Elsewhere (j : ℕ) : Type 0 where
    pub no-count : j ≡ 4 → ⊥
    pub no-object : objects_from s.limits ≤ j → j < dpcs_from s.limits → ⊥

  pub sim-objects : (w' : List ℕ) (l : List Object) → length w' ≡ length w → Same Elsewhere w w' → get_or w' at.objects 0 ≡ length l → Objects w' (objects_from s.limits) l
      → length l ≤ s.limits.objects → Rising key_of l → Each key_of l ObjectFits → Agreeing w' (with_table s l) holder active
  sim-objects w' l len same count rows room rising bounded = record {
    enough = subst (λ (m : ℕ). at.header_size + at.thread_size * s.limits.threads + 32 * (s.limits.objects + s.limits.dpcs) ≤ m) (sym len) a.enough;
    numbers = row_one w w' 0 (header_of s active) 4 (length l) a.numbers
        (λ j o n. let h = header-word s active j o in same j (record { no-count = λ e. n (omega arith); no-object = λ x y. omega (arith, h.small) })) count;
    threads = threads-depend w w' s.dispatcher.threads (λ j f. front j (omega (arith, f.here, f.one)) (omega (arith, f.here, f.has.small, f.le, fit))) a.threads;
    waits = waits-depend w w' s.dispatcher.threads a.shape.fit (λ j f. front j (omega (arith, f.here, f.one)) (omega (arith, f.here, f.has.to, f.le, fit))) a.waits;
    queues = queues-depend w w' s.dispatcher.threads s.dispatcher.placed (threads-few w s holder active a) a.shape.ready_standing
        (λ j r. ready-cases (get_or w' j 0 ≡ get_or w j 0) n j r (λ e. front j (omega arith) (omega arith)) (λ x y. front j (omega arith) (omega arith))
        (λ l. front j (omega (arith, l.here)) (omega (arith, l.here, l.le, fit)))) a.queues;
    waiters = waiters-depend w w' n s.dispatcher.waiters (threads-few w s holder active a) a.shape.waiting_standing
        (λ j r. waiter-cases (get_or w' j 0 ≡ get_or w j 0) n j r (λ e. front j (omega arith) (omega arith)) (λ e. front j (omega arith) (omega arith))
        (λ l. front j (omega (arith, l.here)) (omega (arith, l.here, l.le, fit)))) a.waiters;
    objects = rows;
    dpcs = dpcs-depend w w' (dpcs_from s.limits) holder s.dpcs.table (λ j f. behind j (omega (arith, f.here))) a.dpcs;
    work = work-depends w w' (dpcs_from s.limits) s.dpcs.table s.dpcs.queue (dpcs-few w s holder active a) a.shape.dpcs
        (λ j r. queue-cases (get_or w' j 0 ≡ get_or w j 0) (dpcs_from s.limits) (length s.dpcs.table) j r (λ e. front j (omega arith) (omega arith)) (λ e. front j (omega arith) (omega arith))
        (λ l. behind j (omega (arith, l.here, l.one)))) a.work;
    shape = record {
      sizes = record { limits = a.shape.sizes.limits; threads_fit = a.shape.sizes.threads_fit; objects_fit = room; dpcs_fit = a.shape.sizes.dpcs_fit };
      fit = a.shape.fit;
      ready_standing = a.shape.ready_standing;
      waiting_standing = a.shape.waiting_standing;
      rising = rising;
      bounded = bounded;
      dpcs = a.shape.dpcs;
      counted = a.shape.counted;
    };
  }
    where
      n : ℕ
      n = length s.dispatcher.threads

      fit : length s.dispatcher.threads ≤ s.limits.threads
      fit = a.shape.sizes.threads_fit

      -- before the table of objects, and behind it
      front : (j : ℕ) → 5 ≤ j → j < at.header_size + at.thread_size * s.limits.threads → get_or w' j 0 ≡ get_or w j 0
      front j h k = same j (record { no-count = λ e. omega arith; no-object = λ x y. omega arith })

      behind : (j : ℕ) → at.header_size + at.thread_size * s.limits.threads + 32 * s.limits.objects ≤ j → get_or w' j 0 ≡ get_or w j 0
      behind j h = same j (record { no-count = λ e. omega arith; no-object = λ x y. omega arith })
