-- The timers in a range marked and taken out of the table of objects: words that agree with the log without them.
use Prim.Native.Nat.{ℕ, ◌+◌, ◌*◌, ◌≤◌, ◌<◌}
use mathlib.Core.List.{List}
use mathlib.Core.Bool.{Bool, true, false, cond, not}
use mathlib.Core.Path.{◌≡◌, refl, sym, ap, ap₂, ◌∙◌, subst}
use native.Mathlib.Omega.{arith}
use borrow.Author.Tests.{le-leb}
use lib.Dec.{eqb, leb}
use lib.ListN.{get_or, set, length, length-set}
use Rattle.words.specs.Layout as at
use Rattle.tables.specs.Compact.{compacted, compacted_to}
use Rattle.objects.specs.Objects.{objects_base, object_count}
use Rattle.timers.specs.Record.{is_timer, size_at, each_in}
use Rattle.timers.specs.Release.{timer_stands, timer_marked, timers_marked, timers_closed}
use Rattle.model.specs.Lists.{keep}
use Rattle.model.specs.State.{State, Object, mutex, event, timer}
use Rattle.model.specs.Waits.{key_of, kind_of}
use Rattle.model.specs.Step.{with_table, is_retired_timer}
use Rattle.model.proofs.ListLaws.{length-keep, mem-keep}
use Rattle.model.proofs.TableLaws.{rising-keep, each_keep}
use Rattle.agreement_chains.specs.Chains.{Same}
use Rattle.agreement_tables.specs.Tables as tables
use Rattle.agreement_tables.proofs.Lists.{nth-mem}
use Rattle.agreement_tables.proofs.Moves.{read-other}
use Rattle.agreement_tables.proofs.Compacts.{Marked, length-compacted, compacted-outside, taken-holds, taken-count}
use Rattle.agreement.specs.Row.{Row}
use Rattle.agreement.specs.Records.{object_row}
use Rattle.agreement.specs.Shape.{ObjectFits}
use Rattle.agreement.specs.Agree.{objects_from, Objects, Agreeing}
use Rattle.agreement.proofs.Places.{objects-place}
use Rattle.agreement.proofs.Headers.{objects-few}
use Rattle.agreement.proofs.Lookups.{base-is, object-count-is, object-kinds}
use Rattle.agreement.proofs.Written.{Elsewhere, sim-objects}
use Rattle.agreement_release.proofs.Marks.{marked, Marks, Own, marks-all}
use Rattle.agreement_release.proofs.Stays.{stays-holds, marked-are}
use Rattle.agreement_release.proofs.Events.{objects-local}
use Rattle.agreement_release.proofs.TimerRefusal.{timer-stands-is}

module _ (w : List ℕ) (s : State) (holder : ℕ → ℕ) (active : ℕ) (a : Agreeing w s holder active) (address size : ℕ) where
  abbrev test : List ℕ → ℕ → Bool
  test = λ v p. timer_stands v p address size

  abbrev f : Object → Bool
  f = λ o. not (is_retired_timer address size o)

  abbrev xs : List Object
  xs = s.dispatcher.objects

  abbrev base : ℕ
  base = objects_from s.limits

  low : base ≤ 1000000
  low = omega (arith, a.shape.sizes.limits.threads)

  few : length xs ≤ 4096
  few = objects-few w s holder active a

  long : base + 32 * length xs ≤ length w
  long = omega (arith, a.enough, a.shape.sizes.objects_fit)

  own : Own test
  unfolding timer_stands is_timer size_at
  own v v' p c = simp (c 0 (omega arith) tt, c 1 (omega arith) tt, c 12 (omega arith) tt)

  -- ---- marked

  w₁ : List ℕ
  w₁ = timers_marked w address size

  marks₁ : Marks test base w w₁ 0 (length xs)
  unfolding w₁ timers_marked timer_marked
  marks₁ = subst (λ (v : List ℕ). Marks test base w v 0 (length xs))
      (sym (ap₂ (λ (m b : ℕ). each_in m (marked test) w b 0) (object-count-is w s holder active a) (base-is w s holder active a)))
      (marks-all test own base low (length xs) w few long)

  tells : tables.Holds (λ v p (x : Object). test v p ≡ not (f x)) w base xs
  tells i x e = timer-stands-is w (base + 32 * i) address size x (a.objects i x e) ∙ twice (is_retired_timer address size x)
    where
      twice : (b : Bool) → b ≡ not (not b)
      twice true = refl
      twice false = refl

  -- the row of an object that stays
  abbrev Stay : List ℕ → ℕ → Object → Type 0
  Stay v p x = f x ≡ true → Row v p (object_row x)

  stay-local : tables.Local tables.Whole Stay
  stay-local v v' p q x c h t = objects-local v v' p q x c (h t)

  rows₁ : tables.Holds Stay w₁ base xs
  rows₁ = stays-holds test base f w w₁ xs marks₁ tells (λ v p (x : Object). Row v p (object_row x)) objects-local a.objects

  are₁ : tables.Holds (Marked f 1 9) w₁ base xs
  are₁ = marked-are test base f w w₁ xs marks₁ tells kind_of by (object-kinds w s holder active a)
    where
      by : (x : Object) → eqb (kind_of x) 9 ≡ false
      by (mutex m) = refl
      by (event v) = refl
      by (timer t) = refl

  len₁ : length w₁ ≡ length w
  len₁ = marks₁.size

  -- words before the table stay
  front₁ : (j : ℕ) → j < at.header_size → get_or w₁ j 0 ≡ get_or w j 0
  front₁ j h = marks₁.others j (λ t x y e. omega arith)

  base₁ : objects_base w₁ ≡ base
  unfolding objects_base
  base₁ = ap at.objects_at (front₁ 0 (omega arith) ∙ a.numbers at.thread_limit s.limits.threads refl) ∙ objects-place s.limits.threads a.shape.sizes.limits.threads

  count₁ : object_count w₁ ≡ length xs
  unfolding object_count
  count₁ =
      ap (λ (m : ℕ). cond (leb m 4096) m 4096) (front₁ 4 (omega arith) ∙ a.numbers at.objects (length xs) refl)
      ∙ ap (λ (b : Bool). cond b (length xs) 4096) (le-leb (length xs) 4096 few)

  -- ---- taken out

  closed_is : timers_closed w₁ ≡ set (compacted w₁ base (length xs) 1 9) 4 (compacted_to w₁ base (length xs) 1 9)
  unfolding timers_closed
  closed_is = ap₂ (λ (b m : ℕ). set (compacted w₁ b m 1 9) 4 (compacted_to w₁ b m 1 9)) base₁ count₁

  w₂ : List ℕ
  w₂ = set (compacted w₁ base (length xs) 1 9) 4 (compacted_to w₁ base (length xs) 1 9)

  len₂ : length w₂ ≡ length w
  unfolding w₂
  len₂ = length-set (compacted w₁ base (length xs) 1 9) 4 (compacted_to w₁ base (length xs) 1 9) ∙ length-compacted w₁ base (length xs) 1 9 ∙ len₁

  elsewhere₂ : Same (Elsewhere w s holder active a) w w₂
  unfolding w₂
  elsewhere₂ j e =
      read-other (compacted w₁ base (length xs) 1 9) 4 j (compacted_to w₁ base (length xs) 1 9) e.no-count
      ∙ compacted-outside (Elsewhere w s holder active a) w₁ base (length xs) 1 9 low (λ p x y q. q.no-object x (omega (arith, a.shape.sizes.objects_fit))) j e
      ∙ marks₁.others j (λ t x y z. e.no-object (omega arith) (omega (arith, a.shape.sizes.objects_fit)))

  objects₂ : Objects w₂ base (keep f xs)
  unfolding w₂
  objects₂ i x e =
      taken-holds tables.Whole Stay stay-local f 1 9 (omega arith) base low w₁ (length xs) xs refl few (omega (arith, len₁, long)) rows₁ are₁ 4 (omega arith) i x e
      (mem-keep f x xs (nth-mem (keep f xs) i x e)).1

  count₂ : get_or w₂ at.objects 0 ≡ length (keep f xs)
  unfolding w₂
  count₂ = taken-count tables.Whole Stay stay-local f 1 9 (omega arith) base low w₁ (length xs) xs refl few (omega (arith, len₁, long)) rows₁ are₁ 4 (omega arith) (omega (arith, len₁, long))

  pub sim-timers-closed : Agreeing (timers_closed (timers_marked w address size)) (with_table s (keep (λ o. not (is_retired_timer address size o)) s.dispatcher.objects)) holder active
  unfolding w₁ w₂
  sim-timers-closed = subst (λ (v : List ℕ). Agreeing v (with_table s (keep f xs)) holder active) (sym closed_is)
      (sim-objects w s holder active a w₂ (keep f xs) len₂ elsewhere₂ count₂ objects₂ (omega (arith, length-keep f xs, a.shape.sizes.objects_fit))
      (rising-keep key_of f xs a.shape.rising) (each_keep key_of ObjectFits f xs a.shape.rising a.shape.bounded))
