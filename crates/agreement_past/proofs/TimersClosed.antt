-- Timers in a range taken out of the table of objects.
use Prim.Native.Nat.{ℕ, ◌+◌, ◌*◌, ◌≤◌, ◌<◌}
use mathlib.Core.List.{List}
use mathlib.Core.Bool.{Bool, cond, not}
use mathlib.Core.Path.{◌≡◌, refl, sym, ap, ap₂, ◌∙◌, subst}
use native.Mathlib.Omega.{arith}
use borrow.Author.Tests.{le-leb}
use lib.Dec.{leb}
use lib.ListN.{get_or, set, length}
use Rattle.words.specs.Layout as at
use Rattle.tables.specs.Compact.{compacted, compacted_to}
use Rattle.objects.specs.Objects.{objects_base, object_count}
use Rattle.timers.specs.Record.{is_timer, size_at, each_in}
use Rattle.timers.specs.Release.{timer_stands, timer_marked, timers_marked, timers_closed}
use Rattle.model.specs.State.{State, Object}
use Rattle.model.specs.Step.{is_retired_timer}
use Rattle.agreement_chains.specs.Chains.{Same}
use Rattle.agreement_tables.proofs.Moves.{read-other}
use Rattle.agreement_tables.proofs.Compacts.{compacted-outside}
use Rattle.agreement.specs.Agree.{objects_from, Agreeing}
use Rattle.agreement.proofs.Places.{objects-place}
use Rattle.agreement.proofs.Headers.{objects-few}
use Rattle.agreement.proofs.Lookups.{base-is, object-count-is}
use Rattle.agreement_release.proofs.Marks.{marked, Marks, Own, marks-all}
use Rattle.agreement_past.specs.Past.{Beyond}

module _ (w : List ℕ) (s : State) (holder : ℕ → ℕ) (active : ℕ) (a : Agreeing w s holder active) (address size : ℕ) where
  abbrev test : List ℕ → ℕ → Bool
  test = λ v p. timer_stands v p address size

  abbrev f : Object → Bool
  f = λ o. not (is_retired_timer address size o)

  abbrev xs : List Object
  xs = s.dispatcher.objects

  abbrev base : ℕ
  base = objects_from s.limits

  low : base ≤ 1000000
  low = omega (arith, a.shape.sizes.limits.threads)

  few : length xs ≤ 4096
  few = objects-few w s holder active a

  long : base + 32 * length xs ≤ length w
  long = omega (arith, a.enough, a.shape.sizes.objects_fit)

  own : Own test
  unfolding timer_stands is_timer size_at
  own v v' p c = simp (c 0 (omega arith) tt, c 1 (omega arith) tt, c 12 (omega arith) tt)

  -- ---- marked

  w₁ : List ℕ
  w₁ = timers_marked w address size

  marks₁ : Marks test base w w₁ 0 (length xs)
  unfolding w₁ timers_marked timer_marked
  marks₁ = subst (λ (v : List ℕ). Marks test base w v 0 (length xs))
      (sym (ap₂ (λ (m b : ℕ). each_in m (marked test) w b 0) (object-count-is w s holder active a) (base-is w s holder active a)))
      (marks-all test own base low (length xs) w few long)

  len₁ : length w₁ ≡ length w
  len₁ = marks₁.size

  -- words before the table stay
  front₁ : (j : ℕ) → j < at.header_size → get_or w₁ j 0 ≡ get_or w j 0
  front₁ j h = marks₁.others j (λ t x y e. omega arith)

  base₁ : objects_base w₁ ≡ base
  unfolding objects_base
  base₁ = ap at.objects_at (front₁ 0 (omega arith) ∙ a.numbers at.thread_limit s.limits.threads refl) ∙ objects-place s.limits.threads a.shape.sizes.limits.threads

  count₁ : object_count w₁ ≡ length xs
  unfolding object_count
  count₁ =
      ap (λ (m : ℕ). cond (leb m 4096) m 4096) (front₁ 4 (omega arith) ∙ a.numbers at.objects (length xs) refl)
      ∙ ap (λ (b : Bool). cond b (length xs) 4096) (le-leb (length xs) 4096 few)

  -- ---- taken out

  closed_is : timers_closed w₁ ≡ set (compacted w₁ base (length xs) 1 9) 4 (compacted_to w₁ base (length xs) 1 9)
  unfolding timers_closed
  closed_is = ap₂ (λ (b m : ℕ). set (compacted w₁ b m 1 9) 4 (compacted_to w₁ b m 1 9)) base₁ count₁

  w₂ : List ℕ
  w₂ = set (compacted w₁ base (length xs) 1 9) 4 (compacted_to w₁ base (length xs) 1 9)

  pub timers-closed-kept : Same (Beyond s.limits) w (timers_closed (timers_marked w address size))
  unfolding w₁ w₂
  timers-closed-kept j r =
      ap (λ (v : List ℕ). get_or v j 0) closed_is
      ∙ read-other (compacted w₁ base (length xs) 1 9) 4 j (compacted_to w₁ base (length xs) 1 9) (λ e. omega arith)
      ∙ compacted-outside (Beyond s.limits) w₁ base (length xs) 1 9 low (λ p x y q. omega (arith, a.shape.sizes.objects_fit)) j r
      ∙ marks₁.others j (λ t x y z. omega (arith, a.shape.sizes.objects_fit))
