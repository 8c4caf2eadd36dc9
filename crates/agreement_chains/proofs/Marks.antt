-- The ready word: what `marked` and `unmarked` write, and which bit.
use Prim.Native.Nat.{ℕ, zero, suc, ◌^◌, ◌≤◌, ◌<◌}
use mathlib.Core.List.{List}
use mathlib.Core.Bool.{Bool, true, false, cond}
use mathlib.Core.Path.{◌≡◌, refl, sym, ap, ◌∙◌, subst}
use native.Mathlib.Omega.{arith}
use native.Mathlib.Decide.{ℕ_discrete}
use borrow.Author.Tests.{eq-eqb, ne_eqb}
use lib.Dec.{eqb}
use lib.ListN.{get_or, set, length, length-set}
use Rattle.words.specs.Word.{with_bit, without_bit, bit_at}
use Rattle.words.specs.Layout as at
use Rattle.words.proofs.ReadyWord.{with-same, with-other, with-lt, without-same, without_other, without-lt}
use Rattle.chains.specs.Chain.{removed}
use Rattle.chains.specs.Ready.{ready_chain, marked, unmarked, placed_last, unplaced}
use Rattle.agreement_chains.specs.Ready.{some_one}
use Rattle.agreement_chains.proofs.Frames.{read-other, read_same, length-pushed, length_removed}

pub some_one_lem : (n : ℕ) → 1 ≤ n → some_one n ≡ 1
some_one_lem zero h = omega arith
some_one_lem (suc n) h = refl

pub marked_other : (w : List ℕ) (p j : ℕ) → (j ≡ at.ready → ⊥) → get_or (marked w p) j 0 ≡ get_or w j 0
unfolding marked
marked_other w p j n = go (eqb (get_or w (ready_chain p).last 0) 0)
  where
    go : (b : Bool) → get_or (cond b (set w at.ready (with_bit (get_or w at.ready 0) p)) w) j 0 ≡ get_or w j 0
    go true = read-other w at.ready j (with_bit (get_or w at.ready 0) p) n
    go false = refl

pub unmarked-other : (w : List ℕ) (p j : ℕ) → (j ≡ at.ready → ⊥) → get_or (unmarked w p) j 0 ≡ get_or w j 0
unfolding unmarked
unmarked-other w p j n = go (eqb (get_or w (ready_chain p).last 0) 0)
  where
    go : (b : Bool) → get_or (cond b (set w at.ready (without_bit (get_or w at.ready 0) p)) w) j 0 ≡ get_or w j 0
    go true = read-other w at.ready j (without_bit (get_or w at.ready 0) p) n
    go false = refl

pub length_marked : (w : List ℕ) (p : ℕ) → length (marked w p) ≡ length w
unfolding marked
length_marked w p = go (eqb (get_or w (ready_chain p).last 0) 0)
  where
    go : (b : Bool) → length (cond b (set w at.ready (with_bit (get_or w at.ready 0) p)) w) ≡ length w
    go true = length-set w at.ready (with_bit (get_or w at.ready 0) p)
    go false = refl

pub length-unmarked : (w : List ℕ) (p : ℕ) → length (unmarked w p) ≡ length w
unfolding unmarked
length-unmarked w p = go (eqb (get_or w (ready_chain p).last 0) 0)
  where
    go : (b : Bool) → length (cond b (set w at.ready (without_bit (get_or w at.ready 0) p)) w) ≡ length w
    go true = length-set w at.ready (without_bit (get_or w at.ready 0) p)
    go false = refl

pub length-placed : (w : List ℕ) (p id : ℕ) → length (placed_last w p id) ≡ length w
unfolding placed_last
length-placed w p id = length-pushed (marked w p) (ready_chain p) id ∙ length_marked w p

pub length-unplaced : (w : List ℕ) (p id : ℕ) → length (unplaced w p id) ≡ length w
unfolding unplaced
length-unplaced w p id = length-unmarked (removed w (ready_chain p) id) p ∙ length_removed w (ready_chain p) id

-- a word with bit `p` as said, and every other as in `m`
pub record Word (m p bit m' : ℕ) : Type 0 where
  pub small : m' < 2 ^ 32
  pub own : bit_at m' p ≡ bit
  pub others : (q : ℕ) → q ≤ 31 → (q ≡ p → ⊥) → bit_at m' q ≡ bit_at m q

-- bit `p` tells whether the queue had a last thread before, or has one after
pub marked-word : (w : List ℕ) (p : ℕ) → p ≤ 31 → at.ready < length w → get_or w at.ready 0 < 2 ^ 32
    → bit_at (get_or w at.ready 0) p ≡ some_one (get_or w (ready_chain p).last 0) → Word (get_or w at.ready 0) p 1 (get_or (marked w p) at.ready 0)
unfolding marked
marked-word w p hp inside small bit = go (ℕ_discrete (get_or w (ready_chain p).last 0) 0)
  where
    m : ℕ
    m = get_or w at.ready 0

    pick : Bool → ℕ
    pick b = get_or (cond b (set w at.ready (with_bit m p)) w) at.ready 0

    go : Dec (get_or w (ready_chain p).last 0 ≡ 0) → Word m p 1 (pick (eqb (get_or w (ready_chain p).last 0) 0))
    go (yes e) = subst (Word m p 1) (sym (ap pick (eq-eqb (get_or w (ready_chain p).last 0) 0 e) ∙ read_same w at.ready (with_bit m p) inside))
        (record { small = with-lt m p hp small; own = with-same m p hp; others = λ q k ne. with-other m p q hp ne })
    go (no n) = subst (Word m p 1) (sym (ap pick (ne_eqb (get_or w (ready_chain p).last 0) 0 n)))
        (record { small = small; own = bit ∙ some_one_lem (get_or w (ready_chain p).last 0) (omega (arith, n)); others = λ q k ne. refl })

pub unmarked-word : (w : List ℕ) (p : ℕ) → p ≤ 31 → at.ready < length w → get_or w at.ready 0 < 2 ^ 32
    → bit_at (get_or w at.ready 0) p ≡ 1 → Word (get_or w at.ready 0) p (some_one (get_or w (ready_chain p).last 0)) (get_or (unmarked w p) at.ready 0)
unfolding unmarked
unmarked-word w p hp inside small bit = go (ℕ_discrete (get_or w (ready_chain p).last 0) 0)
  where
    m : ℕ
    m = get_or w at.ready 0

    end : ℕ
    end = get_or w (ready_chain p).last 0

    pick : Bool → ℕ
    pick b = get_or (cond b (set w at.ready (without_bit m p)) w) at.ready 0

    go : Dec (get_or w (ready_chain p).last 0 ≡ 0) → Word m p (some_one end) (pick (eqb (get_or w (ready_chain p).last 0) 0))
    go (yes e) = subst (Word m p (some_one end)) (sym (ap pick (eq-eqb (get_or w (ready_chain p).last 0) 0 e) ∙ read_same w at.ready (without_bit m p) inside))
        (record { small = without-lt m p small; own = without-same m p hp ∙ sym (ap some_one e); others = λ q k ne. without_other m p q hp k ne })
    go (no n) = subst (Word m p (some_one end)) (sym (ap pick (ne_eqb (get_or w (ready_chain p).last 0) 0 n)))
        (record { small = small; own = bit ∙ sym (some_one_lem end (omega (arith, n))); others = λ q k ne. refl })
