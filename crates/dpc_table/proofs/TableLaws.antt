-- The laws of renumbering, as the code counts.
use Prim.Native.Nat.{ℕ, zero, suc, ◌+◌, ◌-◌, ◌≤◌, ◌<◌}
use native.Mathlib.Omega.{arith}
use mathlib.Core.List.{List}
use mathlib.Core.Bool.{Bool, cond, true, false}
use mathlib.Core.Path.{◌≡◌, refl}
use lib.ListN.{get_or}
use lib.Dec.{eqb}
use borrow.Author.Tests.{eq-eqb, ne_eqb}
use Rattle.words.specs.Layout as at
use Rattle.words.specs.Layout.{entry_at}
use Rattle.chains.specs.declared.Chain.{Chain}
use Rattle.chains.specs.Chain.{next_of}
use Rattle.dpc_table.specs.Table.{number_put, number_to, numbered_in, link_renewed, links_renewed_in}

less_one : (k : ℕ) → suc k - 1 ≡ k
less_one k = omega arith

pub number-most : (w : List ℕ) (place last : ℕ) → number_to w place last ≤ last + 1
unfolding number_to
number-most w place last = go (eqb (get_or w (place + at.phase) 0) 9)
  where
    go : (b : Bool) → cond b last (last + 1) ≤ last + 1
    go true = omega arith
    go false = omega arith

pub numbered-none : (m : ℕ) (w : List ℕ) (base i last : ℕ) → m ≤ 0 → numbered_in m w base i last ≡ w
unfolding numbered_in
numbered-none zero w base i last h = refl
numbered-none (suc m) w base i last h = absurd (omega arith)

pub numbered_more : (m : ℕ) (w : List ℕ) (base i last : ℕ) → 0 < m
    → numbered_in m w base i last ≡ numbered_in (m - 1) (number_put w (entry_at base i) last) base (i + 1) (number_to w (entry_at base i) last)
unfolding numbered_in
numbered_more zero w base i last h = absurd (omega arith)
numbered_more (suc m) w base i last h = simp (less_one m)

pub renewed-none : (m : ℕ) (w : List ℕ) (c : Chain) (before : ℕ) → m ≤ 0 → links_renewed_in m w c before ≡ w
unfolding links_renewed_in
renewed-none zero w c before h = refl
renewed-none (suc m) w c before h = absurd (omega arith)

pub renewed-stop : (m : ℕ) (w : List ℕ) (c : Chain) (before : ℕ) → 0 < m → next_of w c before ≡ 0
    → links_renewed_in m w c before ≡ link_renewed w c before
unfolding links_renewed_in
renewed-stop zero w c before h e = absurd (omega arith)
renewed-stop (suc m) w c before h e = simp (eq-eqb _ _ e)

pub renewed-more : (m : ℕ) (w : List ℕ) (c : Chain) (before : ℕ) → 0 < m → (next_of w c before ≡ 0 → ⊥)
    → links_renewed_in m w c before ≡ links_renewed_in (m - 1) (link_renewed w c before) c (next_of w c before)
unfolding links_renewed_in
renewed-more zero w c before h n = absurd (omega arith)
renewed-more (suc m) w c before h n = simp (ne_eqb _ _ n, less_one m)
