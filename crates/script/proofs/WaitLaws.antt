-- The pairs of a wait, at each of their words.
use mathlib.Core.Path.{◌≡◌, refl, sym}
use mathlib.Core.Bool.{true, false, false≢true}
use mathlib.Core.List.{List, [], ◌∷◌}
use Prim.Native.Nat.{ℕ, ◌+◌, ◌≤◌, ◌<◌}
use borrow.Author.Tests.{lt-ltb, le-ltb}
use lib.ListN.{length, set}
use Rattle.std.specs.Prelude.{Some, None}
use Rattle.script_lex.specs.Words.{first, others, none}
use Rattle.script.specs.Wait.{item_of, paired, is_read, told, pairs_of}

pub pairs_end : (ws : List (List ℕ)) (i : ℕ) (l : List ℕ) → none ws ≡ true → pairs_of ws i l ≡ paired (Some i) l
unfolding none pairs_of
pairs_end [] i l e = refl
pairs_end (w ∷ ws) i l e = absurd (false≢true e)

pub pairs-full : (ws : List (List ℕ)) (i : ℕ) (l : List ℕ) → none ws ≡ false → length l ≤ i → pairs_of ws i l ≡ paired None l
unfolding none pairs_of
pairs-full [] i l e h = absurd (false≢true (sym e))
pairs-full (w ∷ ws) i l e h = simp (le-ltb _ _ h)

pub pairs-stop : (ws : List (List ℕ)) (i : ℕ) (l : List ℕ) → none ws ≡ false → i < length l → item_of i (first ws) ≡ None → pairs_of ws i l ≡ paired None l
unfolding none pairs_of is_read first
pairs-stop [] i l e h u = absurd (false≢true (sym e))
pairs-stop (w ∷ ws) i l e h u = simp (lt-ltb _ _ h, u)

pub pairs-more : (ws : List (List ℕ)) (i : ℕ) (l : List ℕ) (n : ℕ) → none ws ≡ false → i < length l → item_of i (first ws) ≡ Some n → pairs_of ws i l ≡ pairs_of (others ws) (i + 1) (set l i n)
unfolding none pairs_of is_read told first others
pairs-more [] i l n e h u = absurd (false≢true (sym e))
pairs-more (w ∷ ws) i l n e h u = simp (lt-ltb _ _ h, u)
