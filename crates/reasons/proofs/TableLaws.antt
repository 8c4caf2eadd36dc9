-- Lists of words and tables, at each of their words.
use mathlib.Core.Path.{◌≡◌, refl, sym}
use mathlib.Core.Bool.{true, false, false≢true}
use mathlib.Core.List.{List, [], ◌∷◌}
use Prim.Native.Nat.{ℕ, ◌<◌}
use native.Mathlib.Omega.{arith}
use lib.ListN.{length}
use Rattle.std.specs.List.{list_any}
use Rattle.script_lex.specs.Words.{first, others, none, same}
use Rattle.script_lex.proofs.Cases.{either}
use Rattle.reasons.specs.Reasons.{listed, form_of}

pub fewer : (ws : List (List ℕ)) → none ws ≡ false → length (others ws) < length ws
unfolding none others
fewer [] e = absurd (false≢true (sym e))
fewer (w ∷ ws) e = omega arith

pub fewer-two : (ws : List (List ℕ)) → none ws ≡ false → length (others (others ws)) < length ws
unfolding none others
fewer-two [] e = absurd (false≢true (sym e))
fewer-two (w ∷ []) e = omega arith
fewer-two (w ∷ v ∷ ws) e = omega arith

pub listed-any : (ns : List (List ℕ)) (w : List ℕ) → listed ns w ≡ list_any (same w) ns
unfolding listed
listed-any [] w = refl
listed-any (n ∷ ns) w = either (same w n) (λ e. simp e) (λ e. simp e (listed-any ns w))

pub form-end : (rows : List (List ℕ)) (w : List ℕ) → none rows ≡ true → [] ≡ form_of rows w
unfolding none form_of
form-end [] w e = refl
form-end (n ∷ rows) w e = absurd (false≢true e)

pub form-here : (rows : List (List ℕ)) (w : List ℕ) → none rows ≡ false → same w (first rows) ≡ true → form_of rows w ≡ first (others rows)
unfolding none form_of first others
form-here [] w e s = absurd (false≢true (sym e))
form-here (n ∷ []) w e s = refl
form-here (n ∷ f ∷ rows) w e s = simp s

pub form-more : (rows : List (List ℕ)) (w : List ℕ) → none rows ≡ false → same w (first rows) ≡ false → form_of rows w ≡ form_of (others (others rows)) w
unfolding none form_of first others
form-more [] w e s = absurd (false≢true (sym e))
form-more (n ∷ []) w e s = refl
form-more (n ∷ f ∷ rows) w e s = simp s
