-- Words as they are shown, at each byte.
use mathlib.Core.Path.{◌≡◌, refl, sym, ap, ◌∙◌}
use mathlib.Core.List.{List, [], ◌∷◌}
use Prim.Native.Nat.{ℕ, suc, ◌+◌, ◌-◌, ◌≤◌, ◌<◌}
use native.Mathlib.Omega.{arith}
use lib.ListN.{length, get_or, take, drop}
use Rattle.std.specs.Prelude.{min}
use Rattle.std.proofs.lemmas.List.{drop_all, drop_more, take_min}
use Rattle.script_lex.specs.Words.{others}
use Rattle.script_print.specs.Print.{written, printed}
use Rattle.script_print.proofs.PrintLaws.{join}
use Rattle.reason_text.specs.Words.{visible, shown, skipped}

pub shown-end : (t : List ℕ) (at : ℕ) (bs : List ℕ) (i : ℕ) → length bs ≤ i → printed t at (shown (drop i bs)) ≡ written t at
unfolding printed shown
shown-end t at bs i h = simp (drop_all i bs h)

pub shown-more : (t : List ℕ) (at : ℕ) (bs : List ℕ) (i : ℕ) {t' : List ℕ} {at' : ℕ} → i < length bs
    → written t' at' ≡ printed t at (visible (get_or bs i 0) ∷ []) → printed t at (shown (drop i bs)) ≡ printed t' at' (shown (drop (i + 1) bs))
unfolding shown
shown-more t at bs i h e =
    ap (λ (xs : List ℕ). printed t at (shown xs)) (drop_more bs i 0 h) ∙ sym (join t at (visible (get_or bs i 0) ∷ []) (shown (drop (i + 1) bs)) e refl)

-- as much of a word as is shown
pub word-cut : (m : ℕ) (w : List ℕ) → m ≡ min 40 (length w) → take m w ≡ take 40 w
word-cut m w e = ap (λ (n : ℕ). take n w) e ∙ take_min 40 w

pub skip-none : (place i : ℕ) (ws : List (List ℕ)) → place ≤ i → ws ≡ skipped (place - i) ws
unfolding skipped
skip-none place i ws h = let e : 0 ≡ place - i = omega arith in ap (λ (n : ℕ). skipped n ws) e

pub skip-more : (place i : ℕ) (ws : List (List ℕ)) → i < place → skipped (place - i) ws ≡ skipped (place - (i + 1)) (others ws)
unfolding skipped
skip-more place i ws h = let e : place - i ≡ suc (place - (i + 1)) = omega arith in ap (λ (n : ℕ). skipped n ws) e
