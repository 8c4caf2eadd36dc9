-- The refusal along a list, as the code walks it.
use Rattle.std.proofs.Common.{◌≡◌, ℕ, ◌+◌, ◌<◌, ◌≤◌, cond, eqb, List, length, get_or, drop, sym, ap, ◌∙◌, add-one, drop_of_length-le, drop-cons}
use Rattle.words.specs.Layout.{entry_at}
use Rattle.expiry.specs.declared.check.Counts.{Counts}
use Rattle.expiry.specs.Check.{one_refusal, counted_after, refusal_in}

-- the place of the timer at place `i` of the list
abbrev pub timer_at : ℕ → List ℕ → ℕ → ℕ
timer_at base list i = entry_at base (get_or list i 0)

pub refusal_end : (w : List ℕ) (base : ℕ) (list : List ℕ) (i time : ℕ) (c : Counts) → length list ≤ i → refusal_in w base (drop i list) time c ≡ 0
unfolding refusal_in
refusal_end w base list i time c h = ap (λ (l : List ℕ). refusal_in w base l time c) (drop_of_length-le list h)

pub refusal_next : (w : List ℕ) (base : ℕ) (list : List ℕ) (i time : ℕ) (c : Counts) → i < length list
    → refusal_in w base (drop i list) time c ≡ cond (eqb (one_refusal w (timer_at base list i) time c) 0) (refusal_in w base (drop (i + 1) list) time (counted_after w (timer_at base list i) c)) (one_refusal w (timer_at base list i) time c)
unfolding refusal_in
refusal_next w base list i time c h =
    ap (λ (l : List ℕ). refusal_in w base l time c) (drop-cons list i 0 h)
    ∙ ap (λ (k : ℕ). cond (eqb (one_refusal w (timer_at base list i) time c) 0) (refusal_in w base (drop k list) time (counted_after w (timer_at base list i) c)) (one_refusal w (timer_at base list i) time c)) (sym (add-one i))
