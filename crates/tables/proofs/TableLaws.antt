-- The laws of the search and of moving words, as the code counts.
use Prim.Native.Nat.{ℕ, zero, suc, ◌+◌, ◌-◌, ◌*◌, ◌/◌, ◌≤◌, ◌<◌}
use native.Mathlib.Omega.{arith}
use mathlib.Core.List.{List}
use mathlib.Core.Bool.{Bool, cond, true, false}
use mathlib.Core.Path.{◌≡◌, ◌∙◌, refl, sym, ap}
use native.Mathlib.Decide.{ℕ_discrete, dec_le, dec_lt}
use lib.ListN.{get_or, set, length, length-set}
use lib.Seq.{get_or-set_same, get_or-set_other}
use Rattle.std.proofs.lemmas.List.{ext_get_or}
use lib.Dec.{ltb}
use borrow.Author.Tests.{eq-eqb, ne_eqb, le-leb}
use Rattle.words.specs.Layout.{entry_at}
use Rattle.tables.specs.declared.Part.{Part}
use Rattle.tables.specs.Table.{key_at, narrowed, searched_in, raised}

less_one : (k : ℕ) → suc k - 1 ≡ k
less_one k = omega arith

pub search-none : (k : ℕ) (w : List ℕ) (base key : ℕ) (p : Part) → k ≤ 0 → searched_in k w base key p ≡ p.from
unfolding searched_in
search-none zero w base key p h = refl
search-none (suc k) w base key p h = omega arith

pub search-found : (k : ℕ) (w : List ℕ) (base key : ℕ) (p : Part) → p.size ≡ 0 → searched_in k w base key p ≡ p.from
unfolding searched_in
search-found zero w base key p e = refl
search-found (suc k) w base key p e = simp (eq-eqb _ _ e)

search-step : (k : ℕ) (w : List ℕ) (base key : ℕ) (p : Part) → 0 < k → (p.size ≡ 0 → ⊥)
    → searched_in k w base key p ≡ searched_in (k - 1) w base key (narrowed w base key p)
unfolding searched_in
search-step zero w base key p h n = omega arith
search-step (suc k) w base key p h n = simp (ne_eqb _ _ n, less_one k)

-- a step that counts up
pub search-more : (n i : ℕ) (w : List ℕ) (base key : ℕ) (p q : Part) → i < n → (p.size ≡ 0 → ⊥) → q ≡ narrowed w base key p
    → searched_in (n - (i + 1)) w base key q ≡ searched_in (n - i) w base key p
search-more n i w base key p q h s e =
    let left : n - (i + 1) ≡ n - i - 1 = omega arith in
    rw (left, e) (sym (search-step (n - i) w base key p (omega arith) s))

-- where a part ends
abbrev pub ends : Part → ℕ
ends p = p.from + p.size

-- a step stays within the part
pub narrowed-within : (w : List ℕ) (base key : ℕ) (p : Part) → 0 < p.size → ends (narrowed w base key p) ≤ ends p
unfolding narrowed
narrowed-within w base key p h = go (ltb (key_at w base (p.from + p.size / 2)) key)
  where
    upper : Part
    upper = record { from = p.from + p.size / 2 + 1; size = p.size - (p.size / 2 + 1) }

    lower : Part
    lower = record { from = p.from; size = p.size / 2 }

    go : (b : Bool) → ends (cond b upper lower) ≤ ends p
    go true = omega arith
    go false = omega arith

-- ---- the words before a place moved up by a record

length-raised : (m : ℕ) (w : List ℕ) (end : ℕ) → length (raised m w end) ≡ length w
unfolding raised
length-raised zero w end = refl
length-raised (suc m) w end = length-raised m (set w (end - 1 + 32) (get_or w (end - 1) 0)) (end - 1) ∙ length-set w (end - 1 + 32) (get_or w (end - 1) 0)

raised-out : (m : ℕ) (w : List ℕ) (end j : ℕ) → m ≤ end → (end + 32 ≤ j + m → j < end + 32 → ⊥) → get_or (raised m w end) j 0 ≡ get_or w j 0
unfolding raised
raised-out zero w end j h far = refl
raised-out (suc m) w end j h far =
    raised-out m (set w (end - 1 + 32) (get_or w (end - 1) 0)) (end - 1) j (omega arith) (λ a b. far (omega arith) (omega arith))
    ∙ get_or-set_other w (end - 1 + 32) j (get_or w (end - 1) 0) 0 (λ e. far (omega arith) (omega arith))

raised-in : (m : ℕ) (w : List ℕ) (end j : ℕ) → m ≤ end → j < length w → end + 32 ≤ j + m → j < end + 32 → get_or (raised m w end) j 0 ≡ get_or w (j - 32) 0
unfolding raised
raised-in zero w end j h k lo hi = absurd (omega arith)
raised-in (suc m) w end j h k lo hi = go (ℕ_discrete j (end - 1 + 32)) (λ n.
    raised-in m (set w (end - 1 + 32) (get_or w (end - 1) 0)) (end - 1) j (omega arith) (omega (arith, length-set w (end - 1 + 32) (get_or w (end - 1) 0))) (omega arith) (omega (arith, n)))
  where
    w₁ : List ℕ
    w₁ = set w (end - 1 + 32) (get_or w (end - 1) 0)

    go : Dec (j ≡ end - 1 + 32) → ((j ≡ end - 1 + 32 → ⊥) → get_or (raised m w₁ (end - 1)) j 0 ≡ get_or w₁ (j - 32) 0) → get_or (raised m w₁ (end - 1)) j 0 ≡ get_or w (j - 32) 0
    go (yes e) ih =
        let last : end - 1 ≡ j - 32 = omega arith in
        raised-out m w₁ (end - 1) j (omega arith) (λ a b. omega arith)
        ∙ ap (λ (i : ℕ). get_or w₁ i 0) e ∙ get_or-set_same w (end - 1 + 32) (get_or w (end - 1) 0) 0 (omega arith) ∙ ap (λ (i : ℕ). get_or w i 0) last
    go (no n) ih = ih n ∙ get_or-set_other w (end - 1 + 32) (j - 32) (get_or w (end - 1) 0) 0 (λ e. omega arith)

-- words that are so at each place
pub raised-is : (m : ℕ) (w ys : List ℕ) (end : ℕ) → m ≤ end → length ys ≡ length w
    → ((j : ℕ) → j < length w → end + 32 ≤ j + m → j < end + 32 → get_or ys j 0 ≡ get_or w (j - 32) 0)
    → ((j : ℕ) → j < length w → (end + 32 ≤ j + m → j < end + 32 → ⊥) → get_or ys j 0 ≡ get_or w j 0)
    → ys ≡ raised m w end
raised-is m w ys end h e inside outside =
    ext_get_or 0 ys (raised m w end) (e ∙ sym (length-raised m w end)) (λ j k. go j (omega arith) (dec_le (end + 32) (j + m)) (dec_lt j (end + 32)))
  where
    go : (j : ℕ) → j < length w → Dec (end + 32 ≤ j + m) → Dec (j < end + 32) → get_or ys j 0 ≡ get_or (raised m w end) j 0
    go j k (yes a) (yes b) = inside j k a b ∙ sym (raised-in m w end j h k a b)
    go j k (no a) b = let far = λ (x : end + 32 ≤ j + m) (y : j < end + 32). a x in outside j k far ∙ sym (raised-out m w end j h far)
    go j k a (no b) = let far = λ (x : end + 32 ≤ j + m) (y : j < end + 32). b y in outside j k far ∙ sym (raised-out m w end j h far)

pub entry-is : (base i : ℕ) → base ≤ 1000000 → i ≤ 8192 → entry_at base i ≡ base + 32 * i
unfolding entry_at
entry-is base i h k = simp (le-leb _ _ h, le-leb _ _ k)
