-- The due timers, as the code counts.
use Rattle.std.proofs.Common.{◌≡◌, ℕ, zero, suc, ◌+◌, ◌-◌, ◌<◌, ◌≤◌, Bool, true, false, cond, List, [], ◌∷◌, ◌++◌, length, take, set, sym, refl, ap, ◌∙◌, append_assoc, append-nil, add-one, arith, take-suc-set}
use Rattle.words.specs.Layout.{entry_at}
use Rattle.expiry.specs.Due.{is_due, due_in, any_in, noted, noted_to}

less_one : (k : ℕ) → suc k - 1 ≡ k
less_one k = omega arith

-- ---- whether there is one

-- none is due: the list is empty
pub none-due : (m : ℕ) (w : List ℕ) (base i time : ℕ) → any_in m w base i time ≡ false → due_in m w base i time ≡ []
unfolding any_in due_in
none-due zero w base i time h = refl
none-due (suc m) w base i time h = go (is_due w (entry_at base i) time) (none-due m w base (i + 1) time) h
  where
    go : (b : Bool) → (any_in m w base (i + 1) time ≡ false → due_in m w base (i + 1) time ≡ []) → cond b true (any_in m w base (i + 1) time) ≡ false
        → cond b (i ∷ due_in m w base (i + 1) time) (due_in m w base (i + 1) time) ≡ []
    go true f e = absurd (let z : ◌≡◌ {A = ℕ} 0 1 = cc in omega arith)
    go false f e = f e

-- ---- the list

pub due-none : (m : ℕ) (w : List ℕ) (base i time : ℕ) → m ≤ 0 → due_in m w base i time ≡ []
unfolding due_in
due-none zero w base i time h = refl
due-none (suc m) w base i time h = absurd (omega arith)

due-more : (m : ℕ) (w : List ℕ) (base i time : ℕ) → 0 < m
    → due_in m w base i time ≡ cond (is_due w (entry_at base i) time) (i ∷ due_in (m - 1) w base (i + 1) time) (due_in (m - 1) w base (i + 1) time)
unfolding due_in
due-more zero w base i time h = absurd (omega arith)
due-more (suc m) w base i time h = simp (less_one m)

-- as far as the table has been walked, the list's start has the due ones
abbrev pub Collected : List ℕ → ℕ → ℕ → ℕ → List ℕ → ℕ → ℕ → List ℕ → Type 0
Collected w base i time list k left whole = take k list ++ due_in left w base i time ≡ whole

pub collected-more : (w : List ℕ) (base i time : ℕ) (list : List ℕ) (k left : ℕ) (whole : List ℕ) → 0 < left → k < length list → Collected w base i time list k left whole
    → Collected w base (i + 1) time (noted w base i time list k) (noted_to w base i time k) (left - 1) whole
unfolding noted noted_to
collected-more w base i time list k left whole h l e = go (is_due w (entry_at base i) time) (ap (λ (r : List ℕ). take k list ++ r) (sym (due-more left w base i time h)) ∙ e)
  where
    rest : List ℕ
    rest = due_in (left - 1) w base (i + 1) time

    go : (b : Bool) → take k list ++ cond b (i ∷ rest) rest ≡ whole → take (cond b (k + 1) k) (cond b (set list k i) list) ++ rest ≡ whole
    go true f =
        ap (λ (j : ℕ). take j (set list k i) ++ rest) (add-one k) ∙ ap (λ (r : List ℕ). r ++ rest) (take-suc-set list k i l) ∙ append_assoc (take k list) (i ∷ []) rest ∙ f
    go false f = f

pub noted-most : (w : List ℕ) (base i time k : ℕ) → noted_to w base i time k ≤ k + 1
unfolding noted_to
noted-most w base i time k = go (is_due w (entry_at base i) time)
  where
    go : (b : Bool) → cond b (k + 1) k ≤ k + 1
    go true = omega arith
    go false = omega arith

pub collected-all : (w : List ℕ) (base i time : ℕ) (list : List ℕ) (k left : ℕ) (whole : List ℕ) → left ≤ 0 → Collected w base i time list k left whole → take k list ≡ whole
collected-all w base i time list k left whole h e = sym (append-nil (take k list)) ∙ ap (λ (r : List ℕ). take k list ++ r) (sym (due-none left w base i time h)) ∙ e
