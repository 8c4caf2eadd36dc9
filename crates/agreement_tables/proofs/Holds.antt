-- The records of a table stay those of a list: where the words stay, and where a record is put in or replaced.
use Prim.Native.Nat.{ℕ, zero, suc, ◌+◌, ◌*◌, ◌≤◌, ◌<◌}
use mathlib.Core.List.{List, [], ◌∷◌, ◌++◌}
use mathlib.Core.Path.{◌≡◌, refl, sym, ap, ◌∙◌, subst}
use mathlib.Core.Logic.{⊎_elim}
use mathlib.Core.Option.{Option, none, some}
use native.Mathlib.Omega.{arith}
use native.Mathlib.Decide.{ℕ_discrete, dec_lt}
use lib.ListN.{get_or, length}
use Rattle.tables.specs.Table.{gap_opened}
use Rattle.model.specs.Lists.{nth}
use Rattle.model.specs.Table.{find, put, Rising}
use Rattle.model.proofs.TableLaws.{some_same}
use Rattle.agreement_tables.specs.Tables.{Copied, Local, Holds, Keyed, below, Grown, Others}
use Rattle.agreement_tables.proofs.Lists.{nth_in, nth_last, below-le, put-new, put-known}
use Rattle.agreement_tables.proofs.Moves.{opened-before, opened-behind}

-- ---- changes one after another, and room made

pub opened-grown : (D : ℕ → Type 0) (w : List ℕ) (base n i : ℕ) → base ≤ 1000000 → n ≤ 4096 → i ≤ n → base + 32 * n + 32 ≤ length w → Grown D w base n i (gap_opened w base n i)
opened-grown D w base n i low few in_table long = record {
  before = λ j h k l d. opened-before w base n i low few in_table j k (omega arith) l;
  behind = λ j h m k l d. opened-behind w base n i low few in_table long j k h m l;
}

-- writes to the new record alone, after it is put in
pub grown-then : (D : ℕ → Type 0) (w : List ℕ) (base n b : ℕ) (w₁ w₂ : List ℕ) → b ≤ n → Grown D w base n b w₁ → Others D w₁ base (suc n) b w₂ → Grown D w base n b w₂
grown-then D w base n b w₁ w₂ in_table g o = record {
  before = λ j h k l d. o j (omega arith) (λ e. omega arith) k l d ∙ g.before j h k l d;
  behind = λ j h m k l d. o (suc j) (omega arith) (λ e. omega arith) k l d ∙ g.behind j h m k l d;
}

-- writes that leave the records as they are, before it is put in
pub grown-after : (D : ℕ → Type 0) (w : List ℕ) (base n b : ℕ) (w₁ w₂ : List ℕ) → b ≤ n → ((j : ℕ) → j < n → Copied D w (base + 32 * j) w₁ (base + 32 * j)) → Grown D w₁ base n b w₂ → Grown D w base n b w₂
grown-after D w base n b w₁ w₂ in_table s g = record {
  before = λ j h k l d. g.before j h k l d ∙ s j (omega arith) k l d;
  behind = λ j h m k l d. g.behind j h m k l d ∙ s j m k l d;
}

pub others-then : (D : ℕ → Type 0) (w : List ℕ) (base n b : ℕ) (w₁ w₂ : List ℕ) → Others D w base n b w₁ → Others D w₁ base n b w₂ → Others D w base n b w₂
others-then D w base n b w₁ w₂ a c j h n' k l d = c j h n' k l d ∙ a j h n' k l d

-- writes outside the table, or to the record itself
pub others-outside : (D : ℕ → Type 0) (w : List ℕ) (base n b : ℕ) (w' : List ℕ)
    → ((p : ℕ) → base ≤ p → p < base + 32 * n → ((base + 32 * b ≤ p) × (p < base + 32 * b + 32) → ⊥) → get_or w' p 0 ≡ get_or w p 0) → Others D w base n b w'
others-outside D w base n b w' same j h n' k l d = same (base + 32 * j + k) (omega arith) (omega arith) (λ q. n' (omega (arith, q.0, q.1)))

-- ---- the records of a list

-- a key depends on word 0
pub keyed-local : {A : Type 0} (key : A → ℕ) (D : ℕ → Type 0) → D 0 → Local D (Keyed key)
keyed-local key D d w w' a b x c h =
    ap (λ (p : ℕ). get_or w' p 0) (let z : b ≡ b + 0 = omega arith in z) ∙ c 0 (omega arith) d ∙ ap (λ (p : ℕ). get_or w p 0) (let z : a + 0 ≡ a = omega arith in z) ∙ h

-- a record that is said word by word depends on the words of which something is said
pub row-local : {A : Type 0} (D : ℕ → Type 0) (row : A → List (Option ℕ)) → ((x : A) (k n : ℕ) → get_or (row x) k none ≡ some n → (k < 32) × D k)
    → Local D (λ w place x. (k n : ℕ) → get_or (row x) k none ≡ some n → get_or w (place + k) 0 ≡ n)
row-local D row says w w' a b x c h k n e = let s = says x k n e in c k s.0 s.1 ∙ h k n e

module _ {A : Type 0} (D : ℕ → Type 0) (P : List ℕ → ℕ → A → Type 0) (local : Local D P) where
  -- a table depends on the words `D` of its records
  pub holds-depends : (w w' : List ℕ) (base : ℕ) (xs : List A) → ((j : ℕ) → j < length xs → Copied D w (base + 32 * j) w' (base + 32 * j)) → Holds P w base xs → Holds P w' base xs
  holds-depends w w' base xs same h i x e = local w w' (base + 32 * i) (base + 32 * i) x (same i (nth_in xs i x e)) (h i x e)

  -- so on its region
  pub holds_same : (w w' : List ℕ) (base : ℕ) (xs : List A) → ((p : ℕ) → base ≤ p → p < base + 32 * length xs → get_or w' p 0 ≡ get_or w p 0) → Holds P w base xs → Holds P w' base xs
  holds_same w w' base xs same h = holds-depends w w' base xs (λ j l k m d. same (base + 32 * j + k) (omega arith) (omega arith)) h

  pub holds-last : (w : List ℕ) (base : ℕ) (xs : List A) (y : A) → Holds P w base xs → P w (base + 32 * length xs) y → Holds P w base (xs ++ (y ∷ []))
  holds-last w base xs y h own i x e =
      ⊎_elim (λ (a : nth xs i ≡ some x). h i x a)
      (λ (b : (i ≡ length xs) × (x ≡ y)). subst (λ (j : ℕ). P w (base + 32 * j) x) (sym b.0) (subst (λ (z : A). P w (base + 32 * length xs) z) (sym b.1) own))
      (nth_last xs y i x e)

  pub holds-tail : (w : List ℕ) (base : ℕ) (y : A) (ys : List A) → Holds P w base (y ∷ ys) → Holds P w (base + 32) ys
  holds-tail w base y ys h i x e = subst (λ (p : ℕ). P w p x) (let z : base + 32 * suc i ≡ base + 32 + 32 * i = omega arith in z) (h (suc i) x e)

  pub holds-head : (w : List ℕ) (base : ℕ) (y : A) (ys : List A) → Holds P w base (y ∷ ys) → P w base y
  holds-head w base y ys h = subst (λ (p : ℕ). P w p y) (let z : base + 32 * 0 ≡ base = omega arith in z) (h 0 y refl)

  module _ (key : A → ℕ) where
    -- a new record put in at its position
    pub grown-holds : (w : List ℕ) (base : ℕ) (xs : List A) (x : A) (w' : List ℕ) → Holds P w base xs → find key xs (key x) ≡ none
        → Grown D w base (length xs) (below key (key x) xs) w' → P w' (base + 32 * below key (key x) xs) x → Holds P w' base (put key x xs)
    grown-holds w base xs x w' h new g own i y e = go i e (ℕ_discrete i (below key (key x) xs)) (dec_lt i (below key (key x) xs))
      where
        b : ℕ
        b = below key (key x) xs

        go : (i : ℕ) → nth (put key x xs) i ≡ some y → Dec (i ≡ b) → Dec (i < b) → P w' (base + 32 * i) y
        go i e (yes q) l =
            let z : x ≡ y = some_same x y (sym (put-new key x xs new).own ∙ ap (nth (put key x xs)) (sym q) ∙ e) in
            subst (λ (u : A). P w' (base + 32 * i) u) z (subst (λ (j : ℕ). P w' (base + 32 * j) x) (sym q) own)
        go i e (no n) (yes l) = local w w' (base + 32 * i) (base + 32 * i) y (g.before i l) (h i y (sym ((put-new key x xs new).before i l) ∙ e))
        go zero e (no n) (no l) = absurd (omega (arith, n, l))
        go (suc i) e (no n) (no l) =
            let m : below key (key x) xs ≤ i = omega (arith, n, l) in
            let q : nth xs i ≡ some y = sym ((put-new key x xs new).behind i m) ∙ e in
            local w w' (base + 32 * i) (base + 32 * suc i) y (g.behind i m (nth_in xs i y q)) (h i y q)

    -- a record written anew
    pub others-holds : (w : List ℕ) (base : ℕ) (xs : List A) (x z : A) (w' : List ℕ) → Holds P w base xs → Rising key xs → find key xs (key x) ≡ some z
        → Others D w base (length xs) (below key (key x) xs) w' → P w' (base + 32 * below key (key x) xs) x → Holds P w' base (put key x xs)
    others-holds w base xs x z w' h rising some-z o own i y e = go (ℕ_discrete i (below key (key x) xs))
      where
        go : Dec (i ≡ below key (key x) xs) → P w' (base + 32 * i) y
        go (yes q) =
            let u : x ≡ y = some_same x y (sym (put-known key x xs rising z some-z).own ∙ ap (nth (put key x xs)) (sym q) ∙ e) in
            subst (λ (u : A). P w' (base + 32 * i) u) u (subst (λ (j : ℕ). P w' (base + 32 * j) x) (sym q) own)
        go (no n) =
            let q : nth xs i ≡ some y = sym ((put-known key x xs rising z some-z).others i n) ∙ e in
            local w w' (base + 32 * i) (base + 32 * i) y (o i (nth_in xs i y q) n) (h i y q)

    -- room made at the position of the key, and then the record there written
    pub insert-holds : (w : List ℕ) (base : ℕ) (xs : List A) (x : A) (w' : List ℕ) → base ≤ 1000000 → length xs ≤ 4096 → base + 32 * length xs + 32 ≤ length w
        → Holds P w base xs → find key xs (key x) ≡ none
        → Others D (gap_opened w base (length xs) (below key (key x) xs)) base (suc (length xs)) (below key (key x) xs) w'
        → P w' (base + 32 * below key (key x) xs) x → Holds P w' base (put key x xs)
    insert-holds w base xs x w' low few long h new o own = grown-holds w base xs x w' h new
        (grown-then D w base (length xs) (below key (key x) xs) (gap_opened w base (length xs) (below key (key x) xs)) w' (below-le key (key x) xs)
        (opened-grown D w base (length xs) (below key (key x) xs) low few (below-le key (key x) xs) long) o) own
