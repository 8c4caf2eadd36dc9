-- Marked records taken out of a table: those that stay, in their order, and how many.
use Prim.Native.Nat.{ℕ, zero, suc, ◌+◌, ◌*◌, ◌≤◌, ◌<◌}
use mathlib.Core.List.{List, [], ◌∷◌, ◌++◌, append_assoc, append-nil}
use mathlib.Core.Bool.{Bool, true, false, cond, not}
use mathlib.Core.Path.{◌≡◌, refl, sym, ap, ◌∙◌, subst}
use mathlib.Core.Option.{some}
use native.Mathlib.Omega.{arith}
use native.Mathlib.Decide.{ℕ_discrete}
use borrow.Author.Tests.{eq-eqb, ne_eqb, le-ltb, ltb-false}
use lib.Dec.{eqb, ltb}
use lib.ListN.{get_or, set, length, length-set, length-append}
use Rattle.words.specs.Layout.{entry_at}
use Rattle.tables.specs.Compact.{is_marked, copied_in, copied, moved, kept, kept_to, compacted_in, compacted_to_in, compacted, compacted_to}
use Rattle.tables.proofs.TableLaws.{entry-is}
use Rattle.model.specs.Lists.{nth, keep}
use Rattle.agreement_tables.specs.Tables.{Same, Copied, Whole, Local, Holds, kept_before}
use Rattle.model.specs.Table.{Rising}
use Rattle.model.proofs.TableLaws.{none-some}
use Rattle.agreement_tables.proofs.Numbers.{below-nth, nth-keep}
use Rattle.agreement_tables.proofs.Holds.{holds-depends, holds-last, holds-tail, holds-head}
use Rattle.agreement_tables.proofs.Moves.{read-other, read_same, set-outside}

-- ---- one record copied

length-copied : (m : ℕ) (w : List ℕ) (from to k : ℕ) → length (copied_in m w from to k) ≡ length w
unfolding copied_in
length-copied zero w from to k = refl
length-copied (suc m) w from to k = length-copied m (set w (to + k) (get_or w (from + k) 0)) from to (k + 1) ∙ length-set w (to + k) (get_or w (from + k) 0)

pub copied-outside : (m : ℕ) (R : ℕ → Type 0) (w : List ℕ) (from to k : ℕ) → ((j : ℕ) → to + k ≤ j → j < to + k + m → R j → ⊥) → Same R w (copied_in m w from to k)
unfolding copied_in
copied-outside zero R w from to k far j r = refl
copied-outside (suc m) R w from to k far j r =
    copied-outside m R (set w (to + k) (get_or w (from + k) 0)) from to (k + 1) (λ i a b q. far i (omega arith) (omega arith) q) j r
    ∙ set-outside R w (to + k) (get_or w (from + k) 0) (λ q. far (to + k) (omega arith) (omega arith) q) j r

-- to a place a record or more below
copied-shows : (m : ℕ) (w : List ℕ) (from to k : ℕ) → to + 32 ≤ from → k + m ≤ 32 → to + 32 ≤ length w → (j : ℕ) → k ≤ j → j < k + m
    → get_or (copied_in m w from to k) (to + j) 0 ≡ get_or w (from + j) 0
unfolding copied_in
copied-shows zero w from to k apart fits long j lo hi = absurd (omega arith)
copied-shows (suc m) w from to k apart fits long j lo hi = go (ℕ_discrete j k) (λ n.
    copied-shows m (set w (to + k) (get_or w (from + k) 0)) from to (k + 1) apart (omega arith) (omega (arith, length-set w (to + k) (get_or w (from + k) 0))) j (omega (arith, n)) (omega arith))
  where
    w₁ : List ℕ
    w₁ = set w (to + k) (get_or w (from + k) 0)

    go : Dec (j ≡ k) → ((j ≡ k → ⊥) → get_or (copied_in m w₁ from to (k + 1)) (to + j) 0 ≡ get_or w₁ (from + j) 0) → get_or (copied_in m w₁ from to (k + 1)) (to + j) 0 ≡ get_or w (from + j) 0
    go (yes e) ih =
        copied-outside m (λ i. i ≡ to + j) w₁ from to (k + 1) (λ i a b q. omega arith) (to + j) refl
        ∙ ap (λ (i : ℕ). get_or w₁ (to + i) 0) e ∙ read_same w (to + k) (get_or w (from + k) 0) (omega arith) ∙ ap (λ (i : ℕ). get_or w (from + i) 0) (sym e)
    go (no n) ih = ih n ∙ read-other w (to + k) (from + j) (get_or w (from + k) 0) (λ e. omega arith)

-- ---- record `i` moved down to `j`

pub length_moved : (w : List ℕ) (base i j : ℕ) → length (moved w base i j) ≡ length w
unfolding moved copied
length_moved w base i j = go (eqb i j)
  where
    go : (b : Bool) → length (cond b w (copied_in 32 w (entry_at base i) (entry_at base j) 0)) ≡ length w
    go true = refl
    go false = length-copied 32 w (entry_at base i) (entry_at base j) 0

module _ (w : List ℕ) (base i j : ℕ) (low : base ≤ 1000000) (few : i ≤ 8192) (down : j ≤ i) where
  moved_same : i ≡ j → moved w base i j ≡ w
  unfolding moved
  moved_same e = ap (λ (b : Bool). cond b w (copied w (entry_at base i) (entry_at base j))) (eq-eqb i j e)

  moved_down : (i ≡ j → ⊥) → moved w base i j ≡ copied_in 32 w (base + 32 * i) (base + 32 * j) 0
  unfolding moved copied
  moved_down n =
      ap (λ (b : Bool). cond b w (copied_in 32 w (entry_at base i) (entry_at base j) 0)) (ne_eqb i j n)
      ∙ ap (λ (p : ℕ). copied_in 32 w p (entry_at base j) 0) (entry-is base i low few)
      ∙ ap (λ (p : ℕ). copied_in 32 w (base + 32 * i) p 0) (entry-is base j low (omega arith))

  pub moved-outside : (R : ℕ → Type 0) → ((p : ℕ) → base + 32 * j ≤ p → p < base + 32 * j + 32 → R p → ⊥) → Same R w (moved w base i j)
  moved-outside R far p r = go (ℕ_discrete i j)
    where
      go : Dec (i ≡ j) → get_or (moved w base i j) p 0 ≡ get_or w p 0
      go (yes e) = ap (λ (v : List ℕ). get_or v p 0) (moved_same e)
      go (no n) =
          ap (λ (v : List ℕ). get_or v p 0) (moved_down n)
          ∙ copied-outside 32 R w (base + 32 * i) (base + 32 * j) 0 (λ q a b. far q (omega arith) (omega arith)) p r

  moved-shows : base + 32 * j + 32 ≤ length w → (k : ℕ) → k < 32 → get_or (moved w base i j) (base + 32 * j + k) 0 ≡ get_or w (base + 32 * i + k) 0
  moved-shows long k l = go (ℕ_discrete i j)
    where
      go : Dec (i ≡ j) → get_or (moved w base i j) (base + 32 * j + k) 0 ≡ get_or w (base + 32 * i + k) 0
      go (yes e) = ap (λ (v : List ℕ). get_or v (base + 32 * j + k) 0) (moved_same e) ∙ ap (λ (m : ℕ). get_or w (base + 32 * m + k) 0) (sym e)
      go (no n) =
          ap (λ (v : List ℕ). get_or v (base + 32 * j + k) 0) (moved_down n)
          ∙ copied-shows 32 w (base + 32 * i) (base + 32 * j) 0 (omega (arith, n)) (omega arith) long k (omega arith) (omega arith)

-- ---- all of them

length-kept : (w : List ℕ) (base i j k mark : ℕ) → length (kept w base i j k mark) ≡ length w
unfolding kept
length-kept w base i j k mark = go (is_marked w (entry_at base i) k mark)
  where
    go : (b : Bool) → length (cond b w (moved w base i j)) ≡ length w
    go true = refl
    go false = length_moved w base i j

length-compacted-in : (m : ℕ) (w : List ℕ) (base i j k mark : ℕ) → length (compacted_in m w base i j k mark) ≡ length w
unfolding compacted_in
length-compacted-in zero w base i j k mark = refl
length-compacted-in (suc m) w base i j k mark =
    length-compacted-in m (kept w base i j k mark) base (i + 1) (kept_to w base i j k mark) k mark ∙ length-kept w base i j k mark

pub length-compacted : (w : List ℕ) (base n k mark : ℕ) → length (compacted w base n k mark) ≡ length w
unfolding compacted
length-compacted w base n k mark = go (ltb 8191 n)
  where
    go : (b : Bool) → length (cond b w (compacted_in n w base 0 0 k mark)) ≡ length w
    go true = refl
    go false = length-compacted-in n w base 0 0 k mark

compacted-in-outside : (m : ℕ) (R : ℕ → Type 0) (w : List ℕ) (base i j k mark : ℕ) → base ≤ 1000000 → i + m ≤ 8192 → j ≤ i → ((p : ℕ) → base ≤ p → p < base + 32 * (i + m) → R p → ⊥)
    → Same R w (compacted_in m w base i j k mark)
unfolding compacted_in kept kept_to
compacted-in-outside zero R w base i j k mark low few down far p r = refl
compacted-in-outside (suc m) R w base i j k mark low few down far p r =
    go (is_marked w (entry_at base i) k mark) (λ w₁ j₁ l. compacted-in-outside m R w₁ base (i + 1) j₁ k mark low (omega arith) l (λ q a b. far q a (omega arith)) p r)
  where
    go : (b : Bool) → ((w₁ : List ℕ) (j₁ : ℕ) → j₁ ≤ i + 1 → get_or (compacted_in m w₁ base (i + 1) j₁ k mark) p 0 ≡ get_or w₁ p 0)
        → get_or (compacted_in m (cond b w (moved w base i j)) base (i + 1) (cond b j (j + 1)) k mark) p 0 ≡ get_or w p 0
    go true ih = ih w j (omega arith)
    go false ih = ih (moved w base i j) (j + 1) (omega arith) ∙ moved-outside w base i j low (omega arith) down R (λ q a b. far q (omega arith) (omega arith)) p r

-- only the table is written
pub compacted-outside : (R : ℕ → Type 0) (w : List ℕ) (base n k mark : ℕ) → base ≤ 1000000 → ((p : ℕ) → base ≤ p → p < base + 32 * n → R p → ⊥) → Same R w (compacted w base n k mark)
unfolding compacted
compacted-outside R w base n k mark low far p r = go (ltb 8191 n) refl
  where
    go : (b : Bool) → ltb 8191 n ≡ b → get_or (cond b w (compacted_in n w base 0 0 k mark)) p 0 ≡ get_or w p 0
    go true e = refl
    go false e = compacted-in-outside n R w base 0 0 k mark low (omega (arith, ltb-false 8191 n e)) (omega arith) (λ q a b. far q a (omega arith)) p r

-- ---- against the log's list, of which those that pass the test `f` stay

module _ {A : Type 0} (f : A → Bool) (k mark : ℕ) where
  -- word `k` of a record is the mark where it goes
  abbrev pub Marked : List ℕ → ℕ → A → Type 0
  Marked w place x = eqb (get_or w (place + k) 0) mark ≡ not (f x)

  pub marked-at : (D : ℕ → Type 0) → k < 32 → D k → Local D Marked
  marked-at D h d w w' a b x c m = ap (λ (v : ℕ). eqb v mark) (c k h d) ∙ m

  pub marked-local : k < 32 → Local Whole Marked
  marked-local h = marked-at Whole h tt

-- a record moved down behind the records `zs`; those still to be seen stay
module _ {A : Type 0} (D : ℕ → Type 0) (P : List ℕ → ℕ → A → Type 0) (local : Local D P) (w : List ℕ) (base i : ℕ) (low : base ≤ 1000000) (few : i ≤ 8192) where
  pub moved-last : (zs : List A) (y : A) → length zs ≤ i → base + 32 * length zs + 32 ≤ length w → Holds P w base zs → P w (base + 32 * i) y
      → Holds P (moved w base i (length zs)) base (zs ++ (y ∷ []))
  moved-last zs y down long done own = holds-last D P local (moved w base i (length zs)) base zs y
      (holds-depends D P local w (moved w base i (length zs)) base zs
      (λ j h t l d. moved-outside w base i (length zs) low few down (λ p. p ≡ base + 32 * j + t) (λ p a b e. omega arith) (base + 32 * j + t) refl) done)
      (local w (moved w base i (length zs)) (base + 32 * i) (base + 32 * length zs) y (λ t l d. moved-shows w base i (length zs) low few down long t l) own)

  pub moved-rest : (j : ℕ) (ys : List A) → j ≤ i → Holds P w (base + 32 * (i + 1)) ys → Holds P (moved w base i j) (base + 32 * (i + 1)) ys
  moved-rest j ys down left = holds-depends D P local w (moved w base i j) (base + 32 * (i + 1)) ys
      (λ m h t l d. moved-outside w base i j low few down (λ p. p ≡ base + 32 * (i + 1) + 32 * m + t) (λ p a b e. omega arith) (base + 32 * (i + 1) + 32 * m + t) refl) left

module _ {A : Type 0} (D : ℕ → Type 0) (P : List ℕ → ℕ → A → Type 0) (local : Local D P) (f : A → Bool) (k mark : ℕ) (word : k < 32) (base : ℕ) (low : base ≤ 1000000) where
  -- the records `ys` from `i` on are still to be seen; those of `zs` stay already
  compact : (ys : List A) (w : List ℕ) (i : ℕ) (zs : List A) → length zs ≤ i → i + length ys ≤ 8192 → base + 32 * (i + length ys) ≤ length w
      → Holds P w base zs → Holds P w (base + 32 * i) ys → Holds (Marked f k mark) w (base + 32 * i) ys
      → Holds P (compacted_in (length ys) w base i (length zs) k mark) base (zs ++ keep f ys)
      × (compacted_to_in (length ys) w base i (length zs) k mark ≡ length (zs ++ keep f ys))
  unfolding compacted_in compacted_to_in kept kept_to is_marked
  compact [] w i zs down few long done left marks =
      let e : zs ++ [] ≡ zs = append-nil zs in
      (subst (λ (l : List A). Holds P w base l) (sym e) done, ap length (sym e))
  compact (y ∷ ys) w i zs down few long done left marks =
      subst (λ (b : Bool).
      Holds P (compacted_in (length ys) (cond b w (moved w base i (length zs))) base (i + 1) (cond b (length zs) (length zs + 1)) k mark) base (zs ++ keep f (y ∷ ys))
      × (compacted_to_in (length ys) (cond b w (moved w base i (length zs))) base (i + 1) (cond b (length zs) (length zs + 1)) k mark ≡ length (zs ++ keep f (y ∷ ys))))
      (sym (ap (λ (p : ℕ). eqb (get_or w (p + k) 0) mark) (entry-is base i low (omega arith)) ∙ holds-head Whole (Marked f k mark) (marked-local f k mark word) w (base + 32 * i) y ys marks))
      (go (f y) (λ w₁. compact ys w₁ (i + 1)))
    where
      next : base + 32 * i + 32 ≡ base + 32 * (i + 1)
      next = omega arith

      rest : Holds P w (base + 32 * (i + 1)) ys
      rest = subst (λ (p : ℕ). Holds P w p ys) next (holds-tail D P local w (base + 32 * i) y ys left)

      rest-marks : Holds (Marked f k mark) w (base + 32 * (i + 1)) ys
      rest-marks = subst (λ (p : ℕ). Holds (Marked f k mark) w p ys) next (holds-tail Whole (Marked f k mark) (marked-local f k mark word) w (base + 32 * i) y ys marks)

      go : (b : Bool)
          → ((w₁ : List ℕ) (zs : List A) → length zs ≤ i + 1 → i + 1 + length ys ≤ 8192 → base + 32 * (i + 1 + length ys) ≤ length w₁
          → Holds P w₁ base zs → Holds P w₁ (base + 32 * (i + 1)) ys → Holds (Marked f k mark) w₁ (base + 32 * (i + 1)) ys
          → Holds P (compacted_in (length ys) w₁ base (i + 1) (length zs) k mark) base (zs ++ keep f ys)
          × (compacted_to_in (length ys) w₁ base (i + 1) (length zs) k mark ≡ length (zs ++ keep f ys)))
          → Holds P (compacted_in (length ys) (cond (not b) w (moved w base i (length zs))) base (i + 1) (cond (not b) (length zs) (length zs + 1)) k mark) base (zs ++ cond b (y ∷ keep f ys) (keep f ys))
          × (compacted_to_in (length ys) (cond (not b) w (moved w base i (length zs))) base (i + 1) (cond (not b) (length zs) (length zs + 1)) k mark ≡ length (zs ++ cond b (y ∷ keep f ys) (keep f ys)))
      go false ih = ih w zs (omega arith) (omega arith) (omega arith) done rest rest-marks
      go true ih =
          subst (λ (l : List A). Holds P (compacted_in (length ys) w₁ base (i + 1) (length zs + 1) k mark) base l × (compacted_to_in (length ys) w₁ base (i + 1) (length zs + 1) k mark ≡ length l))
          (append_assoc zs (y ∷ []) (keep f ys))
          (subst (λ (m : ℕ). Holds P (compacted_in (length ys) w₁ base (i + 1) m k mark) base ((zs ++ (y ∷ [])) ++ keep f ys)
          × (compacted_to_in (length ys) w₁ base (i + 1) m k mark ≡ length ((zs ++ (y ∷ [])) ++ keep f ys))) size
          (ih w₁ (zs ++ (y ∷ [])) (omega (arith, size)) (omega arith) (omega (arith, length_moved w base i (length zs)))
          (moved-last D P local w base i low (omega arith) zs y down (omega arith) done (holds-head D P local w (base + 32 * i) y ys left))
          (moved-rest D P local w base i low (omega arith) (length zs) ys down rest)
          (moved-rest Whole (Marked f k mark) (marked-local f k mark word) w base i low (omega arith) (length zs) ys down rest-marks)))
        where
          w₁ : List ℕ
          w₁ = moved w base i (length zs)

          size : length (zs ++ (y ∷ [])) ≡ length zs + 1
          size = length-append zs (y ∷ [])

  module _ (w : List ℕ) (n : ℕ) (xs : List A) (count : n ≡ length xs) (few : n ≤ 4096) (long : base + 32 * n ≤ length w) (holds : Holds P w base xs) (marks : Holds (Marked f k mark) w base xs) where
    whole : Holds P (compacted_in (length xs) w base 0 0 k mark) base (keep f xs) × (compacted_to_in (length xs) w base 0 0 k mark ≡ length (keep f xs))
    whole = compact xs w 0 [] (omega arith) (omega (arith, count)) (omega (arith, count)) (λ i x e. absurd (none-some x e))
        (subst (λ (p : ℕ). Holds P w p xs) start holds) (subst (λ (p : ℕ). Holds (Marked f k mark) w p xs) start marks)
      where
        start : base ≡ base + 32 * 0
        start = omega arith

    -- the records that stay, in their order
    pub compacted-holds : Holds P (compacted w base n k mark) base (keep f xs)
    unfolding compacted
    compacted-holds = subst (λ (v : List ℕ). Holds P v base (keep f xs))
        (sym (ap (λ (b : Bool). cond b w (compacted_in n w base 0 0 k mark)) (le-ltb 8191 n (omega arith)) ∙ ap (λ (m : ℕ). compacted_in m w base 0 0 k mark) count)) whole.0

    -- and how many they are
    pub compacted-to-is : compacted_to w base n k mark ≡ length (keep f xs)
    unfolding compacted_to
    compacted-to-is = ap (λ (b : Bool). cond b n (compacted_to_in n w base 0 0 k mark)) (le-ltb 8191 n (omega arith)) ∙ ap (λ (m : ℕ). compacted_to_in m w base 0 0 k mark) count ∙ whole.1

    -- with the count written to a word `c` before the table
    module _ (c : ℕ) (before : c < base) where
      pub taken-holds : Holds P (set (compacted w base n k mark) c (compacted_to w base n k mark)) base (keep f xs)
      taken-holds = holds-depends D P local (compacted w base n k mark) (set (compacted w base n k mark) c (compacted_to w base n k mark)) base (keep f xs)
          (λ j l m h d. read-other (compacted w base n k mark) c (base + 32 * j + m) (compacted_to w base n k mark) (λ e. omega arith)) compacted-holds

      pub taken-count : c < length w → get_or (set (compacted w base n k mark) c (compacted_to w base n k mark)) c 0 ≡ length (keep f xs)
      taken-count h = read_same (compacted w base n k mark) c (compacted_to w base n k mark) (omega (arith, length-compacted w base n k mark)) ∙ compacted-to-is

-- the words of a record that stays, where it stands afterwards
module _ {A : Type 0} (key : A → ℕ) (f : A → Bool) (k mark : ℕ) (word : k < 32) (base : ℕ) (low : base ≤ 1000000) (w : List ℕ) (n : ℕ) (xs : List A) (count : n ≡ length xs)
    (few : n ≤ 4096) (long : base + 32 * n ≤ length w) (rising : Rising key xs) (marks : Holds (Marked f k mark) w base xs) where
  pub compacted-copied : (j : ℕ) (x : A) → nth xs j ≡ some x → f x ≡ true → Copied Whole w (base + 32 * j) (compacted w base n k mark) (base + 32 * kept_before f xs j)
  compacted-copied j x e t =
      compacted-holds Whole Copy (λ v v' a b y c h i q m l u. c m l u ∙ h i q m l u) f k mark word base low w n xs count few long
      (λ i y q i' q' m l u. ap (λ (z : ℕ). get_or w (base + 32 * z + m) 0) (sym (below-nth key xs rising i y q) ∙ below-nth key xs rising i' y q'))
      marks (kept_before f xs j) x (nth-keep f xs j x e t) j e
    where
      Copy : List ℕ → ℕ → A → Type 0
      Copy v p y = (i : ℕ) → nth xs i ≡ some y → Copied Whole w (base + 32 * i) v p
