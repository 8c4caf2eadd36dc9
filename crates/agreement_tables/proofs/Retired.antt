-- Events taken out of the table of objects in one walk: the records that stay, and the count.
use Prim.Native.Nat.{ℕ, zero, suc, ◌+◌, ◌*◌, ◌≤◌, ◌<◌}
use mathlib.Core.List.{List, [], ◌∷◌, ◌++◌, append_assoc, append-nil}
use mathlib.Core.Bool.{Bool, true, false, cond, not}
use mathlib.Core.Path.{◌≡◌, sym, ap, ap₂, ◌∙◌, subst}
use native.Mathlib.Omega.{arith}
use borrow.Author.Tests.{le-leb}
use lib.Dec.{eqb, ltb, leb}
use lib.ListN.{get_or, set, length, length-set, length-append}
use Rattle.words.specs.Layout as at
use Rattle.words.specs.Layout.{entry_at}
use Rattle.tables.specs.Compact.{moved}
use Rattle.tables.proofs.TableLaws.{entry-is}
use Rattle.objects.specs.Objects.{objects_base, object_count}
use Rattle.event_release.specs.Release.{is_event, is_retired, retired_in, retired}
use Rattle.model.specs.Lists.{keep}
use Rattle.model.proofs.TableLaws.{none-some}
use Rattle.agreement_tables.specs.Tables.{Same, Whole, Local, Holds}
use Rattle.agreement_tables.proofs.Moves.{read-other, read_same, set-outside}
use Rattle.agreement_tables.proofs.Holds.{holds-depends, holds-head, holds-tail}
use Rattle.agreement_tables.proofs.Compacts.{length_moved, moved-outside, moved-last, moved-rest}

-- ---- the walk

pub length-retired-in : (m : ℕ) (w : List ℕ) (base i j lo hi : ℕ) → length (retired_in m w base i j lo hi) ≡ length w
unfolding retired_in
length-retired-in zero w base i j lo hi = length-set w at.objects j
length-retired-in (suc m) w base i j lo hi =
    go (is_retired w (entry_at base i) lo hi) (length-retired-in m w base (i + 1) j lo hi) (length-retired-in m (moved w base i j) base (i + 1) (j + 1) lo hi)
  where
    go : (b : Bool) → length (retired_in m w base (i + 1) j lo hi) ≡ length w → length (retired_in m (moved w base i j) base (i + 1) (j + 1) lo hi) ≡ length (moved w base i j)
        → length (cond b (retired_in m w base (i + 1) j lo hi) (retired_in m (moved w base i j) base (i + 1) (j + 1) lo hi)) ≡ length w
    go true p q = p
    go false p q = q ∙ length_moved w base i j

retired-in-outside : (m : ℕ) (R : ℕ → Type 0) (w : List ℕ) (base i j lo hi : ℕ) → base ≤ 1000000 → i + m ≤ 8192 → j ≤ i → (R 4 → ⊥) → ((p : ℕ) → base ≤ p → p < base + 32 * (i + m) → R p → ⊥)
    → Same R w (retired_in m w base i j lo hi)
unfolding retired_in
retired-in-outside zero R w base i j lo hi low few down four far p r = set-outside R w at.objects j four p r
retired-in-outside (suc m) R w base i j lo hi low few down four far p r =
    go (is_retired w (entry_at base i) lo hi) (λ w₁ j₁ l. retired-in-outside m R w₁ base (i + 1) j₁ lo hi low (omega arith) l four (λ q a b. far q a (omega arith)) p r)
  where
    go : (b : Bool) → ((w₁ : List ℕ) (j₁ : ℕ) → j₁ ≤ i + 1 → get_or (retired_in m w₁ base (i + 1) j₁ lo hi) p 0 ≡ get_or w₁ p 0)
        → get_or (cond b (retired_in m w base (i + 1) j lo hi) (retired_in m (moved w base i j) base (i + 1) (j + 1) lo hi)) p 0 ≡ get_or w p 0
    go true ih = ih w j (omega arith)
    go false ih = ih (moved w base i j) (j + 1) (omega arith) ∙ moved-outside w base i j low (omega arith) down R (λ q a b. far q (omega arith) (omega arith)) p r

-- ---- against the log's list, of which those that pass the test `f` stay

module _ {A : Type 0} (f : A → Bool) (lo hi : ℕ) where
  -- the words of a record say whether it goes
  abbrev pub Goes : List ℕ → ℕ → A → Type 0
  Goes w place x = is_retired w place lo hi ≡ not (f x)

  goes-local : Local Whole Goes
  unfolding is_retired is_event
  goes-local w w' a b x c h =
      ap₂ (λ (k v : ℕ). cond (eqb k 1) (cond (ltb v lo) false (ltb v hi)) false) (c 1 (omega arith) tt) (c 0 (omega arith) tt) ∙ h

module _ {A : Type 0} (D : ℕ → Type 0) (P : List ℕ → ℕ → A → Type 0) (local : Local D P) (f : A → Bool) (lo hi base : ℕ) (low : base ≤ 1000000) (high : at.header_size ≤ base) where
  retire : (ys : List A) (w : List ℕ) (i : ℕ) (zs : List A) → length zs ≤ i → i + length ys ≤ 8192 → base + 32 * (i + length ys) ≤ length w
      → Holds P w base zs → Holds P w (base + 32 * i) ys → Holds (Goes f lo hi) w (base + 32 * i) ys
      → Holds P (retired_in (length ys) w base i (length zs) lo hi) base (zs ++ keep f ys) × (get_or (retired_in (length ys) w base i (length zs) lo hi) at.objects 0 ≡ length (zs ++ keep f ys))
  unfolding retired_in
  retire [] w i zs down few long done left goes =
      let e : zs ++ [] ≡ zs = append-nil zs in (
        subst (λ (l : List A). Holds P (set w at.objects (length zs)) base l) (sym e)
            (holds-depends D P local w (set w at.objects (length zs)) base zs (λ j h k l d. read-other w at.objects (base + 32 * j + k) (length zs) (λ q. omega arith)) done),
        read_same w at.objects (length zs) (omega arith) ∙ ap length (sym e),
      )
  retire (y ∷ ys) w i zs down few long done left goes =
      subst (λ (v : List ℕ). Holds P v base (zs ++ keep f (y ∷ ys)) × (get_or v at.objects 0 ≡ length (zs ++ keep f (y ∷ ys))))
      (sym (ap (λ (b : Bool). cond b (retired_in (length ys) w base (i + 1) (length zs) lo hi) (retired_in (length ys) (moved w base i (length zs)) base (i + 1) (length zs + 1) lo hi))
      (ap (λ (p : ℕ). is_retired w p lo hi) (entry-is base i low (omega arith)) ∙ holds-head Whole (Goes f lo hi) (goes-local f lo hi) w (base + 32 * i) y ys goes)))
      (go (f y) (λ w₁. retire ys w₁ (i + 1)))
    where
      next : base + 32 * i + 32 ≡ base + 32 * (i + 1)
      next = omega arith

      rest : Holds P w (base + 32 * (i + 1)) ys
      rest = subst (λ (p : ℕ). Holds P w p ys) next (holds-tail D P local w (base + 32 * i) y ys left)

      rest_goes : Holds (Goes f lo hi) w (base + 32 * (i + 1)) ys
      rest_goes = subst (λ (p : ℕ). Holds (Goes f lo hi) w p ys) next (holds-tail Whole (Goes f lo hi) (goes-local f lo hi) w (base + 32 * i) y ys goes)

      go : (b : Bool)
          → ((w₁ : List ℕ) (zs : List A) → length zs ≤ i + 1 → i + 1 + length ys ≤ 8192 → base + 32 * (i + 1 + length ys) ≤ length w₁
          → Holds P w₁ base zs → Holds P w₁ (base + 32 * (i + 1)) ys → Holds (Goes f lo hi) w₁ (base + 32 * (i + 1)) ys
          → Holds P (retired_in (length ys) w₁ base (i + 1) (length zs) lo hi) base (zs ++ keep f ys) × (get_or (retired_in (length ys) w₁ base (i + 1) (length zs) lo hi) at.objects 0 ≡ length (zs ++ keep f ys)))
          → Holds P (cond (not b) (retired_in (length ys) w base (i + 1) (length zs) lo hi) (retired_in (length ys) (moved w base i (length zs)) base (i + 1) (length zs + 1) lo hi)) base (zs ++ cond b (y ∷ keep f ys) (keep f ys))
          × (get_or (cond (not b) (retired_in (length ys) w base (i + 1) (length zs) lo hi) (retired_in (length ys) (moved w base i (length zs)) base (i + 1) (length zs + 1) lo hi)) 4 0
          ≡ length (zs ++ cond b (y ∷ keep f ys) (keep f ys)))
      go false ih = ih w zs (omega arith) (omega arith) (omega arith) done rest rest_goes
      go true ih =
          subst (λ (l : List A). Holds P (retired_in (length ys) w₁ base (i + 1) (length zs + 1) lo hi) base l × (get_or (retired_in (length ys) w₁ base (i + 1) (length zs + 1) lo hi) at.objects 0 ≡ length l))
          (append_assoc zs (y ∷ []) (keep f ys))
          (subst (λ (m : ℕ). Holds P (retired_in (length ys) w₁ base (i + 1) m lo hi) base ((zs ++ (y ∷ [])) ++ keep f ys)
          × (get_or (retired_in (length ys) w₁ base (i + 1) m lo hi) at.objects 0 ≡ length ((zs ++ (y ∷ [])) ++ keep f ys))) size
          (ih w₁ (zs ++ (y ∷ [])) (omega (arith, size)) (omega arith) (omega (arith, length_moved w base i (length zs)))
          (moved-last D P local w base i low (omega arith) zs y down (omega arith) done (holds-head D P local w (base + 32 * i) y ys left))
          (moved-rest D P local w base i low (omega arith) (length zs) ys down rest)
          (moved-rest Whole (Goes f lo hi) (goes-local f lo hi) w base i low (omega arith) (length zs) ys down rest_goes)))
        where
          w₁ : List ℕ
          w₁ = moved w base i (length zs)

          size : length (zs ++ (y ∷ [])) ≡ length zs + 1
          size = length-append zs (y ∷ [])

  module _ (w : List ℕ) (xs : List A) (based : objects_base w ≡ base) (count : get_or w at.objects 0 ≡ length xs) (few : length xs ≤ 4096) (long : base + 32 * length xs ≤ length w) where
    retired-is : retired w lo hi ≡ retired_in (length xs) w base 0 0 lo hi
    unfolding retired object_count
    retired-is =
        ap₂ (λ (n p : ℕ). retired_in (cond (leb n 4096) n 4096) w p 0 0 lo hi) count based
        ∙ ap (λ (b : Bool). retired_in (cond b (length xs) 4096) w base 0 0 lo hi) (le-leb (length xs) 4096 few)

    pub length-retired : length (retired w lo hi) ≡ length w
    length-retired = ap length retired-is ∙ length-retired-in (length xs) w base 0 0 lo hi

    -- only the count and the table are written
    pub retired-outside : (R : ℕ → Type 0) → (R 4 → ⊥) → ((p : ℕ) → base ≤ p → p < base + 32 * length xs → R p → ⊥) → Same R w (retired w lo hi)
    retired-outside R four far p r =
        ap (λ (v : List ℕ). get_or v p 0) retired-is ∙ retired-in-outside (length xs) R w base 0 0 lo hi low (omega arith) (omega arith) four (λ q a b. far q a (omega arith)) p r

    module _ (holds : Holds P w base xs) (goes : Holds (Goes f lo hi) w base xs) where
      whole : Holds P (retired_in (length xs) w base 0 0 lo hi) base (keep f xs) × (get_or (retired_in (length xs) w base 0 0 lo hi) at.objects 0 ≡ length (keep f xs))
      whole = retire xs w 0 [] (omega arith) (omega arith) (omega arith) (λ i x e. absurd (none-some x e))
          (subst (λ (p : ℕ). Holds P w p xs) start holds) (subst (λ (p : ℕ). Holds (Goes f lo hi) w p xs) start goes)
        where
          start : base ≡ base + 32 * 0
          start = omega arith

      -- the records that stay, in their order
      pub retired-holds : Holds P (retired w lo hi) base (keep f xs)
      retired-holds = subst (λ (v : List ℕ). Holds P v base (keep f xs)) (sym retired-is) whole.0

      -- and how many they are
      pub retired-count : get_or (retired w lo hi) at.objects 0 ≡ length (keep f xs)
      retired-count = ap (λ (v : List ℕ). get_or v at.objects 0) retired-is ∙ whole.1
