-- Records moved up by one: what each word of a record is afterwards, and that nothing else changes.
use Prim.Native.Nat.{ℕ, zero, suc, ◌+◌, ◌-◌, ◌*◌, ◌≤◌, ◌<◌}
use mathlib.Core.List.{List}
use mathlib.Core.Bool.{Bool, true, false, cond}
use mathlib.Core.Path.{◌≡◌, refl, sym, ap, ◌∙◌, subst}
use native.Mathlib.Omega.{arith}
use native.Mathlib.Decide.{ℕ_discrete}
use borrow.Author.Tests.{le-ltb}
use lib.Dec.{ltb}
use lib.ListN.{get_or, set, length, length-set}
use lib.Seq.{get_or-set_same, get_or-set_other}
use Rattle.words.specs.Layout.{entry_at}
use Rattle.tables.specs.Table.{raised, gap_opened}
use Rattle.tables.proofs.TableLaws.{entry-is}
use Rattle.agreement_tables.specs.Tables.{Same}

pub read-other : (w : List ℕ) (i j v : ℕ) → (j ≡ i → ⊥) → get_or (set w i v) j 0 ≡ get_or w j 0
read-other w i j v n = get_or-set_other w i j v 0 n

pub read_same : (w : List ℕ) (i v : ℕ) → i < length w → get_or (set w i v) i 0 ≡ v
read_same w i v h = get_or-set_same w i v 0 h

-- a store outside a region
pub set-outside : (R : ℕ → Type 0) (w : List ℕ) (j v : ℕ) → (R j → ⊥) → Same R w (set w j v)
set-outside R w j v n i r = read-other w j i v (λ e. n (subst R e r))

-- ---- up

pub length-raised : (m : ℕ) (w : List ℕ) (end : ℕ) → length (raised m w end) ≡ length w
unfolding raised
length-raised zero w end = refl
length-raised (suc m) w end = length-raised m (set w (end - 1 + 32) (get_or w (end - 1) 0)) (end - 1) ∙ length-set w (end - 1 + 32) (get_or w (end - 1) 0)

raised-outside : (m : ℕ) (R : ℕ → Type 0) (w : List ℕ) (end : ℕ) → m ≤ end → ((j : ℕ) → end + 32 ≤ j + m → j < end + 32 → R j → ⊥) → Same R w (raised m w end)
unfolding raised
raised-outside zero R w end h far j r = refl
raised-outside (suc m) R w end h far j r =
    raised-outside m R (set w (end - 1 + 32) (get_or w (end - 1) 0)) (end - 1) (omega arith) (λ i a b q. far i (omega arith) (omega arith) q) j r
    ∙ set-outside R w (end - 1 + 32) (get_or w (end - 1) 0) (λ q. far (end - 1 + 32) (omega arith) (omega arith) q) j r

raised-moved : (m : ℕ) (w : List ℕ) (end : ℕ) → m ≤ end → end + 32 ≤ length w → (j : ℕ) → end ≤ j + m → j < end → get_or (raised m w end) (j + 32) 0 ≡ get_or w j 0
unfolding raised
raised-moved zero w end h long j lo hi = absurd (omega arith)
raised-moved (suc m) w end h long j lo hi = go (ℕ_discrete j (end - 1)) (λ n.
    raised-moved m (set w (end - 1 + 32) (get_or w (end - 1) 0)) (end - 1) (omega arith) (omega (arith, length-set w (end - 1 + 32) (get_or w (end - 1) 0))) j (omega arith) (omega (arith, n)))
  where
    w₁ : List ℕ
    w₁ = set w (end - 1 + 32) (get_or w (end - 1) 0)

    go : Dec (j ≡ end - 1) → ((j ≡ end - 1 → ⊥) → get_or (raised m w₁ (end - 1)) (j + 32) 0 ≡ get_or w₁ j 0) → get_or (raised m w₁ (end - 1)) (j + 32) 0 ≡ get_or w j 0
    go (yes e) ih =
        raised-outside m (λ i. i ≡ j + 32) w₁ (end - 1) (omega arith) (λ i a b q. omega arith) (j + 32) refl
        ∙ ap (λ (i : ℕ). get_or w₁ (i + 32) 0) e ∙ read_same w (end - 1 + 32) (get_or w (end - 1) 0) (omega arith) ∙ ap (λ (i : ℕ). get_or w i 0) (sym e)
    go (no n) ih = ih n ∙ read-other w (end - 1 + 32) j (get_or w (end - 1) 0) (λ e. omega arith)

-- ---- room made at record `i` of `n`

pub length-opened : (w : List ℕ) (base n i : ℕ) → length (gap_opened w base n i) ≡ length w
unfolding gap_opened
length-opened w base n i = go (ltb 1000000 base) (ltb 8191 n) (ltb n i)
  where
    go : (a b c : Bool) → length (cond a w (cond b w (cond c w (raised (32 * (n - i)) w (entry_at base n))))) ≡ length w
    go true b c = refl
    go false true c = refl
    go false false true = refl
    go false false false = length-raised (32 * (n - i)) w (entry_at base n)

module _ (w : List ℕ) (base n i : ℕ) (low : base ≤ 1000000) (few : n ≤ 4096) (in_table : i ≤ n) where
  opened-is : gap_opened w base n i ≡ raised (32 * (n - i)) w (base + 32 * n)
  unfolding gap_opened
  opened-is =
      ap (λ (b : Bool). cond b w (cond (ltb 8191 n) w (cond (ltb n i) w (raised (32 * (n - i)) w (entry_at base n))))) (le-ltb 1000000 base low)
      ∙ ap (λ (b : Bool). cond b w (cond (ltb n i) w (raised (32 * (n - i)) w (entry_at base n)))) (le-ltb 8191 n (omega arith))
      ∙ ap (λ (b : Bool). cond b w (raised (32 * (n - i)) w (entry_at base n))) (le-ltb n i in_table)
      ∙ ap (λ (j : ℕ). raised (32 * (n - i)) w j) (entry-is base n low (omega arith))

  -- only records `i + 1` to `n` are written
  pub opened-outside : (R : ℕ → Type 0) → ((j : ℕ) → base + 32 * i + 32 ≤ j → j < base + 32 * n + 32 → R j → ⊥) → Same R w (gap_opened w base n i)
  opened-outside R far j r =
      ap (λ (v : List ℕ). get_or v j 0) opened-is
      ∙ raised-outside (32 * (n - i)) R w (base + 32 * n) (omega arith) (λ k a b q. far k (omega arith) (omega arith) q) j r

  pub opened-before : (j k : ℕ) → j ≤ i → k < 32 → get_or (gap_opened w base n i) (base + 32 * j + k) 0 ≡ get_or w (base + 32 * j + k) 0
  opened-before j k h l = opened-outside (λ p. p ≡ base + 32 * j + k) (λ p a b q. omega arith) (base + 32 * j + k) refl

  pub opened-behind : base + 32 * n + 32 ≤ length w → (j k : ℕ) → i ≤ j → j < n → k < 32 → get_or (gap_opened w base n i) (base + 32 * suc j + k) 0 ≡ get_or w (base + 32 * j + k) 0
  opened-behind long j k h m l =
      ap (λ (v : List ℕ). get_or v (base + 32 * suc j + k) 0) opened-is
      ∙ ap (λ (p : ℕ). get_or (raised (32 * (n - i)) w (base + 32 * n)) p 0) (let z : base + 32 * suc j + k ≡ base + 32 * j + k + 32 = omega arith in z)
      ∙ raised-moved (32 * (n - i)) w (base + 32 * n) (omega arith) long (base + 32 * j + k) (omega arith) (omega arith)
