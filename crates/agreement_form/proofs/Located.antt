-- Keys rise along a table's records, and what may stand at its place in the log may stand there by the words.
use Prim.Native.Nat.{ℕ, zero, suc, ◌+◌, ◌-◌, ◌*◌, ◌≤◌, ◌<◌}
use mathlib.Core.List.{List, [], ◌∷◌}
use mathlib.Core.Bool.{true}
use mathlib.Core.Option.{some}
use mathlib.Core.Path.{◌≡◌, refl, ◌∙◌, subst}
use native.Mathlib.Omega.{arith}
use borrow.Author.Tests.{ne_eqb, le-ltb, lt-ltb}
use lib.ListN.{get_or, length}
use Rattle.arch.specs.declared.Architecture.{Architecture}
use Rattle.arch.specs.declared.Architecture.TheVariants.{X64, X86}
use Rattle.images.specs.declared.TimerBacking.{TimerBacking}
use Rattle.images.specs.declared.TimerBacking.TheVariants.{Image, NonpagedPool}
use Rattle.images.specs.Place.{architecture_number, backing_kind, backing_base, backing_size, backing_mapped, location_refusal}
use Rattle.form_dpc.specs.Place.{key_rises, mapped_passes, located}
use Rattle.model.specs.Lists.{nth}
use Rattle.model.specs.Table.{Rising}
use Rattle.model.proofs.TableLaws.{none-some, some_same}
use Rattle.agreement_tables.proofs.Lists.{nth-some, above-nth}
use Rattle.agreement_tables.proofs.Search.{key-is}
use Rattle.agreement.proofs.Records.{architecture-read, backing-read}

-- ---- keys

module _ {A : Type 0} (key : A → ℕ) where
  rising-next : (l : List A) → Rising key l → (i : ℕ) (x y : A) → nth l i ≡ some x → nth l (suc i) ≡ some y → key x < key y
  rising-next [] r i x y p q = absurd (none-some x p)
  rising-next (z ∷ l) r zero x y p q = subst (λ (u : A). key u < key y) (some_same z x p) (above-nth key (key z) l r.0 0 y q)
  rising-next (z ∷ l) r (suc i) x y p q = rising-next l r.1 i x y p q

  module _ (w : List ℕ) (base : ℕ) (l : List A) (low : base ≤ 1000000) (few : length l ≤ 4096) (r : Rising key l)
      (keys : (i : ℕ) (x : A) → nth l i ≡ some x → get_or w (base + 32 * i) 0 ≡ key x) where
    pub key-rises : (i : ℕ) → i < length l → key_rises w base i ≡ true
    unfolding key_rises
    key-rises zero h = refl
    key-rises (suc i) h = go (nth-some l i (omega arith)) (nth-some l (suc i) h)
      where
        go : ((x : A) × (nth l i ≡ some x)) → ((y : A) × (nth l (suc i) ≡ some y)) → key_rises w base (suc i) ≡ true
        go (x, p) (y, q) =
            let e : suc i - 1 ≡ i = omega arith in
            let kx = key-is w base i low (omega arith) ∙ keys i x p in
            let ky = key-is w base (suc i) low (omega arith) ∙ keys (suc i) y q in
            simp (ne_eqb (suc i) 0 (λ z. omega arith), e, kx, ky, lt-ltb (key x) (key y) (rising-next l r i x y p q))

-- ---- places

architecture-few : (a : Architecture) → architecture_number a ≤ 1
architecture-few X64 = omega arith
architecture-few X86 = omega arith

backing-few : (b : TimerBacking) → backing_kind b ≤ 1
backing-few (Image base size) = omega arith
backing-few (NonpagedPool base requested mapped) = omega arith

mapped-none : (b : TimerBacking) → mapped_passes (backing_kind b) (backing_mapped b) ≡ true
unfolding mapped_passes
mapped-none (Image base size) = refl
mapped-none (NonpagedPool base requested mapped) = refl

pub located-is : (w : List ℕ) (place from address size : ℕ) (a : Architecture) (b : TimerBacking) → get_or w place 0 ≡ address
    → get_or w (place + from) 0 ≡ architecture_number a → get_or w (place + (from + 1)) 0 ≡ backing_kind b → get_or w (place + (from + 2)) 0 ≡ backing_base b
    → get_or w (place + (from + 3)) 0 ≡ backing_size b → get_or w (place + (from + 4)) 0 ≡ backing_mapped b → location_refusal address size a b ≡ 0
    → located w place from size ≡ true
unfolding located
located-is w place from address size a b e e₀ e₁ e₂ e₃ e₄ h =
    simp (
      e,
      e₀,
      e₁,
      e₂,
      e₃,
      e₄,
      le-ltb 1 (architecture_number a) (architecture-few a),
      le-ltb 1 (backing_kind b) (backing-few b),
      mapped-none b,
      architecture-read a,
      backing-read b,
      h,
    )

-- nothing stands at 0
refused-zero : (size : ℕ) (a : Architecture) (b : TimerBacking) → location_refusal 0 size a b ≡ 15
unfolding location_refusal
refused-zero size a b = refl

pub not-at-zero : (address size : ℕ) (a : Architecture) (b : TimerBacking) → location_refusal address size a b ≡ 0 → address ≡ 0 → ⊥
not-at-zero address size a b h e =
    let q : location_refusal 0 size a b ≡ 0 = subst (λ (x : ℕ). location_refusal x size a b ≡ 0) e h in
    omega (arith, q, refused-zero size a b)
