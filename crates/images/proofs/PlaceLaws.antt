-- Laws of architectures, backings, ranges and locations.
use Rattle.std.proofs.Common.{◌≡◌, ℕ, ◌+◌, ◌-◌, ◌*◌, ◌%◌, ◌^◌, ◌<◌, ◌≤◌, Bool, true, false, cond, eqb, ltb, leb, sym, refl, ◌∙◌, arith, ltb-false, ltb-true, le-ltb, lt-ltb, eq-eqb, ne_eqb, eqb-true, leb-false, leb-true}
use borrow.Author.Tests.{eqb-false, lt-leb}
use Rattle.arch.specs.declared.Architecture.{Architecture}
use Rattle.arch.specs.declared.Architecture.TheVariants.{X64, X86}
use Rattle.arch.specs.Width.{width_of}
use Rattle.images.specs.declared.TimerBacking.{TimerBacking}
use Rattle.images.specs.declared.TimerBacking.TheVariants.{Image, NonpagedPool}
use Rattle.images.specs.Place.{
  architecture_number,
  architecture_of,
  backing_kind,
  backing_base,
  backing_size,
  backing_mapped,
  backing_of,
  is_short,
  timer_size,
  due_at,
  timer_dpc_at,
  dpc_size,
  routine_at,
  arguments_at,
  overlaps,
  ends_past,
  is_outside,
  location_refusal,
}

-- ---- widths and shapes

pub width_some : (a : Architecture) → 0 < width_of a
width_some X64 = omega arith
width_some X86 = omega arith

-- what holds of the two rows alike: fields stand one behind the other, within the size
pub record Shape (w : ℕ) (due dpc timer routine arguments deferred : ℕ) : Type 0 where
  pub wide : 4 ≤ w
  pub narrow : w ≤ 8
  pub links : 8 + 2 * w ≤ due
  pub dues : due + 8 ≤ dpc
  pub dpcs : dpc + w + 4 ≤ timer
  pub timers : timer ≤ 64
  pub heads : 2 ≤ routine
  pub routines : routine + 2 * w ≤ arguments
  pub works : arguments + 2 * w ≤ deferred
  pub deferreds : deferred ≤ 64

abbrev pub Shaped : Architecture → Type 0
Shaped a = Shape (width_of a) (due_at a) (timer_dpc_at a) (timer_size a) (routine_at a) (arguments_at a) (dpc_size a)

pub shape : (a : Architecture) → Shaped a
shape X64 =
    record {
      wide = omega arith;
      narrow = omega arith;
      links = omega arith;
      dues = omega arith;
      dpcs = omega arith;
      timers = omega arith;
      heads = omega arith;
      routines = omega arith;
      works = omega arith;
      deferreds = omega arith;
    }
shape X86 =
    record {
      wide = omega arith;
      narrow = omega arith;
      links = omega arith;
      dues = omega arith;
      dpcs = omega arith;
      timers = omega arith;
      heads = omega arith;
      routines = omega arith;
      works = omega arith;
      deferreds = omega arith;
    }

-- ---- ranges

-- one test of numbers for another
same_test : (x y u v : ℕ) → (x < y → u < v) → (u < v → x < y) → ltb x y ≡ ltb u v
same_test x y u v f g = go (ltb x y) refl
  where
    go : (t : Bool) → ltb x y ≡ t → ltb x y ≡ ltb u v
    go true e = e ∙ sym (lt-ltb u v (f (ltb-true x y e)))
    go false e = e ∙ sym (le-ltb u v (let z : u < v → ⊥ = λ l. (let z : x < y = g l in omega (arith, ltb-false x y e)) in omega arith))

pub overlap-behind : (a n b m : ℕ) → (n ≡ 0 → ⊥) → (m ≡ 0 → ⊥) → a ≤ b → ltb (b - a) n ≡ overlaps a n b m
unfolding overlaps
overlap-behind a n b m hn hm l =
    let before : a < b + m = omega arith in
    simp (ne_eqb n 0 hn, ne_eqb m 0 hm, lt-ltb a (b + m) before)
    (same_test (b - a) n b (a + n) (λ q. omega arith) (λ q. omega arith) ∙ go (ltb b (a + n)))
  where
    go : (t : Bool) → t ≡ cond t true false
    go true = refl
    go false = refl

pub overlap-before : (a n b m : ℕ) → (n ≡ 0 → ⊥) → (m ≡ 0 → ⊥) → b < a → ltb (a - b) m ≡ overlaps a n b m
unfolding overlaps
overlap-before a n b m hn hm l =
    let before : b < a + n = omega arith in
    simp (ne_eqb n 0 hn, ne_eqb m 0 hm, lt-ltb b (a + n) before)
    (same_test (a - b) m a (b + m) (λ q. omega arith) (λ q. omega arith))

-- an address in both ranges
pub record Shared (a n b m : ℕ) : Type 0 where
  pub byte : ℕ
  pub from_first : a ≤ byte
  pub in-first : byte < a + n
  pub from_second : b ≤ byte
  pub in-second : byte < b + m

-- ranges overlap where some address is in both, and only there
pub overlap-shares : (a n b m : ℕ) → overlaps a n b m ≡ true → Shared a n b m
unfolding overlaps
overlap-shares a n b m e = go (eqb n 0) (eqb m 0) (ltb b (a + n)) (ltb a (b + m)) (leb a b) refl refl refl refl refl e
  where
    no : (t : Bool) → false ≡ t → t ≡ true → ⊥
    no t p q = let z : ◌≡◌ {A = ℕ} 0 1 = cc in omega arith

    go : (r s t u v : Bool) → eqb n 0 ≡ r → eqb m 0 ≡ s → ltb b (a + n) ≡ t → ltb a (b + m) ≡ u → leb a b ≡ v → cond r false (cond s false (cond t u false)) ≡ true → Shared a n b m
    go true s t u v er es et eu ev e = absurd (no false refl e)
    go false true t u v er es et eu ev e = absurd (no false refl e)
    go false false false u v er es et eu ev e = absurd (no false refl e)
    go false false true false v er es et eu ev e = absurd (no false refl e)
    go false false true true true er es et eu ev e =
        let some : m ≡ 0 → ⊥ = eqb-false m 0 es in
        record {
          byte = b;
          from_first = leb-true a b ev;
          in-first = ltb-true b (a + n) et;
          from_second = omega arith;
          in-second = omega arith;
        }
    go false false true true false er es et eu ev e =
        let some : n ≡ 0 → ⊥ = eqb-false n 0 er in
        record {
          byte = a;
          from_first = omega arith;
          in-first = omega arith;
          from_second = omega (arith, leb-false a b ev);
          in-second = ltb-true a (b + m) eu;
        }

pub shares-overlap : (a n b m : ℕ) → Shared a n b m → overlaps a n b m ≡ true
unfolding overlaps
shares-overlap a n b m s =
    let hn : n ≡ 0 → ⊥ = λ q. omega arith in
    let hm : m ≡ 0 → ⊥ = λ q. omega arith in
    let first : b < a + n = omega arith in
    let second : a < b + m = omega arith in
    simp (ne_eqb n 0 hn, ne_eqb m 0 hm, lt-ltb b (a + n) first, lt-ltb a (b + m) second)

-- ---- locations

-- a place for `size` bytes at `address`, in plain inequalities
pub record Located (address size : ℕ) (a : Architecture) (b : TimerBacking) : Type 0 where
  pub some : 0 < address
  pub ends : address + size < 2 ^ 64
  pub mapped : backing_kind b ≡ 1 → backing_size b ≤ backing_mapped b
  pub aligned : address % width_of a ≡ 0
  pub reached : a ≡ X86 → address + size ≤ 2 ^ 32
  pub starts : backing_base b ≤ address
  pub backed : backing_base b + backing_size b < 2 ^ 64
  pub within : address + size ≤ backing_base b + backing_size b

not_short : (b : TimerBacking) → is_short b ≡ false → backing_kind b ≡ 1 → backing_size b ≤ backing_mapped b
not_short (Image base size) e k = absurd (omega arith)
not_short (NonpagedPool base requested mapped) e k = ltb-false mapped requested e

is_mapped : (b : TimerBacking) → (backing_kind b ≡ 1 → backing_size b ≤ backing_mapped b) → is_short b ≡ false
is_mapped (Image base size) h = refl
is_mapped (NonpagedPool base requested mapped) h = le-ltb mapped requested (h refl)

not-past : (end : ℕ) (a : Architecture) → ends_past end a ≡ false → a ≡ X86 → end ≤ 2 ^ 32
not-past end X64 e x = absurd (let z : ◌≡◌ {A = ℕ} 0 1 = cc in omega arith)
not-past end X86 e x = ltb-false (2 ^ 32) end e

is-reached : (end : ℕ) (a : Architecture) → (a ≡ X86 → end ≤ 2 ^ 32) → ends_past end a ≡ false
is-reached end X64 h = refl
is-reached end X86 h = le-ltb (2 ^ 32) end (h refl)

module _ (address size : ℕ) (a : Architecture) (b : TimerBacking) where
  base : ℕ
  base = backing_base b

  limit : ℕ
  limit = backing_base b + backing_size b

  end : ℕ
  end = address + size

  -- accepted: a place
  pub located : location_refusal address size a b ≡ 0 → Located address size a b
  unfolding location_refusal is_outside base limit end
  located e =
      go (eqb address 0) (leb (2 ^ 64) end) (is_short b) (eqb (address % width_of a) 0) (ends_past end a) (ltb address base)
      (leb (2 ^ 64) limit) (ltb limit end) refl refl refl refl refl refl refl refl e
    where
      go : (s t u v x y z r : Bool) → eqb address 0 ≡ s → leb (2 ^ 64) end ≡ t → is_short b ≡ u → eqb (address % width_of a) 0 ≡ v
          → ends_past end a ≡ x → ltb address base ≡ y → leb (2 ^ 64) limit ≡ z → ltb limit end ≡ r
          → ◌≡◌ {A = ℕ} (cond s 15 (cond t 15 (cond u 15 (cond v (cond x 15 (cond (cond y true (cond z true r)) 15 0)) 15)))) 0
          → Located address size a b
      go true t u v x y z r es et eu ev ex ey ez er e = absurd (omega arith)
      go false true u v x y z r es et eu ev ex ey ez er e = absurd (omega arith)
      go false false true v x y z r es et eu ev ex ey ez er e = absurd (omega arith)
      go false false false false x y z r es et eu ev ex ey ez er e = absurd (omega arith)
      go false false false true true y z r es et eu ev ex ey ez er e = absurd (omega arith)
      go false false false true false true z r es et eu ev ex ey ez er e = absurd (omega arith)
      go false false false true false false true r es et eu ev ex ey ez er e = absurd (omega arith)
      go false false false true false false false true es et eu ev ex ey ez er e = absurd (omega arith)
      go false false false true false false false false es et eu ev ex ey ez er e =
          let h : address ≡ 0 → ⊥ = eqb-false address 0 es in
          record {
            some = omega arith;
            ends = leb-false (2 ^ 64) end et;
            mapped = not_short b eu;
            aligned = eqb-true (address % width_of a) 0 ev;
            reached = not-past end a ex;
            starts = ltb-false address base ey;
            backed = leb-false (2 ^ 64) limit ez;
            within = ltb-false limit end er;
          }

  -- a place: accepted
  pub location : Located address size a b → location_refusal address size a b ≡ 0
  unfolding location_refusal is_outside
  location l =
      let h : address ≡ 0 → ⊥ = λ q. omega (arith, l.some) in
      simp (
        ne_eqb address 0 h,
        lt-leb (2 ^ 64) (address + size) l.ends,
        is_mapped b l.mapped,
        eq-eqb (address % width_of a) 0 l.aligned,
        is-reached (address + size) a l.reached,
        le-ltb address (backing_base b) l.starts,
        lt-leb (2 ^ 64) (backing_base b + backing_size b) l.backed,
        le-ltb (backing_base b + backing_size b) (address + size) l.within,
      )

  -- else 15
  pub refused-15 : (location_refusal address size a b ≡ 0 → ⊥) → location_refusal address size a b ≡ 15
  unfolding location_refusal
  refused-15 n =
      go (eqb address 0) (leb (2 ^ 64) (address + size)) (is_short b) (eqb (address % width_of a) 0)
      (ends_past (address + size) a) (is_outside address (address + size) b) n
    where
      R : Bool → Bool → Bool → Bool → Bool → Bool → ℕ
      R s t u v x y = cond s 15 (cond t 15 (cond u 15 (cond v (cond x 15 (cond y 15 0)) 15)))

      go : (s t u v x y : Bool) → (R s t u v x y ≡ 0 → ⊥) → R s t u v x y ≡ 15
      go true t u v x y n = refl
      go false true u v x y n = refl
      go false false true v x y n = refl
      go false false false false x y n = refl
      go false false false true true y n = refl
      go false false false true false true n = refl
      go false false false true false false n = absurd (n refl)

-- a located thing's addresses fit the guest's width
pub located_fits : (address size : ℕ) (a : Architecture) (b : TimerBacking) → Located address size a b → address + size ≤ 2 ^ (8 * width_of a)
located_fits address size X64 b l = omega (arith, l.ends)
located_fits address size X86 b l = l.reached refl

-- ---- numbers that stand for architectures and backings

pub architecture-back : (a : Architecture) → architecture_of (architecture_number a) ≡ a
unfolding architecture_of
architecture-back X64 = refl
architecture-back X86 = refl

pub backing-back : (b : TimerBacking) → backing_of (backing_kind b) (backing_base b) (backing_size b) (backing_mapped b) ≡ b
unfolding backing_of
backing-back (Image from size) = refl
backing-back (NonpagedPool from requested mapped) = refl
