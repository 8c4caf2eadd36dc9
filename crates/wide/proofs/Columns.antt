-- Products and quotients by columns, as one multiplies and divides by hand.
use mathlib.Core.Path.{◌≡◌, refl, sym, ap, ◌∙◌}
use Prim.Native.Nat.{ℕ, ◌+◌, ◌*◌, ◌/◌, ◌%◌, ◌^◌, ◌≤◌, ◌<◌}
use native.Mathlib.Nat.{add_assoc, add_comm, add_left_comm, mul_assoc, mul_comm, mul_left_comm, mul-add, add-mul, div-add-mod', mul-le-mul_left, mul-le-mul_right, le_trans}
use native.Mathlib.Omega.{arith}

-- the product of two digits of 32 bits
digits : {x y : ℕ} → x < 2 ^ 32 → y < 2 ^ 32 → x * y ≤ 0xffff_ffff * 0xffff_ffff
digits {x} {y} hx hy =
    let x-most : x ≤ 0xffff_ffff = omega arith in
    let y-most : y ≤ 0xffff_ffff = omega arith in
    le_trans (mul-le-mul_right y x-most) (mul-le-mul_left 0xffff_ffff y-most)

-- the four products of the digits of a and b: no column passes a word
pub record Digits (a b : ℕ) : Type 0 where
  pub low-low : a % 2 ^ 32 * (b % 2 ^ 32) ≤ 0xffff_ffff * 0xffff_ffff
  pub high-low : a / 2 ^ 32 * (b % 2 ^ 32) ≤ 0xffff_ffff * 0xffff_ffff
  pub low-high : a % 2 ^ 32 * (b / 2 ^ 32) ≤ 0xffff_ffff * 0xffff_ffff
  pub high-high : a / 2 ^ 32 * (b / 2 ^ 32) ≤ 0xffff_ffff * 0xffff_ffff

pub small : (a b : ℕ) → a < 2 ^ 64 → b < 2 ^ 64 → Digits a b
small a b ha hb =
    record {
      low-low = digits (omega arith) (omega arith);
      high-low = digits (omega arith) (omega arith);
      low-high = digits (omega arith) (omega arith);
      high-high = digits (omega arith) (omega arith);
    }

-- the product of two numbers of two digits in any base P, given each column's carry and digit
columns : (P a₀ a₁ b₀ b₁ q₀ r₀ q r q₁ r₁ : ℕ) → a₀ * b₀ ≡ q₀ * P + r₀ → a₁ * b₀ + q₀ ≡ q * P + r → r + a₀ * b₁ ≡ q₁ * P + r₁
    → (a₁ * b₁ + q + q₁) * (P * P) + (r₁ * P + r₀) ≡ (a₁ * P + a₀) * (b₁ * P + b₀)
columns P a₀ a₁ b₀ b₁ q₀ r₀ q r q₁ r₁ e₀ e e₁ =
    sorted₁ ∙ ap (λ (x : ℕ). a₁ * b₁ * (P * P) + q * (P * P) + x * P + r₀) (sym e₁)
    ∙ sorted₂ ∙ ap (λ (x : ℕ). a₁ * b₁ * (P * P) + x * P + a₀ * b₁ * P + r₀) (sym e)
    ∙ sorted₃ ∙ ap (λ (x : ℕ). a₁ * b₁ * (P * P) + a₁ * b₀ * P + a₀ * b₁ * P + x) (sym e₀)
    ∙ sorted₄
  where
    sorted₁ : (a₁ * b₁ + q + q₁) * (P * P) + (r₁ * P + r₀) ≡ a₁ * b₁ * (P * P) + q * (P * P) + (q₁ * P + r₁) * P + r₀
    sorted₁ = simp (add-mul, mul_assoc, mul_comm, mul_left_comm, add_assoc, add_comm, add_left_comm) refl

    sorted₂ : a₁ * b₁ * (P * P) + q * (P * P) + (r + a₀ * b₁) * P + r₀ ≡ a₁ * b₁ * (P * P) + (q * P + r) * P + a₀ * b₁ * P + r₀
    sorted₂ = simp (add-mul, mul_assoc, mul_comm, mul_left_comm, add_assoc, add_comm, add_left_comm) refl

    sorted₃ : a₁ * b₁ * (P * P) + (a₁ * b₀ + q₀) * P + a₀ * b₁ * P + r₀ ≡ a₁ * b₁ * (P * P) + a₁ * b₀ * P + a₀ * b₁ * P + (q₀ * P + r₀)
    sorted₃ = simp (add-mul, mul_assoc, mul_comm, mul_left_comm, add_assoc, add_comm, add_left_comm) refl

    sorted₄ : a₁ * b₁ * (P * P) + a₁ * b₀ * P + a₀ * b₁ * P + a₀ * b₀ ≡ (a₁ * P + a₀) * (b₁ * P + b₀)
    sorted₄ = simp (mul-add, add-mul, mul_assoc, mul_comm, mul_left_comm, add_assoc, add_comm, add_left_comm) refl

-- the columns of a product, as the program computes them
abbrev pub low : (P a b : ℕ) → ℕ
low P a b = a % P * (b % P)

abbrev pub middle : (P a b : ℕ) → ℕ
middle P a b = a / P * (b % P) + low P a b / P

abbrev pub next : (P a b : ℕ) → ℕ
next P a b = middle P a b % P + a % P * (b / P)

pub product_is : (P a b : ℕ) → (a / P * (b / P) + middle P a b / P + next P a b / P) * (P * P) + (next P a b % P * P + low P a b % P) ≡ a * b
product_is P a b =
    columns P (a % P) (a / P) (b % P) (b / P) (low P a b / P) (low P a b % P) (middle P a b / P) (middle P a b % P) (next P a b / P) (next P a b % P)
    (sym (div-add-mod' (low P a b) P)) (sym (div-add-mod' (middle P a b) P)) (sym (div-add-mod' (next P a b) P))
    ∙ (λ i. div-add-mod' a P i * div-add-mod' b P i)

-- only the last decimal digit of the upper word reaches the lower word of a quotient by 10
last-digit : (hi lo : ℕ) → lo < 2 ^ 64 → (hi * 2 ^ 64 + lo) / 10 % 2 ^ 64 ≡ (hi % 10 * 2 ^ 64 + lo) / 10
last-digit hi lo h =
    let parts : (hi * 2 ^ 64 + lo) / 10 ≡ hi / 10 * 2 ^ 64 + (hi % 10 * 2 ^ 64 + lo) / 10 = omega arith in
    let fits : (hi % 10 * 2 ^ 64 + lo) / 10 < 2 ^ 64 = omega arith in
    ap (λ (n : ℕ). n % 2 ^ 64) parts ∙ rest (hi / 10) ((hi % 10 * 2 ^ 64 + lo) / 10) fits
  where
    rest : (k m : ℕ) → m < 2 ^ 64 → (k * 2 ^ 64 + m) % 2 ^ 64 ≡ m
    rest k m h = omega arith

pub upper_fits : (hi : ℕ) {lo : ℕ} → lo < 2 ^ 64 → hi % 10 * 2 ^ 32 + lo / 2 ^ 32 < 2 ^ 64
upper_fits hi h = omega arith

-- long division of h * 2^64 + lo by 10
long-division : (h lo : ℕ) → (let upper = h * 2 ^ 32 + lo / 2 ^ 32 in upper / 10 * 2 ^ 32 + (upper % 10 * 2 ^ 32 + lo % 2 ^ 32) / 10) ≡ (h * 2 ^ 64 + lo) / 10
long-division h lo = omega arith

pub tenth-is : (hi lo : ℕ) → lo < 2 ^ 64
    → (let upper = hi % 10 * 2 ^ 32 + lo / 2 ^ 32 in upper / 10 * 2 ^ 32 + (upper % 10 * 2 ^ 32 + lo % 2 ^ 32) / 10) ≡ (hi * 2 ^ 64 + lo) / 10 % 2 ^ 64
tenth-is hi lo h = long-division (hi % 10) lo ∙ sym (last-digit hi lo h)
