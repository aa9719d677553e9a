-- From the root of 25 digits to the nearest of 24: the last digit rounds, up where it is 1. No tie can be, since the
-- square of an odd number is odd. Assumes nothing.
use mathlib.Core.Path.{◌≡◌, ap, ◌∙◌}
use mathlib.Core.Logic.{inl, inr}
use Prim.Native.Nat.{ℕ, ◌+◌, ◌-◌, ◌*◌, ◌/◌, ◌%◌, ◌^◌, ◌≤◌, ◌<◌}
use native.Mathlib.Nat.{lt_of_lt_of_le, lt_of_le_of_lt, lt_of_not-le, eq-zero-or-pos, mul-le-mul, mul-le-mul_left}
use native.Mathlib.Nat.{mul-lt-mul_of_pos_right}
use native.Mathlib.Omega.{arith}
use lib.Pow.{pow-add, pow_mono, shl_lt}
use Rattle.number.specs.declared.by_hand.Sheet.{Sheet}
use Rattle.number.specs.Inner.{OnSheet, RootBits, whole_of}
use Rattle.number.proofs.SquareRoot.Squares.{square_even, square_odd, square_next}

-- the number whose root is worked out has at most 25 digits
pub number_short : (p k : ℕ) → p < 2 ^ 24 → p * 2 ^ (k % 2) < 2 ^ 25
number_short p k h = lt_of_lt_of_le (shl_lt 24 (k % 2) h) (pow_mono {i = 24 + k % 2} {j = 25} (omega arith))

-- a number below the double root is below it squared
under_half : (r n : ℕ) → 1 ≤ r → 4 * (r * r) ≤ n → (2 * r - 1) * (2 * r - 1) < n
under_half r n h l =
    let a : 2 * r - 1 ≤ 2 * r = omega arith in
    let s : 2 * r - 1 < 2 * r = omega arith in
    let z : 0 < 2 * r = omega arith in
    let e = square_even r in
    let t : (2 * r - 1) * (2 * r - 1) < 2 * r * (2 * r) =
    lt_of_le_of_lt (mul-le-mul_left (2 * r - 1) a) (mul-lt-mul_of_pos_right s z) in
    omega arith

module _ (p k : ℕ) (low : 2 ^ 23 ≤ p) (high : p < 2 ^ 24) where
  pub whole_ge : 2 ^ 46 ≤ whole_of p k
  whole_ge = mul-le-mul low (pow_mono {i = 23} {j = 23 + k % 2} (omega arith))

  -- p is at most 2 ^ 24 - 1
  whole_le : whole_of p k ≤ 16777215 * 16777216
  whole_le =
      let h : p ≤ 16777215 = omega arith in
      mul-le-mul h (pow_mono {i = 23 + k % 2} {j = 24} (omega arith))

  module _ (root left : ℕ) (e : root * root + left ≡ 4 * whole_of p k) (l : left < 2 * root + 1) where
    root_low : 2 ^ 24 ≤ root
    root_low = below (λ (g : root < 2 ^ 24).
        let s = square_next root in
        let u : root + 1 ≤ 2 ^ 24 = omega arith in
        let t : (root + 1) * (root + 1) ≤ 2 ^ 24 * 2 ^ 24 = mul-le-mul u u in
        omega (arith, whole_ge))
      where
        below : (root < 2 ^ 24 → ⊥) → 2 ^ 24 ≤ root
        below f = omega arith

    -- the root is not the largest of 25 digits, which would round up to one digit more
    root_high : root < 33554431
    root_high = lt_of_not-le (λ (g : 33554431 ≤ root).
        let t : 33554431 * 33554431 ≤ root * root = mul-le-mul g g in omega (arith, whole_le))

    -- the last digit is 0: the exact root lies at or above the half of the root, and below the middle to the next
    down : root % 2 ≡ 0 → (b : ℕ) → b ≡ (k / 2 + 51) * 2 ^ 23 + (root + 1) / 2 → RootBits p k b
    down z b m =
        let h = root_low in
        let q = (root + 1) / 2 in
        let r : root ≡ 2 * q = omega arith in
        let s = square_even q in
        let t = square_next root in
        let f : root * root ≡ 2 * q * (2 * q) = ap (λ (y : ℕ). y * y) r in
        let g : (root + 1) * (root + 1) ≡ (2 * q + 1) * (2 * q + 1) = ap (λ (y : ℕ). (y + 1) * (y + 1)) r in
        record {
          digits = q;
          made = m;
          low = omega arith;
          high = omega (arith, root_high);
          under = under_half q (4 * whole_of p k) (omega arith) (omega arith);
          over = omega arith;
        }

    -- it is 1: the exact root lies above the middle, since the square is odd, and below the next
    up : 0 < root % 2 → (b : ℕ) → b ≡ (k / 2 + 51) * 2 ^ 23 + (root + 1) / 2 → RootBits p k b
    up z b m =
        let h = root_low in
        let q = (root + 1) / 2 in
        let r : root ≡ 2 * (q - 1) + 1 = omega arith in
        let r' : root ≡ 2 * q - 1 = omega arith in
        let s = square_odd (q - 1) in
        let f : root * root ≡ (2 * (q - 1) + 1) * (2 * (q - 1) + 1) = ap (λ (y : ℕ). y * y) r in
        let g : root * root ≡ (2 * q - 1) * (2 * q - 1) = ap (λ (y : ℕ). y * y) r' in
        let t = square_next root in
        let n : (root + 1) * (root + 1) ≡ 2 * q * (2 * q) = ap (λ (y : ℕ). y * y) (omega arith) in
        let o = square_odd q in
        let v = square_even q in
        record {
          digits = q;
          made = m;
          low = omega arith;
          high = omega (arith, root_high);
          under = omega arith;
          over = omega arith;
        }

    pub rounded : (b : ℕ) → b ≡ (k / 2 + 51) * 2 ^ 23 + (root + 1) / 2 → RootBits p k b
    rounded b m = elim (eq-zero-or-pos (root % 2)) [ inl z ↦ down z b m | inr z ↦ up z b m ]

-- ---- from the sheet after 25 digits
module _ (p k : ℕ) (low : 2 ^ 23 ≤ p) (high : p < 2 ^ 24) (s : Sheet) (o : OnSheet (p * 2 ^ (k % 2) * 2 ^ 25) 1 s) where
  abbrev root : ℕ
  root = o.digits * 1

  whole_is : p * 2 ^ (k % 2) * 2 ^ 25 ≡ 4 * whole_of p k
  whole_is =
      let e : whole_of p k ≡ p * 2 ^ (k % 2) * 2 ^ 23 =
      ap (λ (y : ℕ). p * y) (pow-add 2 23 (k % 2)) ∙ order p (2 ^ (k % 2)) in
      omega arith
    where
      order : (p y : ℕ) → p * (2 ^ 23 * y) ≡ p * y * 2 ^ 23
      order p y = omega arith

  square : root * root + s.left ≡ 4 * whole_of p k
  square = let r = o.remains in omega (arith, whole_is)

  pub sheet_short : s.twice < 2 ^ 26
  sheet_short = let d = o.double in omega (arith, root_high p k low high root s.left square o.small)

  pub sheet_rounded : (b : ℕ) → b ≡ (k / 2 + 51) * 2 ^ 23 + (s.twice + 2) / 4 → RootBits p k b
  sheet_rounded b m =
      let d = o.double in rounded p k low high root s.left square o.small b (omega arith)
