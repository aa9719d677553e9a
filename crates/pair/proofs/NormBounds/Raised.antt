-- The root of a number that is near to the exact one, times the factor: it errs upward, and by little. In parts of 2 ^ -28
-- the factor may be one and 77 to 179 of them; it is one and 128. Assumes nothing.
use Prim.Native.Nat.{ℕ, ◌+◌, ◌-◌, ◌*◌, ◌^◌, ◌≤◌}
use native.Mathlib.Nat.{le_trans, le_of_eq, le_of_mul-le-mul_right, mul_assoc, mul_right_comm, mul-le-mul}
use native.Mathlib.Nat.{mul-le-mul_left, mul-le-mul_right}
use native.Mathlib.Omega.{arith}
use mathlib.Core.Path.{sym}
use lib.Dec.{lit≤}
use lib.Pow.{pow_pos}
use lib.Ieee.{of_bits}
use Rattle.number.specs.Number.{units_of}
use Rattle.number.proofs.Rounding.{rnd}
use Rattle.number.proofs.Units.Compared.{L}
use Rattle.number.proofs.Errors.{Off, rnd_off, squares, OfSum, OfRoot}
use Rattle.pair.proofs.Norms.{factor}

-- r units times the factor, rounded
abbrev pub product : ℕ → ℕ
product r = rnd (r * factor) L

-- ---- the factor
factor_least : L * (2 ^ 28 + 77) ≤ factor * 2 ^ 28
unfolding of_bits units_of
factor_least = lit≤ tt

factor_most : factor * 2 ^ 28 ≤ L * (2 ^ 28 + 179)
unfolding of_bits units_of
factor_most = lit≤ tt

-- ---- the product, which is rounded: of x with the factor, y, that is z; and l is small beside x
least_by : (x y z l : ℕ) → x * (2 ^ 28 + 77) ≤ y * 2 ^ 28 → y * 2 ^ 24 ≤ z * 2 ^ 24 + y + l * 2 ^ 23 → l * 2 ^ 30 ≤ x
    → x * (2 ^ 28 + 60) ≤ z * 2 ^ 28
least_by x y z l f o t = omega arith

most_by : (x y z l : ℕ) → y * 2 ^ 28 ≤ x * (2 ^ 28 + 179) → z * 2 ^ 24 ≤ y * 2 ^ 24 + y + l * 2 ^ 23 → l * 2 ^ 30 ≤ x
    → z * 2 ^ 28 ≤ x * (2 ^ 28 + 196)
most_by x y z l f o t = omega arith

-- ---- squares: of the exact number (e), of the root (r) and of the product (p); n is the number under the root, and l
-- is small beside it
e_to_r : (e n r l : ℕ) → e * (2 ^ 28 - 84) ≤ n * 2 ^ 28 + l * 2 ^ 29 → n * 2 ^ 28 ≤ r * (2 ^ 28 + 33) → l * 2 ^ 29 ≤ r
    → e * (2 ^ 28 - 84) ≤ r * (2 ^ 28 + 34)
e_to_r e n r l s o k = omega arith

r_to_e : (e n r l : ℕ) → n * 2 ^ 28 ≤ e * (2 ^ 28 + 84) + l * 2 ^ 29 → r * (2 ^ 28 - 33) ≤ n * 2 ^ 28 → l * 2 ^ 29 ≤ r
    → r * (2 ^ 28 - 34) ≤ e * (2 ^ 28 + 84)
r_to_e e n r l s o k = omega arith

e_to_p : (e r p : ℕ) → e * (2 ^ 28 - 84) ≤ r * (2 ^ 28 + 34)
    → r * ((2 ^ 28 + 60) * (2 ^ 28 + 60)) ≤ p * (2 ^ 28 * 2 ^ 28) → e ≤ p
e_to_p e r p h k = omega arith

p_to_e : (e r p : ℕ) → r * (2 ^ 28 - 34) ≤ e * (2 ^ 28 + 84)
    → p * (2 ^ 28 * 2 ^ 28) ≤ r * ((2 ^ 28 + 196) * (2 ^ 28 + 196))
    → p * 2 ^ 40 ≤ e * ((2 ^ 20 + 1) * (2 ^ 20 + 1))
p_to_e e r p h k = omega arith

-- ---- the root of n is r, 2 ^ -60 or more
module _ (r : ℕ) (g : 2 ^ 89 ≤ r) where
  abbrev p : ℕ
  p = product r

  off : Off p (r * factor) L
  off = rnd_off (r * factor) L (pow_pos 149)

  tall : L * 2 ^ 30 ≤ r * L
  tall = le_trans (lit≤ {m = L * 2 ^ 30} tt) (mul-le-mul_right L g)

  at_least : r * (2 ^ 28 + 60) ≤ p * 2 ^ 28
  at_least =
      le_of_mul-le-mul_right (le_trans (le_of_eq (mul_right_comm r (2 ^ 28 + 60) L))
      (le_trans (least_by (r * L) (r * factor) (p * L) L (times_least r) off.1 tall)
      (le_of_eq (mul_right_comm p L (2 ^ 28))))) (pow_pos 149)
    where
      times_least : (r : ℕ) → r * L * (2 ^ 28 + 77) ≤ r * factor * 2 ^ 28
      times_least r =
          le_trans (le_of_eq (mul_assoc r L (2 ^ 28 + 77)))
          (le_trans (mul-le-mul_left r factor_least) (le_of_eq (sym (mul_assoc r factor (2 ^ 28)))))

  at_most : p * 2 ^ 28 ≤ r * (2 ^ 28 + 196)
  at_most =
      le_of_mul-le-mul_right (le_trans (le_of_eq (mul_right_comm p (2 ^ 28) L))
      (le_trans (most_by (r * L) (r * factor) (p * L) L (times_most r) off.0 tall)
      (le_of_eq (mul_right_comm r L (2 ^ 28 + 196))))) (pow_pos 149)
    where
      times_most : (r : ℕ) → r * factor * 2 ^ 28 ≤ r * L * (2 ^ 28 + 179)
      times_most r =
          le_trans (le_of_eq (mul_assoc r factor (2 ^ 28)))
          (le_trans (mul-le-mul_left r factor_most) (le_of_eq (sym (mul_assoc r L (2 ^ 28 + 179)))))

  pub product_grows : r ≤ p
  product_grows = more r p at_least
    where
      more : (r p : ℕ) → r * (2 ^ 28 + 60) ≤ p * 2 ^ 28 → r ≤ p
      more r p h = omega arith

  module _ (e n : ℕ) (s : OfSum n e L) (o : OfRoot r n) where
    small : L * 2 ^ 29 ≤ r * r
    small = le_trans (lit≤ {m = L * 2 ^ 29} tt) (mul-le-mul g g)

    pub product_upward : e ≤ p * p
    product_upward =
        e_to_p e (r * r) (p * p) (e_to_r e n (r * r) L s.1 o.1 small)
        (squares r p (2 ^ 28 + 60) (2 ^ 28) at_least)

    pub product_little : p * p * 2 ^ 40 ≤ e * ((2 ^ 20 + 1) * (2 ^ 20 + 1))
    product_little =
        p_to_e e (r * r) (p * p) (r_to_e e n (r * r) L s.0 o.0 small)
        (squares p r (2 ^ 28) (2 ^ 28 + 196) at_most)
