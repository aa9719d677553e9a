-- What the tests of an exact multiplication (specs/SamePair.antt) tell of a number: its units, that it is finite, that
-- its square can be multiplied. Assumes nothing.
use Prim.Native.Nat.{ℕ, suc, ◌*◌, ◌^◌, ◌≤◌}
use native.Mathlib.Nat.{mul-one}
use mathlib.Core.Path.{◌≡◌, sym, ap, ◌∙◌, subst}
use mathlib.Core.Logic.{◌⊎◌, inl, inr}
use mathlib.Core.Bool.{Bool, false}
use lib.Dec.{T, eqb, eqb→eq, lit<, lit≤}
use lib.IntN.{ℤ, pos, negsuc}
use lib.Ieee.{Float, binary32, up, down, le, fits, of_bits}
use lib.Ieee.Exact.{HasValue}
use lib.Ieee.Scale.{finite}
use Rattle.number.specs.Number.{◌⊗◌, size, is_finite, units_of}
use Rattle.number.proofs.Rounding.{rnd}
use Rattle.number.proofs.Units.Compared.{L, le_says}
use Rattle.number.proofs.Comparing.{or_cases, all_three}
use Rattle.number.proofs.Within.{Within, value_within, within_finite, mul_within}
use Rattle.number.proofs.Finite.{is_finite_lem}
use Rattle.number.proofs.Patterns.{bits_are}
use Rattle.number.proofs.Signed.{own_value, value_rep, value_units, value_size, zero_value}
use Rattle.number.proofs.PowersOfTwo.Times.{Times}
use Rattle.number.proofs.PowersOfTwo.Squares.{Squared, square_value, square_large}
use Rattle.number.proofs.PowersOfTwo.Products.{product_value}
use Rattle.pair.specs.SamePair.{power_of, normal, is_zero, normal_or_zero, exact_square, exact_coordinate}

-- ---- a normal f32, or a zero
abbrev least : Float
least = of_bits binary32 0x0080_0000

module _ (x : Float) (h : T (normal x)) where
  parts : T (fits binary32 x) × T (is_finite x) × T (le least (size x))
  unfolding normal
  parts = all_three (fits binary32 x) (is_finite x) (le least (size x)) h

  normal_finite : T (finite x)
  normal_finite = subst T (is_finite_lem x) parts.1

  -- in units it is 2 ^ 23 at least
  normal_large : (s : Bool) (u : ℕ) → HasValue x s u L → 2 ^ 23 ≤ u
  normal_large s u v =
      le_says least (size x) (2 ^ 23) u (bits_are 0x0080_0000 (lit< tt)) (value_size x s u v) parts.2

zero_within : (x : Float) → T (is_zero x) → Within 0 x
zero_within x h = let (s, v) = zero_value x h in value_within 0 s x 0 (lit≤ tt) v

pub settled_finite : (x : Float) → T (normal_or_zero x) → T (finite x)
unfolding normal_or_zero
settled_finite x h = elim (or_cases (normal x) (is_zero x) h) [
  | inl n ↦ normal_finite x n
  | inr z ↦ within_finite 0 x (zero_within x z)
]

pub settled_value : (x : Float) → T (normal_or_zero x) → (s : Bool) × (u : ℕ) × HasValue x s u L
unfolding normal_or_zero
settled_value x h = elim (or_cases (normal x) (is_zero x) h) [
  | inl n ↦ own_value x (parts x n).0 (normal_finite x n)
  | inr z ↦ let (s, v) = zero_value x z in (s, 0, v)
]

-- ---- a square
module _ (d : Float) (h : T (exact_square d)) where
  cases : T (normal (d ⊗ d)) ⊎ T (is_zero d)
  unfolding exact_square
  cases = or_cases (normal (d ⊗ d)) (is_zero d) h

  pub square_finite : T (finite (d ⊗ d))
  square_finite = elim cases [
    | inl n ↦ normal_finite (d ⊗ d) n
    | inr z ↦ within_finite 0 (d ⊗ d) (mul_within 0 0 d d (lit≤ tt) (zero_within d z) (zero_within d z))
  ]

  pub square_squared : T (fits binary32 d) → (s : Bool) (u : ℕ) → HasValue d s u L → Squared u
  square_squared f s u v = elim cases [
    | inl n ↦
        square_large u (value_rep d s u f v)
        (normal_large (d ⊗ d) n false (rnd (u * u) L) (square_value d s u v (normal_finite (d ⊗ d) n)))
    | inr z ↦ let (r, w) = zero_value d z in inl (sym (value_units d s u v) ∙ value_units d r 0 w)
  ]

-- ---- a coordinate and its product with 2 ^ k: the smaller one and the larger one
abbrev pub ByPower : ℤ → Float → Float → Type 0
ByPower (pos t) c y = Times t c y
ByPower (negsuc n) c y = Times (suc n) y c

pub units_by : (k : ℤ) (x y : Float) → ByPower k x y → units_of y * down k ≡ units_of x * up k
units_by (pos t) x y p =
    mul-one (units_of y) ∙ value_units y p.sign (p.units * 2 ^ t) p.large
    ∙ ap (λ (n : ℕ). n * 2 ^ t) (sym (value_units x p.sign p.units p.small))
units_by (negsuc n) x y p =
    ap (λ (m : ℕ). m * 2 ^ suc n) (value_units y p.sign p.units p.small)
    ∙ sym (mul-one (units_of x) ∙ value_units x p.sign (p.units * 2 ^ suc n) p.large)

pub coordinate_times : (k : ℤ) (c : Float) → T (exact_coordinate k c) → ByPower k c (c ⊗ power_of k)
unfolding exact_coordinate
coordinate_times k c h =
    let y = c ⊗ power_of k in
    let (a, b, e) = all_three (normal_or_zero c) (normal_or_zero y) (eqb (units_of y * down k) (units_of c * up k)) h in
    let (s, u, v) = settled_value c a in
    let w = product_value k c s u v (settled_finite y b) in
    by k y s u (rnd (u * up k) (down k)) v w
    (ap (λ (n : ℕ). n * down k) (sym (value_units y s (rnd (u * up k) (down k)) w))
    ∙ eqb→eq (units_of y * down k) (units_of c * up k) e ∙ ap (λ (n : ℕ). n * up k) (value_units c s u v))
  where
    by : (k : ℤ) (y : Float) (s : Bool) (u w : ℕ) → HasValue c s u L → HasValue y s w L → w * down k ≡ u * up k
        → ByPower k c y
    by (pos t) y s u w p q e = record {
      sign = s;
      units = u;
      small = p;
      large = subst (λ (n : ℕ). HasValue y s n L) (sym (mul-one w) ∙ e) q;
    }
    by (negsuc n) y s u w p q e = record {
      sign = s;
      units = w;
      small = q;
      large = subst (λ (n : ℕ). HasValue c s n L) (sym (e ∙ mul-one u)) p;
    }
