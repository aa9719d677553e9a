-- What a caller wants of the root of a positive finite x: it is an f32 of sign plus, above zero, a whole number of
-- units nearest to the exact root (`Root` of Products), and of half the exponent's bound. Assumes nothing.
use mathlib.Core.Path.{◌≡◌, refl, sym, ap, ◌∙◌, subst}
use mathlib.Core.Bool.{Bool, true, false}
use Prim.Native.Nat.{ℕ, ◌+◌, ◌-◌, ◌*◌, ◌/◌, ◌^◌, ◌≤◌, ◌<◌, zero-le}
use native.Mathlib.Nat.{le_trans, le_of_eq, le_of_lt, lt_of_lt_of_le, lt_of_le_of_lt, not-le_of_lt, mul_comm, mul-one}
use native.Mathlib.Nat.{one-mul, mul-sub, mul_assoc, mul-mul-mul_comm, mul-pos, mul-le-mul_right, mul-le-mul_left}
use native.Mathlib.Omega.{arith}
use lib.Dec.{T, lt→ltb, lit<, lit≤}
use lib.Pow.{pow-add, pow_pos, pow_mono, pow-lt, shl_lt}
use lib.Ieee.{Float, nan, inf, fin, binary32, lt, fits, of_bits}
use lib.Ieee.Bits.{of_bits-fits}
use Rattle.number.specs.Number.{zero32, is_finite, units_of, twice_root_squared, root_of}
use Rattle.number.specs.Inner.{whole_of}
use Rattle.number.proofs.Numbers.{le_of_not_lt, square_back}
use Rattle.number.proofs.Units.{L, Top, Is, Unit32, fit, plus, zero_is, says_lt}
use Rattle.number.proofs.Products.{Root}
use Rattle.number.proofs.Within.{Within, within_finite, within_units, units_within}
use Rattle.number.proofs.Ranges.{power}
use Rattle.number.proofs.Neighbours.{after}
use Rattle.number.proofs.Patterns.{val, bits_are}
use Rattle.number.proofs.SquareRoot.Nearest.{units_is}
use Rattle.number.proofs.SquareRoot.Bits.{val_is, whole_scale}
use Rattle.number.proofs.SquareRoot.Argument.{not_above, not_finite}
use Rattle.number.proofs.SquareRoot.Found.{Found, found}
use Rattle.number.proofs.SquareRoot.Theorem.{FromZero}
use Rattle.number.proofs.SquareRoot.Theorem as theorem

-- ---- of every x
zero_from : FromZero zero32
unfolding of_bits is_finite
zero_from = record { fit = of_bits-fits binary32 0; sign = tt; real = tt }

-- a root is an f32 from zero up
pub root_from_zero : (x : Float) → T (fits binary32 x) → FromZero (root_of x)
root_from_zero x f = go (lt zero32 x) (is_finite x) refl refl
  where
    go : (a b : Bool) → lt zero32 x ≡ a → is_finite x ≡ b → FromZero (root_of x)
    go true true p q = theorem.root_from x f (subst T (sym p) tt) (subst T (sym q) tt)
    go true false p q = subst FromZero (not_finite x q) zero_from
    go false b p q = subst FromZero (not_above x p) zero_from

-- ---- of a positive finite x, which is u units
pub record RootUnits (x : Float) (u : ℕ) : Type 0 where
  pub units : ℕ
  pub is : Unit32 (root_of x) units
  pub sign : T (plus (root_of x))
  pub above : T (lt zero32 (root_of x))
  pub near : Root (u * L) units

real : (x : Float) (u : ℕ) → Is x u → T (is_finite x)
unfolding is_finite
real nan u i = elim i [ ]
real (inf _) u i = elim i [ ]
real (fin s m e) u i = tt

module _ (x : Float) (u : ℕ) (f : T (fits binary32 x)) (a : T (lt zero32 x)) (i : Is x u) where
  abbrev r : Found x
  r = found x f a (real x u i)

  abbrev R : ℕ
  R = val r.b

  abbrev j : ℕ
  j = r.k / 2 + 51

  digits_are : R ≡ r.bits.digits * 2 ^ j
  digits_are = val_is r.p r.k r.b r.low r.high r.short r.bits

  root_units : Is (root_of x) R
  root_units =
      subst (λ (y : Float). Is y R) (sym (theorem.is_root x f a (real x u i)))
      (bits_are r.b (theorem.under_top x f a (real x u i)))

  four_times : u * L * 4 ≡ 4 * whole_of r.p r.k * (2 ^ j * 2 ^ j)
  four_times =
      ap (λ (n : ℕ). n * L * 4) (sym (units_is x u i)) ∙ ap (λ (n : ℕ). n * 4) r.scale
      ∙ ap (λ (n : ℕ). n * 4) (whole_scale r.p r.k) ∙ four (whole_of r.p r.k) (2 ^ j * 2 ^ j)
    where
      four : (a b : ℕ) → a * b * 4 ≡ 4 * a * b
      four a b = mul_comm (a * b) 4 ∙ sym (mul_assoc 4 a b)

  -- the exact root is at most a half of the last digit above
  close : u * L * 4 ≤ (R * 2 + 2 ^ j) * (R * 2 + 2 ^ j)
  close =
      let q = r.bits.digits in
      let w = 2 ^ j in
      le_trans (le_of_eq four_times)
      (le_trans (mul-le-mul_right (w * w) (le_of_lt r.bits.over))
      (le_of_eq (sym (mul-mul-mul_comm (2 * q + 1) w (2 * q + 1) w)
      ∙ ap (λ (n : ℕ). n * n) (regroup q w ∙ ap (λ (n : ℕ). n * 2 + w) (sym digits_are)))))
    where
      regroup : (q w : ℕ) → (2 * q + 1) * w ≡ q * w * 2 + w
      regroup q w = omega arith

  -- and at most a half of it below
  apart : (R * 2 - 2 ^ j) * (R * 2 - 2 ^ j) ≤ u * L * 4
  apart =
      let q = r.bits.digits in
      let w = 2 ^ j in
      le_trans (le_of_eq (ap (λ (n : ℕ). (n * 2 - w) * (n * 2 - w)) digits_are ∙ ap (λ (n : ℕ). n * n) (regroup q w)
      ∙ mul-mul-mul_comm (2 * q - 1) w (2 * q - 1) w))
      (le_trans (mul-le-mul_right (w * w) (le_of_lt r.bits.under)) (le_of_eq (sym four_times)))
    where
      twice : (q w : ℕ) → q * w * 2 ≡ w * (2 * q)
      twice q w = omega arith

      regroup : (q w : ℕ) → q * w * 2 - w ≡ (2 * q - 1) * w
      regroup q w =
          ap (λ (n : ℕ). n - w) (twice q w) ∙ ap (λ (n : ℕ). w * (2 * q) - n) (sym (mul-one w)) ∙ sym (mul-sub w (2 * q) 1)
          ∙ mul_comm w (2 * q - 1)

  small : R < Top
  small =
      lt_of_lt_of_le (subst (λ (n : ℕ). n < 2 ^ (24 + j)) (sym digits_are) (shl_lt 24 j r.bits.high))
      (pow_mono {i = 24 + j} {j = 277} (let s = r.short in omega arith))

  some : 0 < R
  some = subst (λ (n : ℕ). 0 < n) (sym digits_are) (mul-pos (lt_of_lt_of_le (lit< tt) r.bits.low) (pow_pos j))

  pub root_facts : RootUnits x u
  root_facts = record {
    units = R;
    is = record { is = root_units; rep = (r.bits.digits, j, r.bits.high, digits_are); under = small };
    sign = (theorem.root_from x f a (real x u i)).sign;
    above = says_lt zero32 (root_of x) 0 R zero_is root_units some;
    near = record { k = j; q = r.bits.digits; is = digits_are; digits = r.bits.low; low = close; high = apart };
  }

-- ---- the bound: a number of at most 2 ^ (2 * a) has a root of at most 2 ^ a
power_fits : (a : ℕ) → a ≤ 127 → T (fits binary32 (power a))
unfolding fits
power_fits a l = lt→ltb (1 * 2 ^ a) (2 ^ 128 * 1) (lt_of_le_of_lt (le_of_eq (one-mul (2 ^ a))) (pow-lt (room a l)))
  where
    room : (a : ℕ) → a ≤ 127 → a < 128
    room a l = omega arith

power_from : (a : ℕ) → a ≤ 127 → FromZero (power a)
unfolding is_finite
power_from a l = record { fit = power_fits a l; sign = tt; real = tt }

power_units : (a : ℕ) → units_of (power a) ≡ 2 ^ a * L
power_units a = units_is (power a) (2 ^ a * L) (ap (λ (n : ℕ). n * L) (one-mul (2 ^ a)) ∙ sym (mul-one (2 ^ a * L)))

zero_within : (a : ℕ) → Within a zero32
unfolding of_bits
zero_within a = zero-le

-- the square of twice the root is at most that of twice the bound
target_le : (a : ℕ) (x : Float) (u : ℕ) → Is x u → Within (2 * a) x
    → let w = 2 ^ a * L in twice_root_squared x ≤ (w + w) * (w + w)
unfolding twice_root_squared
target_le a x u i h =
    let w = 2 ^ a * L in
    le_trans (le_of_eq (ap (λ (n : ℕ). 4 * (n * L)) (units_is x u i)))
    (le_trans (mul-le-mul_left 4 (mul-le-mul_right L (within_units (2 * a) x u i h)))
    (le_of_eq (ap (λ (n : ℕ). 4 * (n * L * L)) (ap (λ (n : ℕ). 2 ^ n) (double a) ∙ pow-add 2 a a)
    ∙ ap (λ (n : ℕ). 4 * n) (regroup (2 ^ a) L) ∙ four w)))
  where
    double : (a : ℕ) → 2 * a ≡ a + a
    double a = omega arith

    regroup : (p l : ℕ) → p * p * l * l ≡ p * l * (p * l)
    regroup p l = mul_assoc (p * p) l l ∙ mul-mul-mul_comm p p l l

    four : (w : ℕ) → 4 * (w * w) ≡ (w + w) * (w + w)
    four w = omega arith

above_within : (a : ℕ) (x : Float) → a ≤ 127 → T (fits binary32 x) → T (lt zero32 x) → Within (2 * a) x
    → Within a (root_of x)
above_within a x l f p h =
    let i = (after zero32 x 0 zero_is f (within_finite (2 * a) x h) p).1 in
    let k = root_facts x i.0 f p i.1.is in
    let s = k.units in
    let w = 2 ^ a * L in
    let n = theorem.none_nearer x f p (real x i.0 i.1.is) (power a) (power_from a l) in
    let r : units_of (root_of x) ≡ s = units_is (root_of x) s k.is.is in
    let b : w < s → (s + w) * (s + w) ≤ twice_root_squared x = rw (power_units a, r) at n.below in
    units_within a (root_of x) s k.is.is
    (le_of_not_lt (λ (g : w < s).
    not-le_of_lt g (half s w (square_back (s + w) (w + w) (le_trans (b g) (target_le a x i.0 i.1.is h))))))
  where
    half : (s w : ℕ) → s + w ≤ w + w → s ≤ w
    half s w h = omega arith

pub root_within : (a : ℕ) (x : Float) → a ≤ 127 → T (fits binary32 x) → Within (2 * a) x → Within a (root_of x)
root_within a x l f h = go (lt zero32 x) refl
  where
    go : (b : Bool) → lt zero32 x ≡ b → Within a (root_of x)
    go true e = above_within a x l f (subst T (sym e) tt) h
    go false e = subst (Within a) (not_above x e) (zero_within a)

-- of any f32, a root is at most 2 ^ 64
pub root_any : (x : Float) → T (fits binary32 x) → Within 64 (root_of x)
unfolding is_finite
root_any x f = go (is_finite x) refl
  where
    below : (x : Float) → T (fits binary32 x) → T (is_finite x) → Within 128 x
    below nan f h = absurd h
    below (inf s) f h = absurd h
    below (fin s m e) f h = le_of_lt (fit s m e f).high

    go : (b : Bool) → is_finite x ≡ b → Within 64 (root_of x)
    go true e = root_within 64 x (lit≤ tt) f (below x f (subst T (sym e) tt))
    go false e = subst (Within 64) (not_finite x e) (zero_within 64)
