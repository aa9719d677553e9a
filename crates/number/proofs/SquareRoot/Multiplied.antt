-- A number multiplied by the square of a power of two has a root multiplied by that power, exactly: its digits are the
-- same, and its exponent is even where it was. Assumes nothing.
use mathlib.Core.Path.{◌≡◌, refl, sym, ap, ◌∙◌, subst}
use mathlib.Core.Logic.{inl, inr}
use mathlib.Core.Bool.{false}
use Prim.Native.Nat.{ℕ, ◌+◌, ◌*◌, ◌/◌, ◌%◌, ◌^◌, ◌≤◌, ◌<◌}
use native.Mathlib.Nat.{le_trans, le_of_eq, le_of_lt, lt_of_lt_of_le, lt_of_le_of_lt, le-add_right, eq-zero-or-pos}
use native.Mathlib.Nat.{zero-mul, mul_assoc, mul_right_comm, mul-pos, mul-le-mul_right}
use native.Mathlib.Omega.{arith}
use lib.Dec.{T, ltb}
use lib.Pow.{pow-add, pow_pos}
use lib.Ieee.{Float, binary32, lt, fits, of_bits}
use lib.Ieee.Exact.{HasValue}
use Rattle.number.specs.Number.{zero32, is_finite, units_of, root_of}
use Rattle.number.specs.Inner.{RootBits, whole_of}
use Rattle.number.proofs.Units.{L, Top, Is, plus, pow_le_back, zero_is, lt_is, says_lt, finite_is, of_float}
use Rattle.number.proofs.Signs.{plus_up}
use Rattle.number.proofs.Finite.{is_finite_lem}
use Rattle.number.proofs.Patterns.{val, bits_plus}
use Rattle.number.proofs.Signed.{value_plus}
use Rattle.number.proofs.PowersOfTwo.Times.{Times, zero_times}
use Rattle.number.proofs.SquareRoot.Nearest.{units_is}
use Rattle.number.proofs.SquareRoot.Bits.{bits_lt, val_is, root_is, unit}
use Rattle.number.proofs.SquareRoot.Argument.{not_above}
use Rattle.number.proofs.SquareRoot.Found.{found, found_root}

-- ---- the digits of the root stay, with the exponent k or with k + 2 t
unit_later : (k t : ℕ) → unit (k + (t + t)) ≡ unit k * 2 ^ t
unit_later k t = ap (λ (n : ℕ). 2 ^ n) (half k t) ∙ pow-add 2 (k / 2 + 51) t
  where
    half : (k t : ℕ) → (k + (t + t)) / 2 + 51 ≡ k / 2 + 51 + t
    half k t = omega arith

module _ (t p k b : ℕ) (low : 2 ^ 23 ≤ p) (high : p < 2 ^ 24) (short : k + (t + t) < 300) (r : RootBits p k b) where
  abbrev pattern : ℕ
  pattern = ((k + (t + t)) / 2 + 51) * 2 ^ 23 + r.digits

  whole_same : whole_of p (k + (t + t)) ≡ whole_of p k
  whole_same = ap (λ (n : ℕ). p * 2 ^ (23 + n)) (same k t)
    where
      same : (k t : ℕ) → (k + (t + t)) % 2 ≡ k % 2
      same k t = omega arith

  abbrev bits : RootBits p (k + (t + t)) pattern
  bits = record {
    digits = r.digits;
    made = refl;
    low = r.low;
    high = r.high;
    under = lt_of_lt_of_le r.under (le_of_eq (ap (λ (n : ℕ). 4 * n) (sym whole_same)));
    over = lt_of_le_of_lt (le_of_eq (ap (λ (n : ℕ). 4 * n) whole_same)) r.over;
  }

  abbrev before : k < 300
  before = lt_of_le_of_lt (le-add_right k (t + t)) short

  val_times : val pattern ≡ val b * 2 ^ t
  val_times =
      val_is p (k + (t + t)) pattern low high short bits
      ∙ ap (λ (n : ℕ). r.digits * n) (unit_later k t)
      ∙ sym (mul_assoc r.digits (unit k) (2 ^ t))
      ∙ ap (λ (n : ℕ). n * 2 ^ t) (sym (val_is p k b low high before r))

  pub bits_times : Times t (of_bits binary32 b) (of_bits binary32 pattern)
  bits_times =
      let l = bits_lt p k b low high before r in
      let m = bits_lt p (k + (t + t)) pattern low high short bits in
      record {
        sign = false;
        units = val b;
        small = bits_plus b (omega (arith, l));
        large =
            subst (λ (n : ℕ). HasValue (of_bits binary32 pattern) false n L) val_times
            (bits_plus pattern (omega (arith, m)));
      }

  root_later : (y : Float) → units_of y * L ≡ p * 2 ^ (k + (t + t) + 125) → T (lt zero32 y) → T (is_finite y)
      → root_of y ≡ of_bits binary32 pattern
  root_later y scale a f = root_is p (k + (t + t)) pattern low high short bits y scale a f

-- the exponent of a number of u units
short_of : (p k u : ℕ) → 2 ^ 23 ≤ p → u * L ≡ p * 2 ^ (k + 125) → u < Top → k < 300
short_of p k u low e h =
    small k (pow_le_back (23 + (k + 125)) (277 + 149)
    (le_trans (le_of_eq (pow-add 2 23 (k + 125)))
    (le_trans (mul-le-mul_right (2 ^ (k + 125)) low)
    (le_trans (le_of_eq (sym e))
    (le_trans (mul-le-mul_right L (le_of_lt h)) (le_of_eq (sym (pow-add 2 277 149))))))))
  where
    small : (k : ℕ) → 23 + (k + 125) ≤ 277 + 149 → k < 300
    small k h = omega arith

-- ---- of numbers of sign plus
module _ (t : ℕ) (x y : Float) (f : T (fits binary32 x)) (g : T (fits binary32 y)) (a : T (plus x)) (b : T (plus y))
    (q : Times (t + t) x y) where
  abbrev u : ℕ
  u = q.units

  abbrev v : ℕ
  v = u * 2 ^ (t + t)

  x_is : Is x u
  x_is = value_plus x q.sign u a q.small

  y_is : Is y v
  y_is = value_plus y q.sign v b q.large

  none : u ≡ 0 → Times t (root_of x) (root_of y)
  none z =
      subst (λ (w : Float). Times t w (root_of y)) (not_above x (lt_is zero32 x 0 u zero_is x_is ∙ ap (ltb 0) z))
      (subst (Times t zero32) (not_above y (lt_is zero32 y 0 v zero_is y_is
      ∙ ap (λ (n : ℕ). ltb 0 (n * 2 ^ (t + t))) z ∙ ap (ltb 0) (zero-mul (2 ^ (t + t))))) (zero_times t))

  real : (z : Float) (w : ℕ) → Is z w → T (is_finite z)
  real z w i = subst T (sym (is_finite_lem z)) (finite_is z w i)

  under : v < Top
  under =
      let (w, k) = of_float y g (finite_is y v y_is) (plus_up y b) in
      subst (λ (n : ℕ). n < Top) (sym (units_is y w k.is) ∙ units_is y v y_is) k.under

  scale : (p k : ℕ) → units_of x * L ≡ p * 2 ^ (k + 125) → v * L ≡ p * 2 ^ (k + (t + t) + 125)
  scale p k e =
      mul_right_comm u (2 ^ (t + t)) L
      ∙ ap (λ (n : ℕ). n * L * 2 ^ (t + t)) (sym (units_is x u x_is))
      ∙ ap (λ (n : ℕ). n * 2 ^ (t + t)) e
      ∙ mul_assoc p (2 ^ (k + 125)) (2 ^ (t + t))
      ∙ ap (λ (n : ℕ). p * n) (sym (pow-add 2 (k + 125) (t + t)))
      ∙ ap (λ (n : ℕ). p * 2 ^ n) (order k t)
    where
      order : (k t : ℕ) → k + 125 + (t + t) ≡ k + (t + t) + 125
      order k t = omega arith

  some : 0 < u → Times t (root_of x) (root_of y)
  some l =
      let above : T (lt zero32 x) = says_lt zero32 x 0 u zero_is x_is l in
      let above' : T (lt zero32 y) = says_lt zero32 y 0 v zero_is y_is (mul-pos l (pow_pos (t + t))) in
      let r = found x f above (real x u x_is) in
      let e = scale r.p r.k r.scale in
      let short = short_of r.p (r.k + (t + t)) v r.low e under in
      subst (λ (w : Float). Times t w (root_of y)) (sym (found_root x r above (real x u x_is)))
      (subst (Times t (of_bits binary32 r.b))
      (sym (root_later t r.p r.k r.b r.low r.high short r.bits y
      (ap (λ (n : ℕ). n * L) (units_is y v y_is) ∙ e) above' (real y v y_is)))
      (bits_times t r.p r.k r.b r.low r.high short r.bits))

  pub root_times : Times t (root_of x) (root_of y)
  root_times = elim (eq-zero-or-pos u) [ inl z ↦ none z | inr l ↦ some l ]
