-- What is no NaN: a quotient whose two parts are not both zero, a difference from a finite number, a product of finite
-- ones. And how large the value and the slope of a cubic can be in 0..1. Assumes nothing.
use Prim.Native.Nat.{ℕ, suc, ◌+◌, ◌-◌, ◌*◌, ◌≤◌}
use native.Mathlib.Nat.{add-zero}
use native.Mathlib.Omega.{arith}
use mathlib.Core.Path.{◌≡◌, subst}
use mathlib.Core.Bool.{Bool, true, false, not, ◌&&◌, cond, beq}
use lib.Dec.{T, ltb, eqb, eqb→eq, lit≤}
use lib.Ieee.{Float, nan, inf, fin, binary32, up, down, round, sum, add, sub, mul, div, neg, eq, is_nan, unlike, of_bits}
use lib.Ieee.Fits.{and_i}
use lib.Ieee.Scale.{finite}
use Rattle.number.specs.Number.{◌⊕◌, ◌⊖◌, ◌⊗◌, ◌⊘◌, zero32}
use Rattle.number.proofs.Within.{Within, within_more, add_within, mul_within, round_no_nan}
use Rattle.polynomial_root.specs.Roots.{two32, three32, value_at, slope_at}
use Rattle.polynomial_root.specs.declared.cubic.Cubic.{Cubic}
use Rattle.polynomial_root.proofs.Zeros.{zero_eq}

-- ---- quotients
pub quotient_no_nan : (x y : Float) → T (finite x) → T (finite y) → (eq x zero32 && eq y zero32) ≡ false
    → T (not (is_nan (x ⊘ y)))
unfolding div
quotient_no_nan nan y f g h = elim f [ ]
quotient_no_nan (inf _) y f g h = elim f [ ]
quotient_no_nan (fin s m e) nan f g h = elim g [ ]
quotient_no_nan (fin s m e) (inf _) f g h = elim g [ ]
quotient_no_nan (fin s m e) (fin t n d) f g h = go (eqb n 0) (eqb m 0) (eqb→eq n 0) (eqb→eq m 0)
  where
    ratio : Float
    ratio = round binary32 (unlike s t) (m * up e * down d) (n * up d * down e)

    go : (p q : Bool) → (T p → n ≡ 0) → (T q → m ≡ 0)
        → T (not (is_nan (cond p (cond q nan (inf (unlike s t))) ratio)))
    go true true i j =
        absurd (subst T h
        (and_i (eq (fin s m e) zero32) (eq (fin t n d) zero32) (zero_eq s m e (j tt))
        (zero_eq t n d (i tt))))
    go true false i j = unfold is_nan in tt
    go false q i j = round_no_nan (unlike s t) (m * up e * down d) (n * up d * down e)

-- ---- differences
sum_no_nan : (s : Bool) (a : ℕ) (t : Bool) (b c : ℕ) → T (not (is_nan (sum binary32 s a t b c)))
unfolding sum
sum_no_nan s a t b c = go (beq s t) (ltb a b)
  where
    go : (p q : Bool)
        → T (not (is_nan (cond p (round binary32 s (a + b) c) (cond q (round binary32 t (b - a) c)
        (round binary32 (s && ltb b a) (a - b) c)))))
    go true q = round_no_nan s (a + b) c
    go false true = round_no_nan t (b - a) c
    go false false = round_no_nan (s && ltb b a) (a - b) c

pub difference_no_nan : (x y : Float) → T (finite x) → T (not (is_nan y)) → T (not (is_nan (x ⊖ y)))
unfolding sub neg
difference_no_nan nan y f h = elim f [ ]
difference_no_nan (inf _) y f h = elim f [ ]
difference_no_nan (fin s m e) nan f h = h
difference_no_nan (fin s m e) (inf t) f h = unfold add is_nan in tt
difference_no_nan (fin s m e) (fin t n d) f h =
    sum_no_nan s (m * up e * down d) (not t) (n * up d * down e) (down e * down d)

-- ---- products
pub product_no_nan : (x y : Float) → T (finite x) → T (finite y) → T (not (is_nan (x ⊗ y)))
unfolding mul
product_no_nan nan y f g = elim f [ ]
product_no_nan (inf _) y f g = elim f [ ]
product_no_nan (fin s m e) nan f g = elim g [ ]
product_no_nan (fin s m e) (inf _) f g = elim g [ ]
product_no_nan (fin s m e) (fin t n d) f g = round_no_nan (unlike s t) (m * up e * (n * up d)) (down e * down d)

-- ---- the constants
pub two_within : Within 1 two32
unfolding of_bits
two_within = lit≤ tt

pub three_within : Within 2 three32
unfolding of_bits
three_within = lit≤ tt

-- ---- a cubic whose coefficients are at most 2 ^ 20 in size, at a place of size 1 at most
module _ (p : Cubic) (r : Float) (w0 : Within 20 p.c0) (w1 : Within 20 p.c1) (w2 : Within 20 p.c2)
    (w3 : Within 20 p.c3) (w : Within 0 r) where
  -- a product with r is no larger
  times : (a : ℕ) (x : Float) → a ≤ 127 → Within a x → Within a (x ⊗ r)
  times a x l i = subst (λ (n : ℕ). Within n (x ⊗ r)) (add-zero a) (mul_within a 0 x r (omega arith) i w)

  -- one step of Horner's rule
  step : (a : ℕ) (x c : Float) → suc a ≤ 127 → Within a x → Within 20 c → 20 ≤ a → Within (suc a) (x ⊗ r ⊕ c)
  step a x c l i j k = add_within a (x ⊗ r) c l (times a x (omega arith) i) (within_more 20 a c k j)

  pub value_within : Within 23 (value_at p r)
  value_within =
      let x = p.c3 ⊗ r ⊕ p.c2 in
      let y = x ⊗ r ⊕ p.c1 in
      step 22 y p.c0 (lit≤ tt)
      (step 21 x p.c1 (lit≤ tt) (step 20 p.c3 p.c2 (lit≤ tt) w3 w2 (lit≤ tt)) w1 (lit≤ tt)) w0 (lit≤ tt)

  pub slope_within : Within 23 (slope_at p r)
  slope_within =
      let a = two32 ⊗ p.c2 in
      let b = three32 ⊗ p.c3 in
      let i : Within 21 (a ⊗ r) = times 21 a (lit≤ tt) (mul_within 1 20 two32 p.c2 (lit≤ tt) two_within w2) in
      let j : Within 22 (b ⊗ r) = times 22 b (lit≤ tt) (mul_within 2 20 three32 p.c3 (lit≤ tt) three_within w3) in
      add_within 22 (p.c1 ⊕ a ⊗ r) (b ⊗ r ⊗ r) (lit≤ tt)
      (add_within 21 p.c1 (a ⊗ r) (lit≤ tt) (within_more 20 21 p.c1 (lit≤ tt) w1) i)
      (times 22 (b ⊗ r) (lit≤ tt) j)
