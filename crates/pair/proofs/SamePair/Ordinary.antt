-- Coordinates that are zero or of size 2 ^ -40 to 2 ^ 20, before and after a multiplication by 2 ^ k, make it exact
-- (`ExactTimes`): such a coordinate is a multiple of 2 ^ -63. Assumes nothing.
use Prim.Native.Nat.{ℕ, ◌*◌, ◌^◌, ◌≤◌, ◌<◌}
use native.Mathlib.Nat.{le_trans, lt_of_lt_of_le, zero-mul}
use mathlib.Core.Path.{◌≡◌, sym, ap, ◌∙◌, subst}
use mathlib.Core.Logic.{◌⊎◌, inl, inr}
use mathlib.Core.Bool.{Bool, ◌&&◌}
use mathlib.Core.List.{List}
use lib.Dec.{T, eqb, lit<, lit≤}
use lib.IntN.{ℤ}
use lib.Ieee.{Float, nan, inf, fin, binary32, up, down, le, fits, of_bits}
use lib.Ieee.Exact.{HasValue}
use lib.Ieee.Fits.{and_i, and_l, and_r, eq→eqb}
use lib.Ieee.Scale.{finite}
use Rattle.number.specs.Number.{◌⊗◌, size, bound, in_bound, units_of}
use Rattle.number.proofs.Rounding.{rnd, rep_grid}
use Rattle.number.proofs.Units.{bound_is}
use Rattle.number.proofs.Units.Compared.{L, le_says}
use Rattle.number.proofs.Comparing.{or_l, or_r, or_cases}
use Rattle.number.proofs.Within.{value_within}
use Rattle.number.proofs.Ranges.{within_bound}
use Rattle.number.proofs.Patterns.{bits_are}
use Rattle.number.proofs.Zeros.{zero_eq}
use Rattle.number.proofs.Signed.{own_value, value_rep, value_finite, value_units, value_size, zero_value}
use Rattle.number.proofs.PowersOfTwo.Products.{product_value, product_zero, product_exact}
use Rattle.geometry.specs.Geometry.{at, col, scaled}
use Rattle.geometry.proofs.Bounds.{Each}
use Rattle.admission.specs.Admission.{of_twelve, bounded_points}
use Rattle.admission.proofs.Admitted.{twelve_each, twelve_all}
use Rattle.pair.specs.SamePair.{power_of, normal, is_zero, normal_or_zero, exact_coordinate, ExactTimes, ordinary}
use Rattle.pair.specs.SamePair.{ordinary_times}
use Rattle.pair.proofs.SamePair.Columns.{scaled_number}
use Rattle.pair.proofs.SamePair.Grid.{Grid, grid_gaps, value_normal}

bound_finite : (c : Float) → T (le (size c) bound) → T (finite c)
unfolding size le of_bits
bound_finite nan t = t
bound_finite (inf s) t = t
bound_finite (fin s m e) t = tt

-- ---- the units of a number of ordinary size
record Ordinary (c : Float) : Type 0 where
  sign : Bool
  units : ℕ
  is : HasValue c sign units L
  fit : T (fits binary32 c)
  low : 2 ^ 109 ≤ units
  high : units ≤ 2 ^ 20 * L

ordinary_is : (c : Float) → T (ordinary c) → Ordinary c
unfolding ordinary
ordinary_is c h =
    let least = of_bits binary32 0x2b80_0000 in
    let a = le least (size c) in
    let b = le (size c) bound in
    let f = and_l (fits binary32 c) (a && b) h in
    let l = and_l a b (and_r (fits binary32 c) (a && b) h) in
    let m = and_r a b (and_r (fits binary32 c) (a && b) h) in
    let (s, u, v) = own_value c f (bound_finite c m) in
    record {
      sign = s;
      units = u;
      is = v;
      fit = f;
      low = le_says least (size c) (2 ^ 109) u (bits_are 0x2b80_0000 (lit< tt)) (value_size c s u v) l;
      high = le_says (size c) bound u (2 ^ 20 * L) (value_size c s u v) bound_is m;
    }

ordinary_grid : (c : Float) → Ordinary c → Grid 20 c
ordinary_grid c p =
    let (w, e) = rep_grid p.units 86 (value_rep c p.sign p.units p.fit p.is) p.low in
    record {
      sign = p.sign;
      steps = w;
      is = subst (λ (n : ℕ). HasValue c p.sign n L) e p.is;
      within = value_within 20 p.sign c p.units p.high p.is;
    }

zero_grid : (c : Float) → T (is_zero c) → Grid 20 c
zero_grid c z =
    let (s, v) = zero_value c z in
    record { sign = s; steps = 0; is = v; within = value_within 20 s c 0 (lit≤ tt) v }

ordinary_normal : (c : Float) → Ordinary c → T (normal_or_zero c)
unfolding normal_or_zero
ordinary_normal c p =
    or_l (normal c) (is_zero c)
    (value_normal c p.sign p.units p.fit p.is (le_trans (lit≤ {m = 2 ^ 23} tt) p.low))

-- ---- a coordinate and its product
module _ (k : ℤ) (c : Float) where
  abbrev y : Float
  y = c ⊗ power_of k

  three : T (normal_or_zero c) → T (normal_or_zero y) → units_of y * down k ≡ units_of c * up k → T (exact_coordinate k c)
  unfolding exact_coordinate
  three a b e =
      and_i (normal_or_zero c && normal_or_zero y) (eqb (units_of y * down k) (units_of c * up k))
      (and_i (normal_or_zero c) (normal_or_zero y) a b) (eq→eqb e)

  zero_product : T (is_zero c) → T (is_zero y)
  zero_product z = let (s, v) = zero_value c z in zero_eq y (product_zero k c s v)

  zero_exact : T (is_zero c) → T (exact_coordinate k c)
  unfolding normal_or_zero
  zero_exact z =
      let (s, v) = zero_value c z in
      let (r, w) = zero_value y (zero_product z) in
      three (or_r (normal c) (is_zero c) z) (or_r (normal y) (is_zero y) (zero_product z))
      (ap (λ (n : ℕ). n * down k) (value_units y r 0 w) ∙ zero-mul (down k)
      ∙ sym (ap (λ (n : ℕ). n * up k) (value_units c s 0 v) ∙ zero-mul (up k)))

  ordinary_exact : Ordinary c → Ordinary y → T (exact_coordinate k c)
  ordinary_exact p q =
      let u = p.units in
      let w = rnd (u * up k) (down k) in
      let v = product_value k c p.sign u p.is (value_finite y q.sign q.units q.is) in
      let e : w ≡ q.units = sym (value_units y p.sign w v) ∙ value_units y q.sign q.units q.is in
      three (ordinary_normal c p) (ordinary_normal y q)
      (ap (λ (n : ℕ). n * down k) (value_units y p.sign w v)
      ∙ product_exact k u (value_rep c p.sign u p.fit p.is)
      (lt_of_lt_of_le (lit< {m = 2 ^ 23} tt) (subst (λ (n : ℕ). 2 ^ 109 ≤ n) (sym e) q.low))
      ∙ ap (λ (n : ℕ). n * up k) (sym (value_units c p.sign u p.is)))

  cases : T (ordinary_times k c) → T (is_zero c) ⊎ (Ordinary c × Ordinary y)
  unfolding ordinary_times
  cases h = elim (or_cases (is_zero c) (ordinary c && ordinary y) h) [
    | inl z ↦ inl z
    | inr p ↦ inr (ordinary_is c (and_l (ordinary c) (ordinary y) p), ordinary_is y (and_r (ordinary c) (ordinary y) p))
  ]

  exact_of : T (ordinary_times k c) → T (exact_coordinate k c)
  exact_of h = elim (cases h) [ inl z ↦ zero_exact z | inr p ↦ ordinary_exact p.0 p.1 ]

  grid_of : T (ordinary_times k c) → Grid 20 c × Grid 20 y
  grid_of h = elim (cases h) [
    | inl z ↦ (zero_grid c z, zero_grid y (zero_product z))
    | inr p ↦ (ordinary_grid c p.0, ordinary_grid y p.1)
  ]

-- ---- all of them
module _ (k : ℤ) (x : List (List Float)) (h : T (of_twelve (ordinary_times k) x)) where
  each : Each (ordinary_times k) x
  each = twelve_each (ordinary_times k) x h

  product_grid : (i j : ℕ) → i < 4 → j < 3 → Grid 20 (at (col (scaled x (power_of k)) i) j)
  product_grid i j m l =
      subst (Grid 20) (sym (scaled_number x (power_of k) i j m l)) (grid_of k (at (col x i) j) (each i j m l)).1

  pub ordinary_times_lem : (split : ℕ) → ExactTimes k x split
  unfolding bounded_points
  ordinary_times_lem split = record {
    coordinates = twelve_all (exact_coordinate k) x (λ i j m l. exact_of k (at (col x i) j) (each i j m l));
    before = grid_gaps x (λ i j m l. (grid_of k (at (col x i) j) (each i j m l)).0) split;
    after = grid_gaps (scaled x (power_of k)) product_grid split;
    limits = twelve_all in_bound (scaled x (power_of k)) (λ i j m l.
        within_bound (at (col (scaled x (power_of k)) i) j) (product_grid i j m l).within);
  }
