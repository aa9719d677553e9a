-- The safe time's threshold (specs/SafeTime.antt), from a first squared distance above the squared offset: it is below
-- the first, not below the squared offset and not above the squared park distance, which it is where the first is above
-- that; elsewhere what is above it is what is not below the first. Assumes nothing.
use mathlib.Core.Path.{◌≡◌, refl, sym, subst}
use mathlib.Core.Bool.{Bool, true, false, not}
use Prim.Native.Nat.{ℕ, ◌+◌, ◌*◌, ◌^◌, ◌≤◌, ◌<◌}
use native.Mathlib.Nat.{le_trans, le_of_eq, lt_of_le_of_lt, one-mul, mul-le-mul, mul-le-mul_right}
use native.Mathlib.Omega.{arith}
use lib.Dec.{T, not_T, lit<, lit≤}
use lib.Pow.{pow_pos}
use lib.Ieee.{Float, binary32, fits, lt, le}
use lib.Ieee.Bits.{is_true}
use lib.Ieee.Fits.{and_l, mul-fits}
use Rattle.number.specs.Number.{◌⊗◌, zero32, smaller, next_down, bound, zero_to_bound}
use Rattle.number.proofs.Choice.{smaller_keeps, smaller_by}
use Rattle.number.proofs.Comparing.{not_lt_le, not_le_lt, le_self, lt_le}
use Rattle.number.proofs.Later.{grows}
use Rattle.number.proofs.NextDown.{next_down_below, next_down_greatest}
use Rattle.number.proofs.NoNan.{no_nan_lt, no_nan_le}
use Rattle.number.proofs.Products.{square_le}
use Rattle.number.proofs.Ranges.{zero_to_bound_lem}
use Rattle.number.proofs.Rounding.{rnd, rnd_mono, rnd_fix}
use Rattle.number.proofs.Signs.{plus_up, square_plus}
use Rattle.number.proofs.Sums.{add_is}
use Rattle.number.proofs.Transitive.{le_lt_trans, lt_le_trans, lt_not_le, le_le_trans}
use Rattle.number.proofs.Units.{Unit32, of_float}
use Rattle.number.proofs.Units.Compared.{L, same_test}
use Rattle.number.proofs.Within.{within_finite, within_units}
use Rattle.admission.specs.declared.Limits.{Limits}
use Rattle.ccd3.specs.SafeTime.{park, squared_offset, squared_park, threshold_from}
use Rattle.ccd3.proofs.Growth.{Sound}
use Rattle.ccd3.proofs.PlainStep.{Given, offset_within}

-- ---- the squared offset is not above the squared park distance
-- a rounded number is not above a power of two that the exact one is not above
rnd_under : (n d a : ℕ) → 0 < d → n ≤ 2 ^ a * d → rnd n d ≤ 2 ^ a
rnd_under n d a D h =
    le_trans (rnd_mono n d (2 ^ a * d) d D D (mul-le-mul_right d h))
    (le_of_eq (rnd_fix (2 ^ a) d D (1, a, lit< tt, sym (one-mul (2 ^ a)))))

module _ (l : Limits) (g : Given l) where
  -- a length from 0 to 2 ^ 20, in units
  length_units : (x : Float) → T (fits binary32 x) → T (zero_to_bound x) → (u : ℕ) × Unit32 x u × (u ≤ 2 ^ 20 * L)
  length_units x f h =
      let w = (zero_to_bound_lem x h).1 in
      let i = of_float x f (within_finite 20 x w) (and_l (le zero32 x) (le x bound) h) in
      (i.0, i.1, within_units 20 x i.0 i.1.is w)

  pub squares_ordered : T (le (squared_offset l) (squared_park l))
  squares_ordered =
      let o = length_units l.offset g.offset_fits g.offset_in in
      let c = length_units l.clearance g.clearance_fits g.clearance_in in
      let P = rnd (o.0 + c.0) 1 in
      let small : P ≤ 2 ^ 170 =
      rnd_under (o.0 + c.0) 1 170 (pow_pos 0) (le_trans (two o.0 c.0 (2 ^ 20 * L) o.2 c.2) (lit≤ tt)) in
      square_le l.offset (park l) o.0 P o.1.is
      (add_is l.offset l.clearance o.0 c.0 o.1.is c.1.is (lt_of_le_of_lt small (lit< tt)))
      (grows o.0 c.0 o.1.rep)
      (lt_of_le_of_lt (rnd_under (P * P) L 191 (pow_pos 149) (le_trans (mul-le-mul small small) (lit≤ tt))) (lit< tt))
    where
      two : (a b m : ℕ) → a ≤ m → b ≤ m → a + b ≤ m * 2
      two a b m h k = omega arith

-- ---- the threshold, from a first squared distance d above the squared offset
module _ (l : Limits) (g : Given l) (d : Float) (s : Sound d) (apart : le d (squared_offset l) ≡ false) where
  offset_up : T (le zero32 (squared_offset l))
  offset_up = plus_up (squared_offset l) (square_plus l.offset (within_finite 20 l.offset (offset_within l g)))

  above_offset : T (lt (squared_offset l) d)
  above_offset =
      not_le_lt d (squared_offset l) (no_nan_le zero32 d (plus_up d s.sign)).1
      (no_nan_le zero32 (squared_offset l) offset_up).1 (subst (λ (b : Bool). T (not b)) (sym apart) tt)

  above_zero : T (lt zero32 d)
  above_zero = le_lt_trans zero32 (squared_offset l) d offset_up above_offset

  own : (v : ℕ) × Unit32 d v
  own = of_float d s.fit (within_finite 60 d s.bound) (plus_up d s.sign)

  below : T (lt (next_down d) d)
  below = next_down_below d own.0 s.fit own.1 above_zero

  -- what is an f32 below d is not above the f32 just below it
  under : (x : Float) → T (lt (x ⊗ x) d) → T (le (x ⊗ x) (next_down d))
  under x h = next_down_greatest d own.0 s.fit own.1 above_zero (x ⊗ x) (mul-fits binary32 x x) h

  pub over_offset : T (le (squared_offset l) (threshold_from l d))
  unfolding threshold_from
  over_offset =
      smaller_keeps (λ t. T (le (squared_offset l) t)) (squared_park l) (next_down d) (squares_ordered l g)
      (under l.offset above_offset)

  -- by whether the f32 just below d is below the squared park distance
  by_order : (P : Float → Type 0) → (T (lt (next_down d) (squared_park l)) → P (next_down d))
      → (T (le (squared_park l) (next_down d)) → P (squared_park l)) → P (smaller (squared_park l) (next_down d))
  by_order P h k =
      smaller_by P (squared_park l) (next_down d) h
      (λ n. k (not_lt_le (next_down d) (squared_park l) (no_nan_lt (next_down d) d below).0
      (no_nan_le (squared_offset l) (squared_park l) (squares_ordered l g)).1 n))

  pub under_park : T (le (threshold_from l d) (squared_park l))
  unfolding threshold_from
  under_park =
      by_order (λ t. T (le t (squared_park l))) (lt_le (next_down d) (squared_park l))
      (λ h. le_self (squared_park l) (no_nan_le (squared_park l) (next_down d) h).0)

  pub under_start : lt (threshold_from l d) d ≡ true
  unfolding threshold_from
  under_start =
      is_true (lt (threshold_from l d) d)
      (by_order (λ t. T (lt t d)) (λ h. below) (λ h. le_lt_trans (squared_park l) (next_down d) d h below))

  -- where d is not above the squared park distance, to be above the threshold is to be not below d
  pub in_band : le d (squared_park l) ≡ true → (e : Float) → T (fits binary32 e) → lt (threshold_from l d) e ≡ le d e
  unfolding threshold_from
  in_band h e f =
      same_test (lt (threshold_from l d) e) (le d e)
      (λ a. not_lt_le e d (no_nan_lt (threshold_from l d) e a).1 (no_nan_lt (next_down d) d below).1
      (not_T (lt e d) (λ b. lt_not_le (next_down d) e (subst (λ (t : Float). T (lt t e)) is_below a)
      (next_down_greatest d own.0 s.fit own.1 above_zero e f b))))
      (λ b. lt_le_trans (threshold_from l d) d e (subst T (sym under_start) tt) b)
    where
      is_below : threshold_from l d ≡ next_down d
      is_below =
          by_order (λ t. t ≡ next_down d) (λ k. refl)
          (λ k. absurd (lt_not_le (next_down d) d below
          (le_le_trans d (squared_park l) (next_down d) (subst T (sym h) tt) k)))

  -- where d is above the squared park distance, that is the threshold
  pub at_park : lt (squared_park l) d ≡ true → threshold_from l d ≡ squared_park l
  unfolding threshold_from
  at_park e =
      by_order (λ t. t ≡ squared_park l)
      (λ h. absurd (lt_not_le (next_down d) (squared_park l) h (under (park l) (subst T (sym e) tt)))) (λ h. refl)
