-- Every number that an admitted call on points answers or leaves is finite: a place; moved, centred, scaled points.
-- Assumes nothing.
use Prim.Native.Nat.{ℕ}
use mathlib.Core.Path.{◌≡◌, refl, subst}
use mathlib.Core.List.{List}
use lib.Dec.{T, lit≤}
use lib.Ieee.{Float}
use Rattle.number.specs.Number.{is_finite, in_bound, admitted}
use Rattle.number.proofs.Answers.{taken}
use Rattle.number.proofs.Ranges.{in_bound_lem, zero_to_bound_lem, zero_to_one_lem}
use Rattle.geometry.specs.Geometry.{at, col, lerp_of, moved, centred, scaled}
use Rattle.geometry.proofs.Bounds.{VecWithin, PointsWithin, lerp_within, moved_within, scaled_within}
use Rattle.geometry.proofs.Bounds.{centred_within}
use Rattle.admission.specs.Admission.{of_three, of_twelve, finite_points, points_refusal, factor_refusal, time_refusal}
use Rattle.admission.specs.Admission.{ratio_refusal}
use Rattle.pair.specs.Points.{moved_into, centred_in, scaled_in}
use Rattle.number.proofs.Finite.{within_real}
use Rattle.admission.proofs.Admitted.{three_each, three_all, twelve_all, points_within, points_admits, factor_admits}
use Rattle.admission.proofs.Admitted.{time_admits, ratio_admits}

-- three numbers, and twelve, are finite if each is within a power of two
three : (a : ℕ) (v : List Float) → VecWithin a v → T (of_three is_finite v)
three a v h = three_all is_finite v (λ j l. within_real a (at v j) (h j l))

twelve : (a : ℕ) (x : List (List Float)) → PointsWithin a x → T (of_twelve is_finite x)
twelve a x h = twelve_all is_finite x (λ i j k l. within_real a (at (col x i) j) (h i j k l))

-- what an admitted call gives has what its value has
given : {A : Type 0} (P : A → Type 0) (n : ℕ) (a b : A) → n ≡ 0 → P a → P (admitted n a b)
given P n a b z p = subst P (taken a b n n refl z) p

-- ---- a place along a segment
pub place_finite : (p q : List Float) (s : Float) → ratio_refusal p q s ≡ 0 → T (of_three is_finite (lerp_of p q s))
place_finite p q s e =
    let h = ratio_admits p q s e in
    three 22 (lerp_of p q s)
    (lerp_within 20 p q s (lit≤ tt) (λ j l. in_bound_lem (at p j) (three_each in_bound p h.0 j l))
    (λ j l. in_bound_lem (at q j) (three_each in_bound q h.1 j l)) (zero_to_one_lem s h.2).2)

-- ---- four points
module _ (x : List (List Float)) where
  pub moved_finite : (dx : List (List Float)) (t : Float) (was : List (List Float)) → time_refusal x dx t ≡ 0
      → T (finite_points (moved_into x dx t was))
  unfolding moved_into finite_points
  moved_finite dx t was e =
      let h = time_admits x dx t e in
      given (λ (y : List (List Float)). T (of_twelve is_finite y)) (time_refusal x dx t) (moved x dx t) was e
      (twelve 21 (moved x dx t)
      (moved_within 20 x dx t (lit≤ tt) (points_within x h.0) (points_within dx h.1) (zero_to_one_lem t h.2).2))

  pub scaled_finite : (s : Float) → factor_refusal x s ≡ 0 → T (finite_points (scaled_in x s))
  unfolding scaled_in finite_points
  scaled_finite s e =
      let h = factor_admits x s e in
      given (λ (y : List (List Float)). T (of_twelve is_finite y)) (factor_refusal x s) (scaled x s) x e
      (twelve 40 (scaled x s)
      (scaled_within 20 20 x s (lit≤ tt) (points_within x h.0) (zero_to_bound_lem s h.1).1))

  pub centred_finite : points_refusal x ≡ 0 → T (finite_points (centred_in x))
  unfolding centred_in finite_points
  centred_finite e =
      given (λ (y : List (List Float)). T (of_twelve is_finite y)) (points_refusal x) (centred x) x e
      (twelve 24 (centred x) (centred_within 20 x (lit≤ tt) (points_within x (points_admits x e))))
