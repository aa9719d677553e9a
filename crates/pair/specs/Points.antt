-- The public calls on four points: what each answers and leaves, the norm and the distance of a pair (docs/01-scope.md,
-- "What callers hand over, and the numbers allowed", "Square root and norm", "Our distance rules", "Refusal numbers";
-- ccd3.rs: `max_relative_norm`). Definitions only.
use Rattle.std.specs.Prelude.{Result, ℕ, ◌+◌, ◌*◌, ◌^◌, ◌≤◌, cond, ◌≡◌, T, ltb, Float}
use mathlib.Core.List.{List, foldl}
use Rattle.std.specs.Float.{binary32}
use Rattle.std.specs.Float.Ieee.{lt, le, of_bits}
use Rattle.number.specs.Number.{◌⊗◌, zero32, larger, least_speed, admitted, units_of, apart, root_of, answered}
use Rattle.number.specs.declared.refusal.Refusal.{Refusal}
use Rattle.geometry.specs.Geometry.{at, col, minus, dot, lerp_of, moved, centred, scaled, Cross, cross_pairs}
use Rattle.admission.specs.Admission.{points_refusal, factor_refusal, time_refusal, ratio_refusal, split_refusal}
use Rattle.distance.specs.Distance.{nearest_of}
use Rattle.distance.specs.declared.candidate.Nearest.{Nearest}

-- the place along a segment, or a refusal
unfoldable pub placed : List Float → List Float → Float → Result (List Float) Refusal
placed p q s = answered (ratio_refusal p q s) (lerp_of p q s)

-- what lent points hold afterwards: the points moved, centred, scaled, or what they held
unfoldable pub moved_into : List (List Float) → List (List Float) → Float → List (List Float) → List (List Float)
moved_into x dx t was = admitted (time_refusal x dx t) (moved x dx t) was

unfoldable pub centred_in : List (List Float) → List (List Float)
centred_in x = admitted (points_refusal x) (centred x) x

unfoldable pub scaled_in : List (List Float) → Float → List (List Float)
scaled_in x s = admitted (factor_refusal x s) (scaled x s) x

-- ---- the source norm: the root of the largest squared difference of two columns of a cross pair
unfoldable pub gap_square : List (List Float) → Cross → Float
gap_square x p = let gap = minus (col x p.first) (col x p.second) in dot gap gap

unfoldable pub largest_square : List (List Float) → ℕ → Float
largest_square x split =
    foldl (λ (most : Float) (p : Cross). larger most (gap_square x p)) zero32 (cross_pairs split)

unfoldable pub source_norm : List (List Float) → ℕ → Float
source_norm x split = root_of (largest_square x split)

-- ---- the norm errs upward: from 2 ^ -60 on it is the source norm times 1 + 2 ^ -21
abbrev pub upward : Float
upward = of_bits binary32 0x3f80_0004

unfoldable pub raised : Float → Float
raised n = cond (lt n least_speed) n (n ⊗ upward)

unfoldable pub norm_of : List (List Float) → ℕ → Float
norm_of x split = raised (source_norm x split)

-- the exact squared distance of the columns of a cross pair, in whole numbers: units of 2 ^ -149, squared
unfoldable pub gap_exact : List (List Float) → Cross → ℕ
gap_exact x p =
    let d : ℕ → ℕ = λ i. apart (at (col x p.first) i) (at (col x p.second) i) in
    d 0 * d 0 + d 1 * d 1 + d 2 * d 2

-- the largest of them: the square of the exact largest distance
unfoldable pub largest_exact : List (List Float) → ℕ → ℕ
largest_exact x split =
    foldl (λ (most : ℕ) (p : Cross). cond (ltb most (gap_exact x p)) (gap_exact x p) most) 0 (cross_pairs split)

-- what the norm of admitted points promises. Below 2 ^ -60 the source norm stands; from there on the norm is not below
-- the exact largest distance and not above it times 1 + 2 ^ -20; and which of both it is, the norm itself tells.
pub record ErrsUpward (x : List (List Float)) (split : ℕ) (n : Float) : Type 0 where
  pub stands : T (lt (source_norm x split) least_speed) → n ≡ source_norm x split
  pub not_below : T (le least_speed (source_norm x split)) → largest_exact x split ≤ units_of n * units_of n
  pub not_above : T (le least_speed (source_norm x split))
      → units_of n * units_of n * 2 ^ 40 ≤ largest_exact x split * ((2 ^ 20 + 1) * (2 ^ 20 + 1))
  pub told : le least_speed n ≡ le least_speed (source_norm x split)

-- ---- the distance of the two sides: the first smallest candidate, or a refusal
unfoldable pub measured : List (List Float) → ℕ → Result Nearest Refusal
measured x split = answered (split_refusal x split) (nearest_of split x)
