-- What is handed over is admitted, or refused by a number (docs/01-scope.md, "What callers hand over, and the numbers
-- allowed", "Refusal numbers"). Definitions only.
use Rattle.std.specs.Prelude.{ℕ, Bool, ◌&&◌, ◌||◌, List}
use lib.{Dec.eqb, Dec.leb, Ieee.Float}
use Rattle.number.specs.Number.{is_finite, in_bound, zero_to_bound, zero_to_one, speed_range, refusal}
use Rattle.geometry.specs.Geometry.{at, col}
use Rattle.admission.specs.declared.Limits.{Limits}

-- a test passed by the three numbers of a point, by the twelve of four points
abbrev pub of_three : (Float → Bool) → List Float → Bool
of_three test v = test (at v 0) && test (at v 1) && test (at v 2)

abbrev pub of_twelve : (Float → Bool) → List (List Float) → Bool
of_twelve test x =
    of_three test (col x 0) && of_three test (col x 1) && of_three test (col x 2) && of_three test (col x 3)

unfoldable pub finite_points : List (List Float) → Bool
finite_points x = of_twelve is_finite x

unfoldable pub bounded_points : List (List Float) → Bool
bounded_points x = of_twelve in_bound x

-- two points against two, or three against one
abbrev pub is_split : ℕ → Bool
is_split split = eqb split 2 || eqb split 3

-- the four limits of a safe time
unfoldable pub finite_limits : Limits → Bool
finite_limits l = is_finite l.offset && is_finite l.clearance && is_finite l.max_t && is_finite l.u_max

unfoldable pub ranged_limits : Limits → Bool
ranged_limits l =
    zero_to_bound l.offset && zero_to_bound l.clearance && zero_to_one l.max_t && speed_range l.u_max

-- how many probes a safe time may make: at most so many, and so many where its caller names no other number
abbrev pub full_allowance : ℕ
full_allowance = 4096

abbrev pub is_allowance : ℕ → Bool
is_allowance allowed = leb 1 allowed && leb allowed full_allowance

-- a safe time: the 24 numbers of a pair, its split, its limits, the probes allowed
unfoldable pub walk_refusal : List (List Float) → List (List Float) → ℕ → Limits → ℕ → ℕ
walk_refusal x dx split l allowed =
    refusal (finite_points x && finite_points dx && finite_limits l)
    (bounded_points x && bounded_points dx && ranged_limits l && is_split split && is_allowance allowed)

-- four points; four points and their split, as a norm and a distance take them
unfoldable pub points_refusal : List (List Float) → ℕ
points_refusal x = refusal (finite_points x) (bounded_points x)

unfoldable pub split_refusal : List (List Float) → ℕ → ℕ
split_refusal x split = refusal (finite_points x) (bounded_points x && is_split split)

-- four points and a factor of 0 to 2 ^ 20
unfoldable pub factor_refusal : List (List Float) → Float → ℕ
factor_refusal x s = refusal (finite_points x && is_finite s) (bounded_points x && zero_to_bound s)

-- a pair's 24 numbers: coplanar times
unfoldable pub motion_refusal : List (List Float) → List (List Float) → ℕ
motion_refusal x dx = refusal (finite_points x && finite_points dx) (bounded_points x && bounded_points dx)

-- a pair's 24 numbers and a time of 0 to 1: moved points, scaling
unfoldable pub time_refusal : List (List Float) → List (List Float) → Float → ℕ
time_refusal x dx t =
    refusal (finite_points x && finite_points dx && is_finite t) (bounded_points x && bounded_points dx && zero_to_one t)

-- the ends of a segment and a ratio of 0 to 1
unfoldable pub ratio_refusal : List Float → List Float → Float → ℕ
ratio_refusal p q s =
    refusal (of_three is_finite p && of_three is_finite q && is_finite s)
    (of_three in_bound p && of_three in_bound q && zero_to_one s)
