-- What an admitted call stands on: its limits, the squared distances of its points at every time from 0 to 1, and the
-- start, which is time 0. Assumes nothing.
use mathlib.Core.List.{List}
use Prim.Native.Nat.{ℕ}
use lib.Dec.{T, lit≤}
use lib.Ieee.{Float, binary32, le, fits, of_bits}
use lib.Ieee.Fits.{and_i}
use Rattle.number.specs.Number.{zero32, one32}
use Rattle.number.proofs.Ranges.{zero_to_one_lem}
use Rattle.number.proofs.Within.{within_finite, within_more}
use Rattle.geometry.specs.Geometry.{at, col, moved}
use Rattle.geometry.proofs.Handed.{PointsFit}
use Rattle.geometry.proofs.Bounds.{PointsWithin, moved_within}
use Rattle.distance.specs.Distance.{nearest_of}
use Rattle.distance.proofs.Measured.{nearest_measured}
use Rattle.distance.proofs.Alike.Start.{start_same}
use Rattle.admission.specs.declared.Limits.{Limits}
use Rattle.admission.proofs.Admitted.{Walkable, points_within}
use Rattle.ccd3.specs.SafeTime.{squared_at}
use Rattle.ccd3.proofs.Growth.{Sound}
use Rattle.ccd3.proofs.PlainStep.{Given}
use Rattle.ccd3.proofs.Standing.{Ground}

-- each number that is handed over is an f32
pub record Fitting (x : List (List Float)) (l : Limits) : Type 0 where
  pub points : PointsFit x
  pub offset : T (fits binary32 l.offset)
  pub clearance : T (fits binary32 l.clearance)
  pub max_t : T (fits binary32 l.max_t)

zero_one : T (le zero32 zero32) × T (le zero32 one32)
unfolding le of_bits
zero_one = (tt, tt)

module _ (x dx : List (List Float)) (split : ℕ) (l : Limits) (w : Walkable x dx split l) (f : Fitting x l) where
  sound : (y : List (List Float)) → PointsWithin 21 y → Sound (nearest_of split y).squared
  sound y h =
      let m = nearest_measured 21 (lit≤ tt) split y h in
      record {
        fit = m.fit;
        sign = m.sign;
        bound = within_more 52 60 (nearest_of split y).squared (lit≤ tt) m.bound;
      }

  here : PointsWithin 20 x
  here = points_within x w.points

  moves : PointsWithin 20 dx
  moves = points_within dx w.displacements

  sound_start : Sound (nearest_of split x).squared
  sound_start = sound x (λ i j k n. within_more 20 21 (at (col x i) j) (lit≤ tt) (here i j k n))

  sound_at : (t : Float) → T (le zero32 t) → T (le t one32) → Sound (nearest_of split (moved x dx t)).squared
  sound_at t a b =
      sound (moved x dx t)
      (moved_within 20 x dx t (lit≤ tt) here moves (zero_to_one_lem t (and_i (le zero32 t) (le t one32) a b)).2)

  given : Given l
  given = record {
    offset_fits = f.offset;
    clearance_fits = f.clearance;
    offset_in = w.offset;
    clearance_in = w.clearance;
    speed_in = w.u_max;
  }

  pub ground : Ground x dx split l
  unfolding squared_at
  ground = record {
    given = given;
    limit_fits = f.max_t;
    limit_in = w.max_t;
    sound_start = sound_start;
    sound_at = sound_at;
    zero_start =
        start_same split x dx f.points (λ i j k n. within_finite 20 (at (col x i) j) (here i j k n))
        (λ i j k n. within_finite 20 (at (col dx i) j) (moves i j k n)) sound_start.sign
        (sound_at zero32 zero_one.0 zero_one.1).sign;
  }
