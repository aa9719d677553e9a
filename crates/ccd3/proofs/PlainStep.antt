-- The plain step from any squared distance that a walk can compute with is finite (specs/SafeTime.antt). Assumes
-- nothing.
use lib.Dec.{T, lit≤}
use lib.Ieee.{Float, binary32, fits, of_bits}
use lib.Ieee.Scale.{finite}
use Rattle.number.specs.Number.{◌⊖◌, ◌⊗◌, half32, ◌⊘◌, one32, zero_to_bound, speed_range, root_of}
use Rattle.number.proofs.Quotients.{div_within}
use Rattle.number.proofs.SquareRoot.Bounds.{root_within}
use Rattle.number.proofs.Ranges.{zero_to_bound_lem, speed_range_lem}
use Rattle.number.proofs.Within.{Within, within_finite, within_more, add_within, sub_within, mul_within}
use Rattle.admission.specs.declared.Limits.{Limits}
use Rattle.ccd3.specs.SafeTime.{dip, plain}
use Rattle.ccd3.proofs.Growth.{Sound}

-- what a walk is given: limits in their ranges, each an f32
pub record Given (l : Limits) : Type 0 where
  pub offset_fits : T (fits binary32 l.offset)
  pub clearance_fits : T (fits binary32 l.clearance)
  pub offset_in : T (zero_to_bound l.offset)
  pub clearance_in : T (zero_to_bound l.clearance)
  pub speed_in : T (speed_range l.u_max)

constants_within : Within 0 one32 × Within 0 half32
unfolding of_bits
constants_within = (lit≤ tt, lit≤ tt)

module _ (l : Limits) (g : Given l) where
  pub offset_within : Within 20 l.offset
  offset_within = (zero_to_bound_lem l.offset g.offset_in).1

  dip_within : Within 21 (dip l)
  dip_within =
      add_within 20 l.offset (l.clearance ⊗ half32) (lit≤ tt) offset_within
      (mul_within 20 0 l.clearance half32 (lit≤ tt) (zero_to_bound_lem l.clearance g.clearance_in).1
      constants_within.1)

  pub plain_finite : (d : Float) → Sound d → T (finite (plain l (root_of d)))
  plain_finite d s =
      within_finite 91 (plain l (root_of d))
      (mul_within 31 60 (root_of d ⊖ dip l) (one32 ⊘ l.u_max) (lit≤ tt)
      (sub_within 30 (root_of d) (dip l) (lit≤ tt) (root_within 30 d (lit≤ tt) s.fit s.bound)
      (within_more 21 30 (dip l) (lit≤ tt) dip_within))
      (div_within 0 60 one32 l.u_max (lit≤ tt) constants_within.0
      (speed_range_lem l.u_max g.speed_in).1))
