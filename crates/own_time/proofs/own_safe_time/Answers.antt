-- Where the walk is not refused, u_max, the norm of the displacements, is 2 ^ -60 or more; and that norm errs upward.
use Rattle.std.proofs.Common.{List, ℕ, Float, sym, ◌∙◌, subst}
use lib.Dec.{T}
use lib.Ieee.{le}
use lib.Ieee.Fits.{and_l}
use Rattle.number.specs.Number.{least_speed}
use Rattle.geometry.proofs.Handed.{PointsFit, points_fit}
use Rattle.admission.specs.Admission.{full_allowance}
use Rattle.admission.proofs.Admitted.{walk_admits}
use Rattle.pair.specs.Points.{norm_of}
use Rattle.pair.proofs.NormBounds.{norm_upward}
use Rattle.ccd3.specs.declared.SafeTime.{SafeTime}
use Rattle.own_time.specs.OwnTime.{own_limits, OwnPromises, OwnSpeed}
use Rattle.own_time.proofs.own_safe_time.Goals as goal

module _ (x₀ dx : List (List Float)) (split : ℕ) (offset clearance max_t : Float) (f : PointsFit dx) where
  own_speed : (s : SafeTime) → OwnPromises x₀ dx split offset clearance max_t s
      → OwnSpeed x₀ dx split offset clearance max_t s
  own_speed s p z =
      let l = own_limits x₀ dx split offset clearance max_t in
      let w = (walk_admits x₀ dx split l full_allowance (sym p.number ∙ z)).0 in
      let up = norm_upward dx split w.displacements f in
      up.not_below (subst T up.told (and_l (le least_speed (norm_of dx split)) _ w.u_max))

pub returns-clause-speed : goal.returns-clause-speed
returns-clause-speed c =
    let a = c.args in
    let f = points_fit a.dx _ c.well_formed.1.0 in
    let promised = rw c.norm-u_max.ensures at c.maximum_safe_time_accurate.ensures.promised in
    own_speed a.x0 a.dx a.split a.offset a.clearance a.max_t f _ promised
