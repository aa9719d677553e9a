-- `admission::points::points_finite` meets its contract. Assumes nothing.
use Rattle.number.specs.Number.{is_finite}
use Rattle.admission.specs.Admission.{finite_points}
use Rattle.admission.proofs.points.points_finite.Goals as goal

pub returns : goal.returns
unfolding finite_points
returns c = c.of_twelve.ensures is_finite (λ x b h. h)
