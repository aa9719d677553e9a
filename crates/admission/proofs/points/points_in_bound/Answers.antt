-- `admission::points::points_in_bound` meets its contract. Assumes nothing.
use Rattle.number.specs.Number.{in_bound}
use Rattle.admission.specs.Admission.{bounded_points}
use Rattle.admission.proofs.points.points_in_bound.Goals as goal

pub returns : goal.returns
unfolding bounded_points
returns c = c.of_twelve.ensures in_bound (λ x b h. h)
