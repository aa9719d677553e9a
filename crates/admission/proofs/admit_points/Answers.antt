-- `admission::admit_points` meets its contract: what lies in its range is finite. Assumes nothing.
use Rattle.std.proofs.Common.{rules}
use Rattle.admission.specs.Admission.{points_refusal}
use Rattle.admission.proofs.Admitted.{points_real}
use Rattle.admission.proofs.admit_points.Goals as goal

pub returns : goal.returns
unfolding points_refusal
returns c = c.by_ranges.ensures _ _ (λ b h. search (rules, h)) (search rules) (points_real c.args.x)
