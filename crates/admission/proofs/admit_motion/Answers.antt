-- `admission::admit_motion` meets its contract: what lies in its range is finite. Assumes nothing.
use Rattle.std.proofs.Common.{rules}
use Rattle.admission.specs.Admission.{motion_refusal}
use Rattle.admission.proofs.Admitted.{pair_real}
use Rattle.admission.proofs.admit_motion.Goals as goal

pub returns : goal.returns
unfolding motion_refusal
returns c = c.by_ranges.ensures _ _ (λ b h. search (rules, h)) (search rules) (pair_real c.args.x c.args.dx)
