-- `admission::admit_time` meets its contract: what lies in its range is finite. Assumes nothing.
use Rattle.std.proofs.Common.{rules}
use Rattle.admission.specs.Admission.{time_refusal}
use Rattle.admission.proofs.Admitted.{time_real}
use Rattle.admission.proofs.admit_time.Goals as goal

pub returns : goal.returns
unfolding time_refusal
returns c = c.by_ranges.ensures _ _ (λ b h. search (rules, h)) (search rules) (time_real c.args.x c.args.dx c.args.t)
