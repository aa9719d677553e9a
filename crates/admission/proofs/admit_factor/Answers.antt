-- `admission::admit_factor` meets its contract: what lies in its range is finite. Assumes nothing.
use Rattle.std.proofs.Common.{rules}
use Rattle.admission.specs.Admission.{factor_refusal}
use Rattle.admission.proofs.Admitted.{factor_real}
use Rattle.admission.proofs.admit_factor.Goals as goal

pub returns : goal.returns
unfolding factor_refusal
returns c = c.by_ranges.ensures _ _ (λ b h. search (rules, h)) (search rules) (factor_real c.args.x c.args.s)
