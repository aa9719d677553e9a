-- `admission::admit_split` meets its contract: what lies in its range is finite. Assumes nothing.
use Rattle.std.proofs.Common.{rules}
use Rattle.admission.specs.Admission.{split_refusal}
use Rattle.admission.proofs.Admitted.{split_real}
use Rattle.admission.proofs.admit_split.Goals as goal

pub returns : goal.returns
unfolding split_refusal
returns c = c.by_ranges.ensures _ _ (λ b h. search (rules, h)) (search rules) (split_real c.args.x c.args.split)
