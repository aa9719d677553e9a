-- `admission::admit_walk` meets its contract: what lies in its range is finite. Assumes nothing.
use Rattle.std.proofs.Common.{rules}
use Rattle.admission.specs.Admission.{walk_refusal}
use Rattle.admission.proofs.Admitted.{walk_real}
use Rattle.admission.proofs.admit_walk.Goals as goal

pub returns : goal.returns
unfolding walk_refusal
returns c =
    let a = c.args in
    c.by_ranges.ensures _ _ (λ b h. search (rules, h)) (search rules)
    (walk_real a.x0 a.dx a.split a.limits a.allowance)
