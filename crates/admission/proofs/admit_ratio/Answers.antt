-- `admission::admit_ratio` meets its contract: what lies in its range is finite. Assumes nothing.
use Rattle.std.proofs.Common.{rules}
use Rattle.number.specs.Number.{is_finite, in_bound}
use Rattle.admission.specs.Admission.{ratio_refusal}
use Rattle.admission.proofs.Admitted.{ratio_real, three_calls}
use Rattle.admission.proofs.admit_ratio.Goals as goal

pub returns : goal.returns
unfolding ratio_refusal
returns c =
    let a = c.args in
    let p = three_calls in_bound a.p0 _ c.of_three.ensures in
    let q = three_calls in_bound a.p1 _ c.of_three-2.ensures in
    c.by_ranges.ensures _ _ (λ b h. search (rules, h, three_calls is_finite)) (search (rules, p, q))
    (ratio_real a.p0 a.p1 a.ratio)
