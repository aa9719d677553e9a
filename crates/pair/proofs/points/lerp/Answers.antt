-- `pair::points::lerp` meets its contract, refused or not. Assumes nothing.
use Rattle.std.proofs.Common.{sym, subst, T, Float, List}
use Rattle.number.specs.Number.{is_finite}
use Rattle.number.proofs.Answers.{given}
use Rattle.admission.specs.Admission.{of_three}
use Rattle.pair.specs.Points.{placed}
use Rattle.pair.proofs.Passed.{passed_on, given_on}
use Rattle.pair.proofs.StayFinite.{place_finite}
use Rattle.pair.proofs.points.lerp.Goals as goal

pub returns-in_err-admit_ratio-clause-answer : goal.returns-in_err-admit_ratio-clause-answer
unfolding placed
returns-in_err-admit_ratio-clause-answer c = passed_on _ _ _ _ c.in_err-admit_ratio.ensures c.from_residual.ensures

pub returns-clause-answer : goal.returns-clause-answer
unfolding placed
returns-clause-answer c = given_on _ _ _ c.in_ok-admit_ratio.ensures c.lerp.ensures

pub returns-clause-finite : goal.returns-clause-finite
returns-clause-finite c =
    let a = c.args in
    subst (λ (v : List Float). T (of_three is_finite v)) (sym c.lerp.ensures)
    (place_finite a.p0 a.p1 a.ratio (given _ tt _ (sym c.in_ok-admit_ratio.ensures)).0)
