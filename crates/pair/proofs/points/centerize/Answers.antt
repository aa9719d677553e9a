-- `pair::points::centerize` meets its contract, refused or not. Assumes nothing.
use Rattle.admission.proofs.Admitted.{points_told}
use Rattle.pair.specs.Points.{centred_in}
use Rattle.pair.proofs.Passed.{lent_refused, lent_given}
use Rattle.pair.proofs.StayFinite.{centred_finite}
use Rattle.pair.proofs.points.centerize.Goals as goal

pub returns-in_err-admit_points : goal.returns-in_err-admit_points
unfolding centred_in
returns-in_err-admit_points c =
    let a = c.args in
    lent_refused _ (points_told a.x.now) _ _ _ _ c.in_err-admit_points.ensures c.from_residual.ensures

pub returns : goal.returns
unfolding centred_in
returns c =
    let a = c.args in
    lent_given _ (points_told a.x.now) _ a.x.now _ c.in_ok-admit_points.ensures c.centerized.ensures
    (centred_finite a.x.now)
