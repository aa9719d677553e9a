-- `pair::points::scale_in_place` meets its contract, refused or not. Assumes nothing.
use Rattle.admission.proofs.Admitted.{factor_told}
use Rattle.pair.specs.Points.{scaled_in}
use Rattle.pair.proofs.Passed.{lent_refused, lent_given}
use Rattle.pair.proofs.StayFinite.{scaled_finite}
use Rattle.pair.proofs.points.scale_in_place.Goals as goal

pub returns-in_err-admit_factor : goal.returns-in_err-admit_factor
unfolding scaled_in
returns-in_err-admit_factor c =
    let a = c.args in
    lent_refused _ (factor_told a.x.now a.s) _ _ _ _ c.in_err-admit_factor.ensures c.from_residual.ensures

pub returns : goal.returns
unfolding scaled_in
returns c =
    let a = c.args in
    lent_given _ (factor_told a.x.now a.s) _ a.x.now _ c.in_ok-admit_factor.ensures c.scaled.ensures
    (scaled_finite a.x.now a.s)
