-- `pair::points::add_scaled` meets its contract, refused or not. Assumes nothing.
use Rattle.admission.proofs.Admitted.{time_told}
use Rattle.pair.specs.Points.{moved_into}
use Rattle.pair.proofs.Passed.{lent_refused, lent_given}
use Rattle.pair.proofs.StayFinite.{moved_finite}
use Rattle.pair.proofs.points.add_scaled.Goals as goal

pub returns-in_err-admit_time : goal.returns-in_err-admit_time
unfolding moved_into
returns-in_err-admit_time c =
    let a = c.args in
    lent_refused _ (time_told a.x0 a.dx a.t) _ _ _ _ c.in_err-admit_time.ensures c.from_residual.ensures

pub returns : goal.returns
unfolding moved_into
returns c =
    let a = c.args in
    lent_given _ (time_told a.x0 a.dx a.t) _ a.x.now _ c.in_ok-admit_time.ensures c.add_scaled.ensures
    (moved_finite a.x0 a.dx a.t a.x.now)
