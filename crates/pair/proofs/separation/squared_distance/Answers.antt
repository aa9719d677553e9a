-- `pair::separation::squared_distance` meets its contract, refused or not. Assumes nothing.
use Rattle.pair.specs.Points.{measured}
use Rattle.pair.proofs.Passed.{passed_on, given_on}
use Rattle.pair.proofs.separation.squared_distance.Goals as goal

pub returns-in_err-admit_split : goal.returns-in_err-admit_split
unfolding measured
returns-in_err-admit_split c = passed_on _ _ _ _ c.in_err-admit_split.ensures c.from_residual.ensures

pub returns : goal.returns
unfolding measured
returns c = given_on _ _ _ c.in_ok-admit_split.ensures c.nearest.ensures
