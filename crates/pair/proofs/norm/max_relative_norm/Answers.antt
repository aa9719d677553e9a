-- `pair::norm::max_relative_norm` meets its contract, refused or not. Assumes nothing.
use borrow.Author.Rules.{rules}
use Rattle.geometry.proofs.Handed.{points_fit}
use Rattle.pair.proofs.Passed.{passed_on, given_on}
use Rattle.pair.proofs.NormBounds.{norm_clauses}
use Rattle.pair.proofs.norm.max_relative_norm.Goals as goal

pub returns-in_err-admit_split : goal.returns-in_err-admit_split
returns-in_err-admit_split c =
    norm_clauses _ _ (points_fit c.args.x _ c.well_formed.0) _
    (passed_on _ _ _ _ (search rules) c.from_residual.ensures)

pub returns : goal.returns
returns c =
    norm_clauses _ _ (points_fit c.args.x _ c.well_formed.0) _
    (given_on _ _ _ (search rules) c.norm.ensures)
