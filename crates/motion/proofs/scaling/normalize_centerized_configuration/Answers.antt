use Rattle.std.proofs.Common.{sym}
use Rattle.std.proofs.lemmas.Result.{err_from_is_err_and}
use Rattle.motion.proofs.Scalings.{scales_stored, scales_refused}
use Rattle.motion.proofs.scaling.normalize_centerized_configuration.Goals as goal

pub returns-in_err-product : goal.returns-in_err-product
returns-in_err-product c =
    let p = err_from_is_err_and c.from_residual.result c.from_residual.ensures.1 in
    rw (p.1, p.2) (scales_refused c.args.pair.now c.args.max_t _ (sym c.in_err-product.ensures))

pub returns : goal.returns
returns c = scales_stored _ _ _ _ (sym c.in_ok-product.ensures)
