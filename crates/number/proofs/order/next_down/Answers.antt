-- `next_down`: a number above zero has a pattern below its own, and it is no NaN's.
use Rattle.std.proofs.Common.{◌-◌, sym, subst, T, arith}
use lib.Ieee.{binary32, to_bits}
use Rattle.number.proofs.Patterns.{no_nan_bits}
use Rattle.number.proofs.Neighbours.{above_bits, some_bits}
use Rattle.number.proofs.order.next_down.Goals as goal

pub overflow_sub-result : goal.overflow_sub-result
overflow_sub-result c = some_bits c.args.x (subst T (sym c.well_formed.0.1) tt) (subst T (sym c.if-x.true) tt)

pub float_from_bits-result : goal.float_from_bits-result
float_from_bits-result c =
    let l = above_bits c.args.x (subst T (sym c.well_formed.0.1) tt) (subst T (sym c.if-x.true) tt) in
    no_nan_bits (to_bits binary32 c.args.x - 1) (omega (arith, l))
