-- `size`: by either way through its test.
use Rattle.std.proofs.Common.{sym, subst, T}
use Rattle.number.proofs.Sizes.{minus_size, own_size}
use Rattle.number.proofs.order.size.Goals as goal

pub returns-then-x : goal.returns-then-x
returns-then-x c = minus_size c.args.x (subst T (sym c.well_formed.0.1) tt) c.if-x.true

pub returns-else-x : goal.returns-else-x
returns-else-x c = own_size c.args.x c.if-x.false
