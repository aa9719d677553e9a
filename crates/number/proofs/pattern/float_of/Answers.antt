-- `float_of`: the bits that are taken are no NaN's, the others are a NaN's.
use Rattle.std.proofs.Common.{sym}
use lib.Ieee.{of_bits, div}
use Rattle.number.proofs.Patterns.{no_nan_bits}
use Rattle.number.proofs.NoNan.{nan_of}
use Rattle.number.proofs.pattern.float_of.Goals as goal

pub float_from_bits-result : goal.float_from_bits-result
float_from_bits-result c = no_nan_bits c.args.bits c.if-bits-le2139095040.true

pub returns-else-bits-le2139095040 : goal.returns-else-bits-le2139095040
unfolding of_bits div
returns-else-bits-le2139095040 c = sym (nan_of c.args.bits c.if-bits-le2139095040.false)
