-- Whole part and fraction are the number.
use Rattle.std.proofs.Common.{ap, arith}
use Rattle.text.proofs.Puts.{as_text}
use Rattle.root_sheet.specs.RootSheet.{numeral}
use Rattle.root_sheet.proofs.Numerals.{back_le, part_short, whole_short, joined}
use Rattle.root_sheet.proofs.numeral.put_binary.Goals as goal

pub overflow_sub-fraction : goal.overflow_sub-fraction
overflow_sub-fraction c = rw c.from-wide.ensures (back_le c.args.digits c.args.places c.requires.0 c.requires.1)

pub overflow_cast-whole-2 : goal.overflow_cast-whole-2
overflow_cast-whole-2 c =
    rw c.from-wide.ensures (omega (arith, whole_short c.args.digits c.args.places c.requires.0 c.requires.1))

pub put_numeral-requires : goal.put_numeral-requires
put_numeral-requires c =
    rw c.from-wide.ensures (part_short c.args.digits c.args.places c.requires.0 c.requires.1)

pub returns : goal.returns
returns c =
    let number = rw c.from-wide.ensures at c.put_numeral.ensures in
    as_text (ap numeral (joined c.args.digits c.args.places c.requires.0 c.requires.1)) number
