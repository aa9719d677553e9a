-- A zero by its sign.
use mathlib.Core.Path.{sym, ap, ◌∙◌, subst}
use Prim.Native.Nat.{◌^◌, ◌<◌}
use lib.Ieee.{binary32}
use lib.Ieee.Bits.{of_bits-fits}
use Rattle.number.specs.declared.by_hand.Argument.{Argument}
use Rattle.number.specs.Pattern.{float_of}
use Rattle.number.specs.ByHand.{argument_of}
use Rattle.number.proofs.SquareRoot.Taken.{digits_short}
use Rattle.root_sheet.proofs.numeral.put_decimal_of.Goals as goal

pub put_value-requires : goal.put_value-requires
put_value-requires c =
    let e = c.argument_of-a.ensures ∙ ap argument_of c.float_of.ensures in
    subst (λ (b : Argument). b.digits < 2 ^ 24) (sym e)
    (digits_short (float_of c.args.bits) (of_bits-fits binary32 c.args.bits))
