-- Text after text.
use Rattle.text.proofs.Puts.{and_then}
use Rattle.root_sheet.specs.RootSheet.{told}
use Rattle.root_sheet.proofs.put_answered.Goals as goal

pub returns : goal.returns
unfolding told
returns c =
    let digits = rw c.float_of.ensures at c.put_worked.ensures in
    let last = rw c.bits_of.ensures at c.put_named-2.ensures in
    and_then (and_then c.put_named.ensures digits) last
