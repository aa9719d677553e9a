-- By whether there are digits.
use borrow.Author.Tests.{ne_eqb}
use Rattle.text.proofs.Puts.{and_then}
use Rattle.root_sheet.specs.RootSheet.{worked}
use Rattle.root_sheet.proofs.put_worked.Goals as goal

pub returns : goal.returns
unfolding worked
returns c =
    rw (← c.argument_of-a.ensures, ne_eqb _ _ c.if-a-eq0.false)
    (and_then (and_then c.put_opening.ensures c.put_rows.ensures) c.put_closing.ensures)
