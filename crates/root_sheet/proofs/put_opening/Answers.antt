-- Text after text.
use Rattle.text.proofs.Puts.{and_then}
use Rattle.root_sheet.specs.RootSheet.{opening}
use Rattle.root_sheet.proofs.put_opening.Goals as goal

pub returns : goal.returns
unfolding opening
returns c =
    let number = rw c.sheet_after.ensures.sheet at c.put_halved.ensures in
    and_then (and_then c.put_taken.ensures number) c.bytes.ensures
