-- Text after text.
use Rattle.text.proofs.Puts.{and_then}
use Rattle.root_sheet.proofs.row.put_cell.Goals as goal

pub returns : goal.returns
returns c = search (and_then)
