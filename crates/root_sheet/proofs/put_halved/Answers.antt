-- Text after text.
use Rattle.text.proofs.Puts.{and_then}
use Rattle.root_sheet.specs.RootSheet.{halved}
use Rattle.root_sheet.proofs.put_halved.Goals as goal

pub returns : goal.returns
unfolding halved
returns c = search (and_then)
