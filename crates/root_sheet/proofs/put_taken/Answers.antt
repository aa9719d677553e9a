-- Text after text.
use Rattle.text.proofs.Puts.{and_then}
use Rattle.root_sheet.specs.RootSheet.{taken}
use Rattle.root_sheet.proofs.put_taken.Goals as goal

pub returns : goal.returns
unfolding taken
returns c = search (and_then)
