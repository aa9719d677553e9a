-- Text after text.
use Rattle.text.proofs.Puts.{and_then}
use Rattle.root_sheet.specs.RootSheet.{named}
use Rattle.root_sheet.proofs.numeral.put_named.Goals as goal

pub returns : goal.returns
unfolding named
returns c = search (and_then)
