-- Text after text.
use Rattle.text.proofs.Puts.{and_then}
use Rattle.listing.proofs.line.put_spaced.Goals as goal

pub returns : goal.returns
returns c = search (and_then)
