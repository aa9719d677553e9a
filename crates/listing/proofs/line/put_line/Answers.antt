-- Text after text.
use Rattle.listing.specs.Listing.{line}
use Rattle.text.proofs.Puts.{and_then}
use Rattle.listing.proofs.line.put_line.Goals as goal

pub returns : goal.returns
unfolding line
returns c = search (and_then)
