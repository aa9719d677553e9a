-- Text after text.
use Rattle.listing.specs.Listing.{counted}
use Rattle.text.proofs.Puts.{and_then}
use Rattle.listing.proofs.put_counted.Goals as goal

pub returns : goal.returns
unfolding counted
returns c = search (and_then)
