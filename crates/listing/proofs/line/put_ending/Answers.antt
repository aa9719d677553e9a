-- A refusal is text after text.
use Rattle.listing.specs.Listing.{ending}
use Rattle.text.proofs.Puts.{and_then}
use Rattle.listing.proofs.line.put_ending.Goals as goal

pub returns-in-Refused : goal.returns-in-Refused
unfolding ending
returns-in-Refused c = rw c.in-Refused.is (search (and_then))
