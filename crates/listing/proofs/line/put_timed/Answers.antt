-- Text after text.
use Rattle.listing.specs.Listing.{timed}
use Rattle.text.proofs.Puts.{and_then}
use Rattle.listing.proofs.line.put_timed.Goals as goal

pub returns : goal.returns
unfolding timed
returns c =
    let bits = rw c.bits_of.ensures at c.hex.ensures.written in
    and_then (and_then (and_then c.bytes.ensures bits) c.put_spaced.ensures) c.put_spaced-2.ensures
