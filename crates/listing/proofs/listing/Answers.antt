-- What is written on the page is put into the buffer.
use Rattle.std.proofs.Common.{rules, arith}
use Rattle.text.proofs.Puts.{put, no_longer, whole_text}
use Rattle.listing.proofs.Lengths.{listing_short}
use Rattle.listing.proofs.listing.Goals as goal

pub returns : goal.returns
returns c =
    let few = listing_short c.args.s.now in
    let text = put c.new-page.ensures c.put_listing.ensures (omega arith) (search rules) c.next_place.ensures in
    record { text = text; short = no_longer text few; whole = whole_text text }
