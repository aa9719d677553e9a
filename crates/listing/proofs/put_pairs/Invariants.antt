-- After i turns the lines of the first i pairs are written.
use Rattle.text.specs.Text.{Written}
use Rattle.listing.specs.Listing.{lines}
use Rattle.listing.proofs.put_pairs.Given as goal

abbrev pub invariant-loop-i : goal.invariant-loop-i
invariant-loop-i l = Written l.initial.page (lines l.s l.i) l.page
