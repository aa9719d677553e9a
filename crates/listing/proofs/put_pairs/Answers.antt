-- Line after line.
use Rattle.std.proofs.Common.{◌≡◌, ℕ, ◌+◌, List, ◌++◌, ap, arith, add-one}
use Rattle.text.proofs.Puts.{and_then, as_text, nothing, still_fits}
use Rattle.scene.specs.Scene.{safe_time_at}
use Rattle.listing.specs.Listing.{line, lines, listed}
use Rattle.listing.proofs.put_pairs.Goals as goal

one_more : (s : List ℕ) (i : ℕ) → lines s i ++ line i (safe_time_at s i) ≡ lines s (i + 1)
unfolding lines
one_more s i = rw add-one

pub loop-i-init : goal.loop-i-init
unfolding lines
loop-i-init c = nothing (still_fits c.put_counted.ensures)

pub loop-i-preserved : goal.loop-i-preserved
loop-i-preserved c =
    let line = rw c.safe_time.ensures.answer at c.put_line.ensures in
    as_text (one_more _ _) (and_then c.loop-i.invariant line)

pub returns : goal.returns
unfolding listed
returns c =
    let end : c.loop-i.i ≡ c.args.scene.pairs = omega arith in
    and_then c.put_counted.ensures (as_text (ap (lines _) end) c.loop-i.invariant)
