-- What the cross pairs still to come make of the largest so far is what all of them make of zero. Assumes nothing.
use Rattle.std.proofs.Common.{◌+◌, length}
use Rattle.geometry.proofs.CrossPairs.{rows, rest}
use Rattle.pair.proofs.Sides.{Left}
use Rattle.pair.proofs.norm.largest_square.Given as goal

abbrev pub invariant-loop-q : goal.invariant-loop-q
invariant-loop-q l = Left l.fn.x l.split (rest l.split l.p-index (length l.first + l.q-index)) l.largest

abbrev pub invariant-loop-p : goal.invariant-loop-p
invariant-loop-p l = Left l.fn.x l.split (rows l.split l.p-index) l.largest
