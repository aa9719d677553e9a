-- What the pairs still to come make of the least time so far is what all the pairs make of the largest f32.
use Rattle.std.proofs.Common.{◌≡◌, ℕ, ◌<◌, ◌≤◌, List}
use lib.Ieee.{Float}
use Rattle.geometry.specs.Geometry.{Cross, cross_pairs}
use Rattle.geometry.proofs.CrossPairs.{rows, rest}
use Rattle.number.specs.Number.{largest32}
use Rattle.ccd3.specs.Inner.{least_in}
use Rattle.ccd3.proofs.directional.over_sides.Given as goal

abbrev pub Left : ℕ → Float → List (List Float) → List (List Float) → List Cross → Float → Type 0
Left split dip left time ps least =
    least_in left time dip ps least ≡ least_in left time dip (cross_pairs split) largest32

abbrev pub invariant-loop-j : goal.invariant-loop-j
invariant-loop-j l =
    (l.i < l.fn.split) × (l.fn.split ≤ l.j)
    × Left l.fn.split l.fn.dip l.fn.left l.fn.time (rest l.fn.split l.i l.j) l.step

abbrev pub invariant-sides : goal.invariant-sides
invariant-sides l = Left l.fn.split l.fn.dip l.fn.left l.fn.time (rows l.fn.split l.i) l.step
