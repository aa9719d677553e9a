use Rattle.std.proofs.Common.{◌≡◌, ℕ, ◌<◌, length, take, get_or}
use lib.Ieee.{Float}
use Rattle.distance.specs.Distance.{nearest_from}
use Rattle.distance.proofs.Choice.{least_of}
use Rattle.distance.proofs.candidate.first_smallest.Given as goal

abbrev pub invariant-loop-i : goal.invariant-loop-i
invariant-loop-i g l =
    (length l.before ≡ g.row.N)
    × (l.least ≡ least_of l.fn.first l.fn.others l.i)
    × ((k : ℕ) (d : Float) → k < l.i → get_or l.before k d ≡ least_of l.fn.first l.fn.others k)

-- those from i on are not nearer than all before them
abbrev pub invariant-loop-i-2 : goal.invariant-loop-i-2
invariant-loop-i-2 g l = nearest_from l.fn.first l.fn.others ≡ nearest_from l.fn.first (take l.i l.fn.others)
