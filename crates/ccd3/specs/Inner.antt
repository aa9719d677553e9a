-- What the inner functions of `ccd3` promise each other; no public statement cites it. Definitions only.
use Rattle.std.specs.Prelude.{ℕ, ◌+◌, cond, List, [], ◌∷◌, length, Float}
use Rattle.std.specs.Float.Ieee.{lt, le}
use Rattle.number.specs.Number.{zero32, largest32, smaller}
use Rattle.geometry.specs.Geometry.{at, col, Cross}
use Rattle.ccd3.specs.declared.{Aim.Aim, Counted.Counted}
use Rattle.ccd3.specs.SafeTime.{time_to_park, Walked}

-- ---- the directional step over tables of what each cross pair leaves
-- the time of a pair with this projected gap left, at this speed; of one that does not close in, the largest f32
unfoldable pub time_left : Aim → Float → Float → Float
time_left a left speed = cond (lt zero32 speed) (time_to_park a left speed) largest32

-- what a table has for a cross pair
abbrev pub entry : List (List Float) → Cross → Float
entry table p = at (col table p.first) p.second

-- the least time over cross pairs; the first whose projected gap is not above dip ends it all with 0
unfoldable pub least_in : List (List Float) → List (List Float) → Float → List Cross → Float → Float
least_in left time dip [] least = least
least_in left time dip (p ∷ rest) least =
    cond (le (entry left p) dip) zero32 (least_in left time dip rest (smaller least (entry time p)))

-- ---- the walk, with its probes counted
-- of a walk that goes on after n probes: how it ends, and how many probes it has made by then
abbrev pub counted_from : ℕ → Walked → Counted
counted_from n w = record { ending = w.ending; probes = n + length w.probed }
