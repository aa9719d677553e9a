-- What the walk from here tells, after the probes made, is what the whole walk tells; and after the first turn a probe
-- was made here.
use Rattle.std.proofs.Common.{◌≡◌, ℕ, ◌-◌, ◌<◌}
use mathlib.Core.Bool.{true}
use mathlib.Core.List.{List}
use lib.Dec.{T}
use lib.Ieee.{Float, binary32, fits}
use Rattle.number.specs.Number.{zero32}
use Rattle.number.proofs.Capped.{Capped}
use Rattle.ccd3.specs.declared.Visit.{Visit}
use Rattle.ccd3.specs.SafeTime.{above, visit, walk}
use Rattle.ccd3.specs.Inner.{counted_from}
use Rattle.ccd3.proofs.WalkLoop.{walk_from}
use Rattle.ccd3.proofs.walk.Walk.walk.Given as goal

-- a visit where a probe was made, above the threshold
pub record Probed (x₀ dx : List (List Float)) (split : ℕ) (threshold : Float) (v : Visit) : Type 0 where
  pub own : v ≡ visit x₀ dx split v.time
  pub far : above x₀ dx split threshold v.time ≡ true
  pub fit : T (fits binary32 v.time)

abbrev pub invariant-loop-ending : goal.invariant-loop-ending
invariant-loop-ending l =
    let w = l.fn.self in
    Capped (walk_from w.x0 w.dx w.split w.threshold w.limits) l.fn.allowance
    (counted_from 0 (walk w.x0 w.dx w.split w.threshold w.limits l.fn.allowance
    (record { time = zero32; points = w.x0; near = l.fn.first }))) l.probes (l.probes, l.here)
    × (0 < l.probes → Probed w.x0 w.dx w.split w.threshold l.here)

abbrev pub decreases-loop-ending : goal.decreases-loop-ending
decreases-loop-ending l = l.fn.allowance - l.probes
