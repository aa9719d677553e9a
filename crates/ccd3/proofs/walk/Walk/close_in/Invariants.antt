use Rattle.std.proofs.Common.{◌≡◌, Bool}
use lib.Ieee.{Float}
use Rattle.number.specs.Number.{halve, window}
use Rattle.number.proofs.Capped.{Capped}
use Rattle.ccd3.specs.SafeTime.{above}
use Rattle.ccd3.proofs.HalvingLoop.{halve_from}
use Rattle.ccd3.proofs.walk.Walk.close_in.Given as goal

abbrev pub invariant-loop-made : goal.invariant-loop-made
invariant-loop-made l =
    let p : Float → Bool = above l.fn.self.x0 l.fn.self.dx l.fn.self.split l.fn.self.threshold in
    (l.window ≡ window l.lower l.upper)
    × Capped (halve_from p) 255 (halve p 255 0 l.fn.from l.fn.to) l.made (l.made, l.lower, l.upper)
