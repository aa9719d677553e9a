use Rattle.std.proofs.Common.{◌≡◌, ◌&&◌, not, fold, take}
use Rattle.std.specs.Float.Ieee.{lt, le}
use Rattle.distance.proofs.candidate.all_above.Given as goal

abbrev pub invariant-loop-squared : goal.invariant-loop-squared
invariant-loop-squared g l =
    l.above
    ≡ fold (λ above x. above && not (le x l.threshold)) (lt l.threshold l.first) (take l.squared-index l.squared-items)
