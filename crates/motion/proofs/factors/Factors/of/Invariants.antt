-- What the definition makes of what is left is what it makes of f. The loop ends because few factors of 8 are taken out
-- of a finite number.
use Rattle.std.proofs.Common.{◌-◌}
use Rattle.motion.specs.Motion.{most_eights, factors_of}
use Rattle.motion.proofs.Eighths.{Left, Turned}
use Rattle.motion.proofs.factors.Factors.of.Given as goal

abbrev pub invariant-loop-last : goal.invariant-loop-last
invariant-loop-last l = record {
  left : Left l.eights l.last;
  turned : Turned (factors_of l.f) l.eights l.last l.product;
}

abbrev pub decreases-loop-last : goal.decreases-loop-last
decreases-loop-last l = most_eights - l.eights
