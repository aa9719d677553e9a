-- What the inner functions of `motion` promise each other; no public statement cites it. Definitions only.
use Rattle.std.specs.Prelude.{Result, Float}
use Rattle.number.specs.Number.{answered}
use Rattle.number.specs.declared.refusal.Refusal.{Refusal}
use Rattle.motion.specs.declared.record.Pair.{Pair}
use Rattle.motion.specs.Motion.{scaling_refusal, factors_for, scaled_pair}

-- a scaling by value: the product of the factors with the scaled pair, or the refusal
abbrev pub outcome : Pair → Float → Result (Float × Pair) Refusal
outcome p t = answered (scaling_refusal p t) ((factors_for p t).product, scaled_pair p t)
