use Rattle.std.proofs.Common.{◌<◌, sym, ap, ◌∙◌, List, Float, arith}
use Rattle.number.proofs.Capped.{capped_start, capped_goes_on, capped_spent}
use Rattle.geometry.specs.Geometry.{scaled}
use Rattle.motion.specs.Motion.{eightfold, scaled_by}
use Rattle.motion.proofs.factors.Factors.times.Goals as goal

pub loop-init : goal.loop-init
loop-init c = capped_start eightfold _ _

pub loop-preserved : goal.loop-preserved
unfolding eightfold
loop-preserved c =
    let l = c.loop in
    capped_goes_on eightfold _ _ l.counter l.y l.invariant (omega arith) _
    (λ k. ap (eightfold k) (sym c.scaled-more.ensures))

pub returns : goal.returns
unfolding eightfold scaled_by
returns c =
    let l = c.loop in
    let by = c.args.self in
    let full : l.counter < by.eights → ⊥ = λ h. omega arith in
    let all = capped_spent eightfold by.eights _ l.counter l.y l.invariant full in
    c.scaled.ensures ∙ ap (λ (z : List (List Float)). scaled z by.last) all
