-- The last candidate that is nearer than all before it is the first smallest.
use mathlib.Core.Path.{refl}
use Rattle.std.proofs.Common.{◌-◌, length-set, arith}
use Rattle.std.proofs.lemmas.List.{length-replicate}
use Rattle.distance.specs.Distance.{nearest_from}
use Rattle.distance.proofs.Choice.{least_next, least_kept, none_before, taken_at, passed_at, inner_taken, inner_passed}
use Rattle.distance.proofs.candidate.first_smallest.Goals as goal

pub loop-i-init : goal.loop-i-init
unfolding nearest_from
loop-i-init g c = (length-replicate g.row.N _, refl, λ k d h. absurd (omega arith))

pub loop-i-preserved : goal.loop-i-preserved
loop-i-preserved g c = (
  rw length-set c.loop-i.invariant.0,
  least_next c.args.first c.args.others c.loop-i.i _ _ _ (omega arith) c.loop-i.invariant.1 c.smaller-least.ensures,
  least_kept c.args.first c.args.others c.loop-i.before c.loop-i.i c.loop-i.least
      (omega (arith, c.loop-i.invariant.0)) c.loop-i.invariant.1 c.loop-i.invariant.2,
)

pub returns-then-there-inner : goal.returns-then-there-inner
returns-then-there-inner g c =
    inner_taken c.args.first c.args.others c.args.there c.args.inner c.loop-i.i _ (omega arith) c.loop-i.invariant.1
    c.if-there-inner.true

pub returns-then-others-i : goal.returns-then-others-i
returns-then-others-i g c =
    inner_passed c.args.first c.args.others c.args.there c.args.inner c.loop-i.i _ (omega arith) c.loop-i.invariant.1
    c.if-there-inner.false _
    (taken_at c.args.first c.args.others c.loop-i-2.i (c.loop-i-2.i - 1) _ _ (omega arith) (omega arith)
    (c.loop-i.invariant.2 (c.loop-i-2.i - 1) _ (omega arith)) c.loop-i-2.invariant c.if-others-i.true)

pub loop-i-2-preserved : goal.loop-i-2-preserved
loop-i-2-preserved g c =
    passed_at c.args.first c.args.others c.loop-i-2.i (c.loop-i-2.i - 1) _ _ (omega arith) (omega arith)
    (c.loop-i.invariant.2 (c.loop-i-2.i - 1) _ (omega arith)) c.loop-i-2.invariant c.if-others-i.false

pub returns : goal.returns
returns g c =
    inner_passed c.args.first c.args.others c.args.there c.args.inner c.loop-i.i _ (omega arith) c.loop-i.invariant.1
    c.if-there-inner.false _
    (none_before c.args.first c.args.others c.loop-i-2.i c.loop-i-2-test.false c.loop-i-2.invariant)
