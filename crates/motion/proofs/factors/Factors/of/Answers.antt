-- In a turn f is above 8, so that a factor of 8 may still be taken.
use Rattle.std.proofs.Common.{sym, subst, Bool, not, T, arith}
use Rattle.std.specs.Float.Ieee.{lt}
use Rattle.motion.specs.Motion.{eight32}
use Rattle.motion.proofs.Eighths.{left_start, left_more, left_next, turned_start, turned_next, turned_stop}
use Rattle.motion.proofs.factors.Factors.of.Goals as goal

pub loop-last-init : goal.loop-last-init
loop-last-init c = record {
  left = left_start c.args.f (subst T (sym c.well_formed.0.1) tt) (subst T (sym c.requires) tt);
  turned = turned_start c.args.f;
}

pub loop-last-smaller : goal.loop-last-smaller
loop-last-smaller c =
    let l = c.loop-last in
    omega (arith, left_more l.eights l.last l.invariant.left (subst T (sym c.loop-last-test.true) tt))

pub loop-last-preserved : goal.loop-last-preserved
loop-last-preserved c =
    let l = c.loop-last in
    let above : T (lt eight32 l.last) = subst T (sym c.loop-last-test.true) tt in
    record {
      left = left_next l.eights l.last l.invariant.left above;
      turned =
          turned_next _ l.eights l.last l.product l.invariant.turned
          (left_more l.eights l.last l.invariant.left above) above;
    }

pub returns : goal.returns
returns c =
    let l = c.loop-last in
    turned_stop _ l.eights l.last l.product l.invariant.turned
    (subst (λ (b : Bool). T (not b)) (sym c.loop-last-test.false) tt)
