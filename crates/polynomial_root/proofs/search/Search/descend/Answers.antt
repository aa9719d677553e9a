-- Each of the loop's turns is one of Newton's steps.
use native.Mathlib.Omega.{arith}
use Prim.Native.Nat.{◌<◌}
use Rattle.number.specs.Number.{numbered}
use Rattle.polynomial_root.specs.Roots.{newton_steps}
use Rattle.polynomial_root.proofs.Steps.{out_of_steps, stops, refuses, goes_on}
use Rattle.polynomial_root.proofs.search.Search.descend.Goals as goal

pub returns-then-size-self : goal.returns-then-size-self
returns-then-size-self c =
    stops _ _ _ c.loop.r c.loop.counter _ c.loop.invariant (omega arith) _ c.value_at-f.ensures _ c.size.ensures
    c.if-size-self.true

pub returns-then-f-d : goal.returns-then-f-d
unfolding numbered
returns-then-f-d c =
    refuses _ _ _ c.loop.r c.loop.counter _ c.loop.invariant (omega arith) _ c.value_at-f.ensures _ c.size.ensures
    c.if-size-self.false _ c.slope_at-d.ensures c.if-f-d.true

pub loop-preserved : goal.loop-preserved
loop-preserved c =
    goes_on _ _ _ c.loop.r c.loop.counter _ c.loop.invariant (omega arith) _ c.value_at-f.ensures _ c.size.ensures
    c.if-size-self.false _ c.slope_at-d.ensures c.if-f-d.false _ c.clamp-r.ensures

pub returns : goal.returns
returns c =
    out_of_steps _ _ _ c.loop.r c.loop.counter _ c.loop.invariant
    (λ (h : c.loop.counter < newton_steps). omega arith)
