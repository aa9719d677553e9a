-- The loop follows `halve`.
use mathlib.Core.Path.{◌≡◌, refl, sym, ap, ◌∙◌}
use mathlib.Core.Logic.{inl, inr}
use mathlib.Core.Bool.{Bool, true, false}
use Prim.Native.Nat.{◌+◌}
use native.Mathlib.Omega.{arith}
use lib.Ieee.{Float, eq}
use Rattle.number.specs.Number.{Halved, window}
use Rattle.number.proofs.Capped.{capped_spent, capped_ends, capped_goes_on}
use Rattle.ccd3.specs.SafeTime.{above, closing}
use Rattle.ccd3.proofs.HalvingLoop.{halve_from, Moved, halve_none, new_ends, halve_arrives, halve_goes_on}
use Rattle.ccd3.proofs.walk.Walk.close_in.Goals.{then-is_above, else-is_above}
use Rattle.ccd3.proofs.walk.Walk.close_in.Goals as goal

-- the window that the loop kept is that of the ends
as_kept : (w n lo hi : Float) (b : Bool) → w ≡ window lo hi → eq n w ≡ b → eq n (window lo hi) ≡ b
as_kept w n lo hi b e h = ap (eq n) (sym e) ∙ h

pub returns-then-narrower-window : goal.returns-then-narrower-window
unfolding closing
returns-then-narrower-window c =
    let w = c.args.self.now in
    let p : Float → Bool = above w.x0 w.dx w.split w.threshold in
    let l = c.loop-made in
    let m : Moved p l.lower l.upper c.if-is_above.lower c.if-is_above.upper =
    new_ends p l.lower l.upper _ _ (elim c.if-is_above.branch [
      | then-is_above w ↦ inl (sym c.is_above.ensures ∙ w.if-is_above.true, w.lower-is, w.upper-is)
      | else-is_above w ↦ inr (sym c.is_above.ensures ∙ w.if-is_above.false, w.lower-is, w.upper-is)
    ]) in
    let e : record { lower = c.if-is_above.lower; upper = c.if-is_above.upper; count = l.made + 1; stopped = true }
    ≡ closing w.x0 w.dx w.split w.threshold c.args.from c.args.to =
    capped_ends (halve_from p) 255 _ l.made _ l.invariant.1 (omega (arith, c.loop-made-test.true)) _
    (λ k. halve_arrives p l.made l.lower l.upper _ _ m k
    (as_kept _ _ _ _ true l.invariant.0 c.if-narrower-window.true)) in
    record {
      lower = ap (λ (h : Halved). h.lower) e;
      upper = ap (λ (h : Halved). h.upper) e;
      count = ap (λ (h : Halved). h.count) e;
    }

pub loop-made-preserved : goal.loop-made-preserved
loop-made-preserved c =
    let w = c.args.self.now in
    let p : Float → Bool = above w.x0 w.dx w.split w.threshold in
    let l = c.loop-made in
    let m : Moved p l.lower l.upper c.if-is_above.lower c.if-is_above.upper =
    new_ends p l.lower l.upper _ _ (elim c.if-is_above.branch [
      | then-is_above w ↦ inl (sym c.is_above.ensures ∙ w.if-is_above.true, w.lower-is, w.upper-is)
      | else-is_above w ↦ inr (sym c.is_above.ensures ∙ w.if-is_above.false, w.lower-is, w.upper-is)
    ]) in (
      refl,
      capped_goes_on (halve_from p) 255 _ l.made _ l.invariant.1 (omega (arith, c.loop-made-test.true)) _
          (λ k. halve_goes_on p l.made l.lower l.upper _ _ m k
          (as_kept _ _ _ _ false l.invariant.0 c.if-narrower-window.false)),
    )

-- no halving is left
pub returns : goal.returns
unfolding closing
returns c =
    let w = c.args.self.now in
    let p : Float → Bool = above w.x0 w.dx w.split w.threshold in
    let l = c.loop-made in
    let e : record { lower = l.lower; upper = l.upper; count = l.made; stopped = false }
    ≡ closing w.x0 w.dx w.split w.threshold c.args.from c.args.to =
    sym (halve_none p l.made l.lower l.upper)
    ∙ capped_spent (halve_from p) 255 _ l.made _ l.invariant.1 (λ m. omega (arith, c.loop-made-test.false)) in
    let all : 255 ≡ l.made = omega (arith, c.loop-made-test.false, l.auto.made-end) in
    record {
      lower = ap (λ (h : Halved). h.lower) e;
      upper = ap (λ (h : Halved). h.upper) e;
      count = all ∙ ap (λ (h : Halved). h.count) e;
    }
