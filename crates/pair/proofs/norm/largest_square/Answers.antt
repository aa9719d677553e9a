-- `pair::norm::largest_square` meets its contract: the cross pairs of any split, row after row. Assumes nothing.
use Rattle.std.proofs.Common.{ℕ, ◌+◌, length, arith, sym, ap, ◌∙◌, []}
use Rattle.geometry.specs.Geometry.{col}
use Rattle.pair.proofs.Sides.{all_left, row_left, none_more, turn_left, row_over}
use Rattle.pair.proofs.norm.largest_square.Goals as goal

pub loop-p-init : goal.loop-p-init
loop-p-init c = all_left c.args.x c.args.split

pub loop-q-init : goal.loop-q-init
loop-q-init c =
    row_left _ _ _ (c.split_at.ensures.front_len ∙ c.min.ensures) _ _ _ (omega arith) (omega arith) c.loop-p.invariant

pub loop-q-preserved : goal.loop-q-preserved
loop-q-preserved c =
    let x = c.args.x in
    let sides = c.split_at.ensures in
    let i = c.loop-p.p-index in
    let j = c.loop-q.q-index in
    turn_left x c.args.split i (length c.split_at.result.0.now + j) _ _ _ _ _ _ _ (omega arith) (omega arith)
    (sides.by_index.1 i [] (omega arith))
    (sides.by_index.2 j [] ∙ ap (λ (n : ℕ). col x (n + j)) (sym sides.front_len)) c.sub-gap.ensures c.dot.ensures
    c.larger-largest.ensures c.loop-q.invariant

pub loop-p-preserved : goal.loop-p-preserved
loop-p-preserved c = row_over _ _ _ _ _ (omega arith) c.loop-q.invariant

pub returns : goal.returns
returns c = none_more _ _ _ (c.split_at.ensures.front_len ∙ c.min.ensures) _ _ (omega arith) c.loop-p.invariant
