use mathlib.Core.Path.{◌≡◌, sym, ap, ◌∙◌}
use mathlib.Core.List.{List}
use Prim.Native.Nat.{ℕ, ◌+◌}
use native.Mathlib.Nat.{sub-zero}
use native.Mathlib.Omega.{arith}
use lib.Ieee.{Float}
use Rattle.geometry.specs.Geometry.{Cross, cross, cross_pairs}
use Rattle.geometry.proofs.CrossPairs.{rest, row_next, row_done, rows_next, rows_done}
use Rattle.ccd3.specs.Inner.{least_in}
use Rattle.ccd3.proofs.Tables.{none_left, pair_stops, pair_passes}
use Rattle.ccd3.proofs.directional.over_sides.Invariants.{Left}
use Rattle.ccd3.proofs.directional.over_sides.Goals as goal

-- the same of other pairs that are equal
turned : (split : ℕ) (dip : Float) (left time : List (List Float)) (ps qs : List Cross) (least : Float) → ps ≡ qs
    → Left split dip left time ps least → Left split dip left time qs least
turned split dip left time ps qs least e h = ap (λ (rs : List Cross). least_in left time dip rs least) (sym e) ∙ h

pub sides-init : goal.sides-init
unfolding cross_pairs
sides-init c = rw sub-zero

pub loop-j-init : goal.loop-j-init
loop-j-init c =
    let a = c.args in (
      omega arith,
      omega arith,
      turned a.split a.dip a.left a.time _ _ c.sides.step (rows_next a.split c.sides.i c.sides-test.true)
          c.sides.invariant,
    )

pub loop-j-preserved : goal.loop-j-preserved
loop-j-preserved c =
    let a = c.args in
    let i = c.sides.i in
    let j = c.loop-j.j in (
      omega arith,
      omega arith,
      sym (pair_passes a.left a.time a.dip (cross i j) (rest a.split i (j + 1)) c.loop-j.step
          c.smaller-step.result c.smaller-step.ensures c.if-lefts-j.false)
          ∙ turned a.split a.dip a.left a.time _ _ c.loop-j.step (row_next a.split i j c.loop-j-test.true)
          c.loop-j.invariant.2,
    )

pub sides-preserved : goal.sides-preserved
sides-preserved c =
    let a = c.args in
    turned a.split a.dip a.left a.time _ _ c.loop-j.step (row_done a.split c.sides.i c.loop-j.j c.loop-j-test.false)
    c.loop-j.invariant.2

pub returns-after-sides : goal.returns-after-sides
returns-after-sides c =
    let a = c.args in
    sym (none_left a.left a.time a.dip c.sides.step)
    ∙ turned a.split a.dip a.left a.time _ _ c.sides.step (rows_done a.split c.sides.i c.sides-test.false)
    c.sides.invariant

pub returns-then-lefts-j : goal.returns-then-lefts-j
returns-then-lefts-j c =
    let a = c.args in
    let i = c.sides.i in
    let j = c.loop-j.j in
    sym (pair_stops a.left a.time a.dip (cross i j) (rest a.split i (j + 1)) c.loop-j.step c.if-lefts-j.true)
    ∙ turned a.split a.dip a.left a.time _ _ c.loop-j.step (row_next a.split i j c.loop-j-test.true)
    c.loop-j.invariant.2
