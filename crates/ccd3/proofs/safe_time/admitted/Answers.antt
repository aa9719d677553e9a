-- By either way through the test.
use mathlib.Core.Path.{◌≡◌, sym, ap, ◌∙◌}
use mathlib.Core.Bool.{Bool, true, false}
use mathlib.Core.List.{List}
use Prim.Native.Nat.{ℕ}
use lib.Ieee.{Float, le}
use Rattle.number.specs.Number.{zero32}
use Rattle.distance.specs.declared.candidate.Nearest.{Nearest}
use Rattle.distance.specs.Distance.{nearest_of}
use Rattle.admission.specs.declared.Limits.{Limits}
use Rattle.ccd3.specs.SafeTime.{walk, squared_offset, threshold_from, first_squared, touches}
use Rattle.ccd3.specs.Inner.{counted_from}
use Rattle.ccd3.proofs.StartLaws.{safe_touches, safe_walks}
use Rattle.ccd3.proofs.safe_time.admitted.Goals as goal

-- the test, as the definition has it
as_touches : (x₀ dx : List (List Float)) (split : ℕ) (l : Limits) (n : Nearest) (r b : Bool) → n ≡ nearest_of split x₀
    → r ≡ le n.squared (squared_offset l) → r ≡ b → touches x₀ dx split l ≡ b
unfolding first_squared
as_touches x₀ dx split l n r b e f g = ap (λ (m : Nearest). le m.squared (squared_offset l)) (sym e) ∙ sym f ∙ g

pub returns-then-touches : goal.returns-then-touches
returns-then-touches c =
    let a = c.args in
    c.still.ensures
    ∙ ap (counted_from 0)
    (sym (safe_touches a.x0 a.dx a.split a.l a.allowance c.requires
    (as_touches a.x0 a.dx a.split a.l _ _ true c.nearest-first.ensures c.touches.ensures c.if-touches.true)))

pub returns : goal.returns
unfolding first_squared
returns c =
    let a = c.args in
    c.walk.ensures
    ∙ ap (λ (t : Float). counted_from 0 (walk a.x0 a.dx a.split t a.l a.allowance
    (record { time = zero32; points = a.x0; near = c.nearest-first.result }))) c.threshold.ensures
    ∙ ap (λ (near : Nearest). counted_from 0 (walk a.x0 a.dx a.split (threshold_from a.l near.squared)
    a.l a.allowance (record { time = zero32; points = a.x0; near = near }))) c.nearest-first.ensures
    ∙ ap (counted_from 0)
    (sym (safe_walks a.x0 a.dx a.split a.l a.allowance c.requires
    (as_touches a.x0 a.dx a.split a.l _ _ false c.nearest-first.ensures c.touches.ensures c.if-touches.false)))
