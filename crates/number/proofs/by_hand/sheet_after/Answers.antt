-- `sheet_after`: the sheet is the one that the definition says.
use Rattle.std.proofs.Common.{◌≡◌, ℕ, ◌-◌, ◌*◌, ◌%◌, ◌^◌, ◌≤◌, ◌<◌, T, sym, ap, ◌∙◌, subst, arith}
use lib.Ieee.{Float, binary32, fits}
use Rattle.number.specs.declared.by_hand.Argument.{Argument}
use Rattle.number.specs.declared.by_hand.Sheet.{Sheet}
use Rattle.number.specs.ByHand.{argument_of, sheet_after}
use Rattle.number.specs.Inner.{OnSheet}
use Rattle.number.proofs.SquareRoot.Taken.{digits_short}
use Rattle.number.proofs.SquareRoot.Worked.{short, is_after, no_more, sheet_room}
use Rattle.number.proofs.by_hand.sheet_after.Goals as goal

-- the argument a of x, and its number n
module _ (x : Float) (f : T (fits binary32 x)) (a : Argument) (e : a ≡ argument_of x) (n : ℕ)
    (d : n ≡ a.digits * 2 ^ (a.exponent % 2)) where
  number_is : n ≡ (argument_of x).digits * 2 ^ ((argument_of x).exponent % 2)
  number_is = d ∙ ap (λ (b : Argument). b.digits * 2 ^ (b.exponent % 2)) e

  number_short : n < 2 ^ 25
  number_short = subst (λ (m : ℕ). m < 2 ^ 25) (sym number_is) (short x f)

  -- a sheet of that number is the sheet of x
  sheet_of : (turns : ℕ) (r : Sheet) → OnSheet (n * 2 ^ 25) (2 ^ (25 - turns)) r → r ≡ sheet_after x turns
  sheet_of turns r o =
      is_after x f turns r (subst (λ (m : ℕ). OnSheet (m * 2 ^ 25) (2 ^ (25 - turns)) r) number_is o)

  -- and has room
  with_room : (turns : ℕ) → turns ≤ 25 → (r : Sheet) → OnSheet (n * 2 ^ 25) (2 ^ (25 - turns)) r
      → (r.twice < 2 ^ 26) × (r.left < 2 ^ 27)
  with_room turns l r o =
      subst (λ (s : Sheet). (s.twice < 2 ^ 26) × (s.left < 2 ^ 27)) (sym (sheet_of turns r o)) (sheet_room x f turns l)

pub even-n-requires : goal.even-n-requires
even-n-requires c =
    subst (λ (a : Argument). a.digits < 2 ^ 24) (sym c.argument_of.ensures)
    (digits_short c.args.x (subst T (sym c.well_formed.0.1) tt))

pub worked-requires : goal.worked-requires
worked-requires c = (
  number_short c.args.x (subst T (sym c.well_formed.0.1) tt) _ c.argument_of.ensures _ c.even-n.ensures,
  omega arith,
)

pub worked-requires-else-turns-lt25 : goal.worked-requires-else-turns-lt25
worked-requires-else-turns-lt25 c = (
  number_short c.args.x (subst T (sym c.well_formed.0.1) tt) _ c.argument_of.ensures _ c.even-n.ensures,
  omega arith,
)

pub returns-then-turns-lt25-clause-sheet : goal.returns-then-turns-lt25-clause-sheet
returns-then-turns-lt25-clause-sheet c =
    sheet_of c.args.x (subst T (sym c.well_formed.0.1) tt) _ c.argument_of.ensures _ c.even-n.ensures c.args.turns
    c.worked.result c.worked.ensures

pub returns-then-turns-lt25-clause-room : goal.returns-then-turns-lt25-clause-room
returns-then-turns-lt25-clause-room c =
    with_room c.args.x (subst T (sym c.well_formed.0.1) tt) _ c.argument_of.ensures _ c.even-n.ensures c.args.turns
    (omega arith) c.worked.result c.worked.ensures

pub returns-else-turns-lt25-clause-sheet : goal.returns-else-turns-lt25-clause-sheet
returns-else-turns-lt25-clause-sheet c =
    let f = subst T (sym c.well_formed.0.1) tt in
    sheet_of c.args.x f _ c.argument_of.ensures _ c.even-n.ensures 25 c.worked-else-turns-lt25.result
    c.worked-else-turns-lt25.ensures
    ∙ no_more c.args.x f c.args.turns c.if-turns-lt25.false

pub returns-else-turns-lt25-clause-room : goal.returns-else-turns-lt25-clause-room
returns-else-turns-lt25-clause-room c =
    with_room c.args.x (subst T (sym c.well_formed.0.1) tt) _ c.argument_of.ensures _ c.even-n.ensures 25 (omega arith)
    c.worked-else-turns-lt25.result c.worked-else-turns-lt25.ensures
