-- `argument_of`: by the exponent's field, a subnormal argument raised first.
use Rattle.std.proofs.Common.{◌≡◌, ℕ, ◌+◌, ◌-◌, ◌*◌, ◌/◌, ◌%◌, ◌^◌, ◌<◌, T, sym, subst, arith}
use lib.Ieee.{Float, binary32, fits, lt, to_bits}
use Rattle.number.specs.Number.{zero32, inf_bits}
use Rattle.number.proofs.Patterns.{weight}
use Rattle.number.proofs.Neighbours.{some_bits}
use Rattle.number.proofs.SquareRoot.Argument.{at_top, finite_bits, scale_normal, lift}
use Rattle.number.proofs.SquareRoot.Argument.{Raised, raised, scale_subnormal}
use Rattle.number.proofs.SquareRoot.Taken.{argument_is, not_above_none, not_finite_none}
use Rattle.number.proofs.by_hand.argument_of.Goals as goal

-- ---- a subnormal argument, raised
up : (x : Float) → T (fits binary32 x) → T (lt zero32 x) → to_bits binary32 x / 8388608 ≡ 0
    → Raised (to_bits binary32 x)
up x f a z = raised (to_bits binary32 x) (some_bits x f a) (omega arith)

pub overflow_sub-z : goal.overflow_sub-z
overflow_sub-z c =
    (up c.args.x (subst T (sym c.well_formed.0.1) tt) (subst T (sym c.if-x.true) tt) c.in-0.is).enough

pub overflow_shl-digits : goal.overflow_shl-digits
overflow_shl-digits c =
    let u = up c.args.x (subst T (sym c.well_formed.0.1) tt) (subst T (sym c.if-x.true) tt) c.in-0.is in
    omega (arith, u.within)

pub overflow_sub-exponent : goal.overflow_sub-exponent
overflow_sub-exponent c =
    let u = up c.args.x (subst T (sym c.well_formed.0.1) tt) (subst T (sym c.if-x.true) tt) c.in-0.is in
    omega (arith, u.within)

pub returns-in-0 : goal.returns-in-0
returns-in-0 c =
    let x = c.args.x in
    let f = subst T (sym c.well_formed.0.1) tt in
    let a = subst T (sym c.if-x.true) tt in
    let d = to_bits binary32 x in
    let u = up x f a c.in-0.is in
    rw u.exact
    (argument_is x (d * 2 ^ lift d) (24 - lift d) u.low u.high (omega arith)
    (scale_subnormal x f a (lift d) u.within c.in-0.is) a (finite_bits x f a (omega arith)))

-- ---- a normal argument
same : (b : ℕ) → b < inf_bits → weight b * 8388608 % 4294967296 ≡ weight b * 8388608
same b h = omega arith

pub returns-in-1-to-254 : goal.returns-in-1-to-254
returns-in-1-to-254 c =
    let x = c.args.x in
    let f = subst T (sym c.well_formed.0.1) tt in
    let a = subst T (sym c.if-x.true) tt in
    let b = to_bits binary32 x in
    let l : b < inf_bits = omega arith in
    let n : 0 < b / 8388608 = omega arith in
    rw (same b l)
    (argument_is x (b - weight b * 8388608) (b / 8388608 + 23) (omega arith) (omega arith) (omega arith)
    (scale_normal x f a l n) a (finite_bits x f a l))

-- ---- no argument
pub returns-in_default : goal.returns-in_default
returns-in_default c =
    not_finite_none c.args.x
    (at_top c.args.x (subst T (sym c.well_formed.0.1) tt) (subst T (sym c.if-x.true) tt) (omega arith))

pub returns-else-x : goal.returns-else-x
returns-else-x c = not_above_none c.args.x c.if-x.false
