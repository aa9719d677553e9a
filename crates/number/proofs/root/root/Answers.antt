-- `root`: by whether the argument has digits.
use Rattle.std.proofs.Common.{◌≡◌, T, sym, ap, ◌∙◌, subst, arith}
use mathlib.Core.Logic.{inl, inr}
use lib.Ieee.{Float, binary32, fits}
use Rattle.number.specs.declared.by_hand.Argument.{Argument}
use Rattle.number.specs.ByHand.{argument_of}
use Rattle.number.specs.Number.{zero32, root_of}
use Rattle.number.proofs.Patterns.{no_nan_bits}
use Rattle.number.proofs.SquareRoot.Bits.{bits_lt, root_is}
use Rattle.number.proofs.SquareRoot.Taken.{Taken, taken}
use Rattle.number.proofs.root.root.Goals as goal

-- the argument a of x
module _ (x : Float) (f : T (fits binary32 x)) (a : Argument) (e : a ≡ argument_of x) where
  -- there are digits
  digits : (a.digits ≡ 0 → ⊥) → Taken x a
  digits n = elim (taken x f) [
    | inl t ↦ subst (Taken x) (sym e) t
    | inr z ↦ absurd (n (ap (λ (b : Argument). b.digits) e ∙ z.0))
  ]

  -- there are none
  no_digits : a.digits ≡ 0 → zero32 ≡ root_of x
  no_digits n = elim (taken x f) [
    | inl t ↦ let d = ap (λ (b : Argument). b.digits) e in let l = t.low in absurd (omega arith)
    | inr z ↦ z.1
  ]

pub root_bits-requires : goal.root_bits-requires
root_bits-requires c =
    let t = digits c.args.x (subst T (sym c.well_formed.0.1) tt) _ c.argument_of-a.ensures (λ n. omega arith) in
    (t.low, t.high, t.short)

pub float_from_bits-result : goal.float_from_bits-result
float_from_bits-result c =
    let t = digits c.args.x (subst T (sym c.well_formed.0.1) tt) _ c.argument_of-a.ensures (λ n. omega arith) in
    let a = c.argument_of-a.result in
    let b = c.root_bits.result in
    no_nan_bits b (omega (arith, bits_lt a.digits a.exponent b t.low t.high t.short c.root_bits.ensures))

pub returns-then-a-eq0 : goal.returns-then-a-eq0
returns-then-a-eq0 c =
    no_digits c.args.x (subst T (sym c.well_formed.0.1) tt) _ c.argument_of-a.ensures (omega arith)

pub returns-else-a-eq0 : goal.returns-else-a-eq0
returns-else-a-eq0 c =
    let t = digits c.args.x (subst T (sym c.well_formed.0.1) tt) _ c.argument_of-a.ensures (λ n. omega arith) in
    let a = c.argument_of-a.result in
    sym (root_is a.digits a.exponent c.root_bits.result t.low t.high t.short c.root_bits.ensures c.args.x t.scale
    t.above t.finite)
