-- `is_finite`: the library's word and ours are one. The proof holds of a body that compares with the largest number,
-- too, so that `finite_without_largest` is refused for its `<` alone.
use Rattle.std.proofs.Common.{◌≡◌, refl, sym, subst, T}
use Rattle.std.specs.Float.{float_is_finite}
use lib.Ieee.{Float, nan, inf, fin}
use native.Mathlib.Omega.{arith}
use Rattle.number.specs.Number.{is_finite}
use Rattle.number.proofs.Finite.{finite_test}
use Rattle.number.proofs.range.is_finite.Goals as goal

one_word : (x : Float) → float_is_finite x ≡ is_finite x
unfolding float_is_finite is_finite
one_word nan = refl
one_word (inf s) = refl
one_word (fin s m e) = refl

pub returns : goal.returns
returns c =
    let fits = subst T (sym c.well_formed.0.1) tt in
    grind (arith, c.is_finite.ensures.value, one_word c.args.x, finite_test c.args.x fits)
