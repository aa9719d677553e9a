-- `bits_of`: the one NaN has one pattern.
use Rattle.std.proofs.Common.{◌≡◌, true, refl, sym, ◌∙◌}
use lib.Ieee.{Float, nan, inf, fin, binary32, is_nan, to_bits}
use Rattle.number.proofs.pattern.bits_of.Goals as goal

nan_bits_lem : (x : Float) → is_nan x ≡ true → 2143289344 ≡ to_bits binary32 x
unfolding to_bits is_nan
nan_bits_lem nan e = refl
nan_bits_lem (inf s) e = cc
nan_bits_lem (fin s m k) e = cc

pub returns-then-is_nan : goal.returns-then-is_nan
returns-then-is_nan c = nan_bits_lem c.args.x (sym c.is_nan.ensures.value ∙ c.if-is_nan.true)
