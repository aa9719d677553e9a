-- The root of a refused argument is plus zero, so the value answered is the root of every argument; and the number that
-- refuses one names a refusal. Assumes nothing.
use mathlib.Core.Path.{◌≡◌, refl}
use mathlib.Core.Bool.{Bool, true, false, cond}
use lib.Ieee.{Float, lt}
use Rattle.number.specs.Number.{zero32, is_finite, numbered, refusal_number, admitted, root_of, root_refusal}
use Rattle.number.proofs.Answers.{Told}
use Rattle.number.proofs.SquareRoot.Argument.{not_finite, below}

pub root_value : (x : Float) → admitted (root_refusal x) (root_of x) zero32 ≡ root_of x
unfolding root_refusal
root_value x = go (is_finite x) (lt x zero32) (not_finite x) (below x)
  where
    go : (a b : Bool) → (a ≡ false → zero32 ≡ root_of x) → (b ≡ true → zero32 ≡ root_of x)
        → admitted (cond a (cond b 2 0) 1) (root_of x) zero32 ≡ root_of x
    go true true f g = g refl
    go true false f g = refl
    go false b f g = f refl

pub root_told : (x : Float) → Told (root_refusal x)
unfolding root_refusal numbered refusal_number
root_told x = go (is_finite x) (lt x zero32)
  where
    go : (a b : Bool) → Told (cond a (cond b 2 0) 1)
    go true true n = refl
    go true false n = absurd (n refl)
    go false b n = refl
