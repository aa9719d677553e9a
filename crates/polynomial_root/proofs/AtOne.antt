-- At t = 1 the linear rule (`linear_roots`) is the original's (`fraction_roots`), for all numbers, NaN and infinities
-- included: the fraction lies in 0..1 or is NaN, the clamp leaves its product with 1 as it is, and that is the fraction.
-- Assumes nothing.
use mathlib.Core.Path.{◌≡◌, refl, ap, ◌∙◌}
use mathlib.Core.Bool.{Bool, true, false, cond}
use lib.Dec.{T}
use lib.Ieee.{Float, nan, inf, fin, binary32, add, sub, mul, div, neg, lt, le, fits, of_bits}
use lib.Ieee.Bits.{of_bits-fits}
use lib.Ieee.Fits.{div-fits}
use lib.Ieee.Scale.{finite}
use Rattle.std.specs.Prelude.{Ok}
use Rattle.number.specs.Number.{◌⊗◌, zero32, one32, clamp}
use Rattle.number.proofs.Unmoved.{times_one}
use Rattle.polynomial_root.specs.Roots.{none, refused, push, both_zero, opposite, fraction, linear_roots}
use Rattle.polynomial_root.specs.Roots.{fraction_roots}
use Rattle.polynomial_root.proofs.Linear.{fraction_unheld}

-- the fraction of an infinity is NaN
no_fraction : (s : Bool) (b : Float) → fraction (inf s) b ≡ nan
unfolding div sub add neg
no_fraction s nan = refl
no_fraction true (inf true) = refl
no_fraction true (inf false) = refl
no_fraction false (inf true) = refl
no_fraction false (inf false) = refl
no_fraction s (fin t n d) = refl

-- ---- times 1, held to 0..1
one_finite : T (finite one32)
unfolding of_bits
one_finite = tt

one_up : T (le zero32 one32)
unfolding le of_bits
one_up = tt

abbrev held : Float → Float
held x = clamp (x ⊗ one32) zero32 one32

held_nan : held nan ≡ nan
unfolding clamp mul lt of_bits
held_nan = refl

held_fraction : (a b : Float) → T (fits binary32 a) → T (fits binary32 b) → opposite a b ≡ true → both_zero a b ≡ false
    → held (fraction a b) ≡ fraction a b
held_fraction nan b f g o z = unfold div in held_nan
held_fraction (inf s) b f g o z = rw (no_fraction s b) held_nan
held_fraction (fin s m e) b f g o z =
    fraction_unheld one32 (fin s m e) b (of_bits-fits binary32 0x3f80_0000) one_finite one_up f g tt o z
    ∙ times_one (fraction (fin s m e) b) (div-fits binary32 _ _)

-- ---- the theorem
pub linear_at_one : (a b : Float) → T (fits binary32 a) → T (fits binary32 b) → linear_roots one32 a b ≡ fraction_roots a b
unfolding linear_roots
linear_at_one a b f g = go (opposite a b) (both_zero a b) refl refl
  where
    go : (o z : Bool) → opposite a b ≡ o → both_zero a b ≡ z
        → cond o (cond z (refused 6) (Ok (push none (held (fraction a b))))) (Ok none)
        ≡ cond o (cond z (refused 6) (Ok (push none (fraction a b)))) (Ok none)
    go true true i j = refl
    go true false i j = ap (λ x. Ok (push none x)) (held_fraction a b f g i j)
    go false z i j = refl
