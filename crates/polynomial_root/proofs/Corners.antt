-- The corners of docs/01-scope.md, "Corners to check", that are marked P, as one list: square roots, quadratics,
-- cubics. Numbers stand by their bits; the answers are computed from the definitions. Assumes nothing.
use Prim.Native.Nat.{ℕ}
use mathlib.Core.Path.{◌≡◌, refl}
use mathlib.Core.List.{[], ◌∷◌}
use lib.Ieee.{Float, binary32, neg, add, sub, mul, div, lt, le, eq, of_bits}
use Rattle.std.specs.Prelude.{Result, Ok}
use Rattle.number.specs.declared.refusal.Refusal.{Refusal}
use Rattle.number.specs.Number.{zero32, half32, one32, size, smaller, larger, clamp, is_finite, written, units_of}
use Rattle.number.specs.Number.{twice_middle, twice_root_squared, root_at_least, last, root_of}
use Rattle.number.proofs.Corners.{RootCorners, root_corners}
use Rattle.polynomial_root.specs.Roots.{none, refused, push, two32, solved, three32, cubic_of, descend, started}
use Rattle.polynomial_root.specs.Roots.{span_root, linear_roots, keep, kept_roots, lower_roots, joined, after}
use Rattle.polynomial_root.specs.Roots.{span_roots, cubic_roots, solved_roots, quadratic_root, cubic_roots_in_range}
use Rattle.polynomial_root.specs.declared.answer.Roots.{Roots}

abbrev found : ℕ → Float → Float → Float → Result Roots Refusal
found n a b c = Ok (record { count = n; roots = a ∷ b ∷ c ∷ [] })

-- a quarter, and 2 ^ -20
abbrev quarter32 : Float
quarter32 = of_bits binary32 0x3e80_0000

abbrev tiny32 : Float
tiny32 = of_bits binary32 0x3580_0000

-- the cubic call at t = 1
abbrev cubic_at : Float → Float → Float → Float → Float → Result Roots Refusal
cubic_at c0 c1 c2 c3 epsilon = cubic_roots_in_range (cubic_of c0 c1 c2 c3) one32 epsilon

abbrev pub Corners : Type 0
Corners =
    RootCorners
    × (quadratic_root two32 (neg three32) one32 ≡ found 2 one32 two32 zero32)
    × (quadratic_root one32 zero32 one32 ≡ Ok none)
    × (quadratic_root zero32 zero32 one32 ≡ found 2 zero32 zero32 zero32)
    × (quadratic_root one32 one32 zero32 ≡ refused 9)
    × (cubic_at (neg one32) two32 zero32 zero32 zero32 ≡ found 1 half32 zero32 zero32)
    × (cubic_roots_in_range (cubic_of (neg quarter32) one32 zero32 zero32) half32 zero32
    ≡ found 1 quarter32 zero32 zero32)
    × (cubic_at quarter32 (neg one32) one32 zero32 zero32 ≡ found 2 half32 half32 zero32)
    × (cubic_at zero32 zero32 zero32 one32 tiny32 ≡ found 3 zero32 zero32 zero32)
    × (cubic_at zero32 zero32 zero32 one32 zero32 ≡ refused 8)

pub corners : Corners
unfolding
    quadratic_root solved_roots cubic_roots_in_range cubic_roots span_roots after joined
    span_root started descend lower_roots kept_roots keep linear_roots solved push written
    root_of last root_at_least twice_middle twice_root_squared units_of is_finite size smaller larger clamp of_bits neg add sub mul div lt le eq
corners = (root_corners, refl, refl, refl, refl, refl, refl, refl, refl, refl)
