-- The corners of the square root (docs/01-scope.md, "Corners to check"), by bit patterns: 0, 2.25, 2 ^ -148 and 2.
-- Assumes nothing.
use Prim.Native.Nat.{ℕ}
use mathlib.Core.Path.{◌≡◌, refl}
use lib.Ieee.{binary32, lt, of_bits}
use Rattle.std.specs.Prelude.{Result, Ok, Float}
use Rattle.number.specs.declared.refusal.Refusal.{Refusal}
use Rattle.number.specs.Number.{is_finite, answered, units_of, twice_middle, twice_root_squared, root_at_least, last}
use Rattle.number.specs.Number.{root_of, root_refusal}

-- what is answered to the pattern of an argument
abbrev root_at : ℕ → Result Float Refusal
root_at b = answered (root_refusal (of_bits binary32 b)) (root_of (of_bits binary32 b))

abbrev pub RootCorners : Type 0
RootCorners =
    (root_at 0 ≡ Ok (of_bits binary32 0))
    × (root_at 0x4010_0000 ≡ Ok (of_bits binary32 0x3fc0_0000))
    × (root_at 0x0000_0002 ≡ Ok (of_bits binary32 0x1a80_0000))
    × (root_at 0x4000_0000 ≡ Ok (of_bits binary32 0x3fb5_04f3))

pub root_corners : RootCorners
unfolding answered root_refusal root_of last root_at_least twice_middle twice_root_squared units_of is_finite lt of_bits
root_corners = (refl, refl, refl, refl)
