-- Numbers and their bit patterns, in the words of the toolchain's account of IEEE 754. Definitions only.
use Rattle.std.specs.Prelude.{ℕ, Float}
use Rattle.std.specs.Float.{binary32}
use Rattle.std.specs.Float.Ieee.{of_bits, to_bits}

-- the number with a pattern: every NaN's pattern gives the one NaN
abbrev pub float_of : ℕ → Float
float_of bits = of_bits binary32 bits

-- the pattern of a number: 7fc00000 for NaN
abbrev pub bits_of : Float → ℕ
bits_of x = to_bits binary32 x
