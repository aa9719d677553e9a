-- The same pair written otherwise, with the same norm, or with one multiplied (docs/01-scope.md, "The same pair,
-- written otherwise"): columns in another order, edges exchanged, signs changed, every number times a power of two.
-- Theorems of the norm cite it, and no contract. Definitions only.
use Rattle.std.specs.Prelude.{ℕ, ◌+◌, ◌*◌, ◌%◌, Bool, true, false, ◌&&◌, ◌||◌, T, eqb, ltb, ℤ, Float}
use Rattle.std.specs.Bool.{beq}
use mathlib.Core.List.{List, foldl}
use Rattle.std.specs.Float.{fin, binary32}
use Rattle.std.specs.Float.Ieee.{up, down, neg, le, eq, fits, of_bits}
use Rattle.number.specs.Number.{◌⊕◌, ◌⊗◌, zero32, size, is_finite, bound, between, units_of}
use Rattle.geometry.specs.Geometry.{at, col, vec, minus, columns, scaled, Cross, cross_pairs}
use Rattle.admission.specs.Admission.{of_three, of_twelve, bounded_points}

-- ---- the columns in another order
-- column (order i) stands at place i
abbrev pub reordered : (ℕ → ℕ) → List (List Float) → List (List Float)
reordered order x = columns (λ i. col x (order i))

-- j is a column, on the side of column i
abbrev pub same_side : ℕ → ℕ → ℕ → Bool
same_side split i j = ltb j 4 && beq (ltb i split) (ltb j split)

-- column i stands somewhere
abbrev pub stands : (ℕ → ℕ) → ℕ → Bool
stands order i = eqb (order 0) i || eqb (order 1) i || eqb (order 2) i || eqb (order 3) i

-- each place has a column of its own side, and each column has a place
unfoldable pub within_sides : ℕ → (ℕ → ℕ) → Bool
within_sides split order =
    let good : ℕ → Bool = λ i. same_side split i (order i) && stands order i in
    good 0 && good 1 && good 2 && good 3

-- both edges of split 2 change places
abbrev pub exchanged : List (List Float) → List (List Float)
exchanged x = reordered (λ i. (i + 2) % 4) x

-- every number changes its sign
abbrev pub opposite : List (List Float) → List (List Float)
opposite x = columns (λ i. vec (neg (at (col x i) 0)) (neg (at (col x i) 1)) (neg (at (col x i) 2)))

-- ---- every number times a power of two, as far as that is exact
-- 2 ^ k
abbrev pub power_of : ℤ → Float
power_of k = fin false 1 k

-- a normal f32: finite, and 2 ^ -126 or more in size
unfoldable pub normal : Float → Bool
normal x = fits binary32 x && is_finite x && le (of_bits binary32 0x0080_0000) (size x)

abbrev pub is_zero : Float → Bool
is_zero x = eq x zero32

-- a difference or a sum: where it is zero, it is so with no rounding
unfoldable pub normal_or_zero : Float → Bool
normal_or_zero x = normal x || is_zero x

-- a square is zero with no rounding where the number is zero
unfoldable pub exact_square : Float → Bool
exact_square d = normal (d ⊗ d) || is_zero d

-- a coordinate, and its product with 2 ^ k, which is not rounded: in units it is 2 ^ k times the coordinate
unfoldable pub exact_coordinate : ℤ → Float → Bool
exact_coordinate k c =
    let product = c ⊗ power_of k in
    normal_or_zero c && normal_or_zero product && eqb (units_of product * down k) (units_of c * up k)

-- all that the norm computes of a cross pair; of every cross pair
unfoldable pub exact_gap : List (List Float) → Cross → Bool
exact_gap x p =
    let gap = minus (col x p.first) (col x p.second) in
    let square : ℕ → Float = λ i. at gap i ⊗ at gap i in
    of_three normal_or_zero gap && of_three exact_square gap
    && (normal_or_zero (square 0 ⊕ square 1) && normal_or_zero (square 0 ⊕ square 1 ⊕ square 2))

unfoldable pub exact_gaps : List (List Float) → ℕ → Bool
exact_gaps x split = foldl (λ (so : Bool) (p : Cross). so && exact_gap x p) true (cross_pairs split)

-- every coordinate, difference, square and sum is a normal f32, or zero with no rounding, before and after the
-- multiplication by 2 ^ k; and the products stay within the limits
pub record ExactTimes (k : ℤ) (x : List (List Float)) (split : ℕ) : Type 0 where
  pub coordinates : T (of_twelve (exact_coordinate k) x)
  pub before : T (exact_gaps x split)
  pub after : T (exact_gaps (scaled x (power_of k)) split)
  pub limits : T (bounded_points (scaled x (power_of k)))

-- an f32 of ordinary size: 2 ^ -40 to 2 ^ 20
unfoldable pub ordinary : Float → Bool
ordinary c = fits binary32 c && between (of_bits binary32 0x2b80_0000) bound (size c)

-- a coordinate that is zero, or of ordinary size before and after: what is computed of such coordinates is exact
unfoldable pub ordinary_times : ℤ → Float → Bool
ordinary_times k c = is_zero c || (ordinary c && ordinary (c ⊗ power_of k))
