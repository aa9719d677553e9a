-- Vectors, a place along a segment, four points as a whole (docs/01-scope.md, "What callers hand over", "A place along
-- a segment", "Four points as a whole"). A vector is the list of its three numbers, the points of a pair the list of
-- their four columns. Sums of three go left to right. Definitions only.
use Rattle.std.specs.Prelude.{ℕ, zero, suc, ◌-◌}
use mathlib.Core.List.{List, [], ◌∷◌, map, flat_map}
use lib.{ListN.get_or, Ieee.Float, Ieee.nan, Ieee.binary32, Ieee.of_bits}
use Rattle.number.specs.Number.{◌⊕◌, ◌⊖◌, ◌⊗◌}

-- number i of a vector, column i of four points
abbrev pub at : List Float → ℕ → Float
at v i = get_or v i nan

abbrev pub col : List (List Float) → ℕ → List Float
col x i = get_or x i []

abbrev pub vec : Float → Float → Float → List Float
vec a b c = a ∷ b ∷ c ∷ []

abbrev pub minus : List Float → List Float → List Float
minus a b = vec (at a 0 ⊖ at b 0) (at a 1 ⊖ at b 1) (at a 2 ⊖ at b 2)

abbrev pub dot : List Float → List Float → Float
dot a b = at a 0 ⊗ at b 0 ⊕ at a 1 ⊗ at b 1 ⊕ at a 2 ⊗ at b 2

-- a + t b
abbrev pub along : List Float → Float → List Float → List Float
along a t b = vec (at a 0 ⊕ t ⊗ at b 0) (at a 1 ⊕ t ⊗ at b 1) (at a 2 ⊕ t ⊗ at b 2)

-- a · (b × c)
abbrev pub triple : List Float → List Float → List Float → Float
triple a b c =
    at a 0 ⊗ (at b 1 ⊗ at c 2 ⊖ at b 2 ⊗ at c 1)
    ⊕ at a 1 ⊗ (at b 2 ⊗ at c 0 ⊖ at b 0 ⊗ at c 2)
    ⊕ at a 2 ⊗ (at b 0 ⊗ at c 1 ⊖ at b 1 ⊗ at c 0)

-- p0 + s (p1 - p0)
abbrev pub lerp_of : List Float → List Float → Float → List Float
lerp_of p0 p1 s = along p0 s (minus p1 p0)

-- ---- four points as a whole: moved, centred, scaled
abbrev pub columns : (ℕ → List Float) → List (List Float)
columns f = f 0 ∷ f 1 ∷ f 2 ∷ f 3 ∷ []

-- the points at time t: each column plus t times its displacement
abbrev pub moved : List (List Float) → List (List Float) → Float → List (List Float)
moved x dx t = columns (λ i. along (col x i) t (col dx i))

-- a quarter of the sum of four vectors
abbrev pub centre_of : List Float → List Float → List Float → List Float → List Float
centre_of a b c d =
    let quarter : ℕ → Float = λ k. (at a k ⊕ at b k ⊕ at c k ⊕ at d k) ⊗ of_bits binary32 0x3e80_0000 in
    vec (quarter 0) (quarter 1) (quarter 2)

-- each column minus the centre
abbrev pub centred : List (List Float) → List (List Float)
centred x =
    let centre = centre_of (col x 0) (col x 1) (col x 2) (col x 3) in columns (λ i. minus (col x i) centre)

-- each of the twelve numbers times s
abbrev pub times : List Float → Float → List Float
times v s = vec (at v 0 ⊗ s) (at v 1 ⊗ s) (at v 2 ⊗ s)

abbrev pub scaled : List (List Float) → Float → List (List Float)
scaled x s = columns (λ i. times (col x i) s)

-- ---- the two sides of a split
-- the n numbers from i on
unfoldable pub count : ℕ → ℕ → List ℕ
count i zero = []
count i (suc n) = i ∷ count (suc i) n

-- a column of the first side and one of the second
pub record Cross : Type 0 where
  pub first : ℕ
  pub second : ℕ

abbrev pub cross : ℕ → ℕ → Cross
cross i j = record { first = i; second = j }

-- each column i before the split with each column j from it, row after row
unfoldable pub cross_pairs : ℕ → List Cross
unfolding count flat_map
cross_pairs split = flat_map (λ (i : ℕ). map (cross i) (count split (4 - split))) (count 0 split)
