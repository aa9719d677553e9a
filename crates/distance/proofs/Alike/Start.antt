-- The squared distance at the start: points moved by zero times finite displacements have the one of the points as
-- handed over. Assumes nothing.
use mathlib.Core.Path.{◌≡◌}
use Prim.Native.Nat.{ℕ, ◌<◌}
use mathlib.Core.List.{List}
use lib.Dec.{T, lit<}
use lib.Ieee.{Float, binary32, fits}
use lib.Ieee.Scale.{finite}
use Rattle.number.specs.Number.{◌⊕◌, ◌⊗◌, zero32}
use Rattle.number.proofs.Units.{plus}
use Rattle.number.proofs.Alike.{Alike, plus_same}
use Rattle.number.proofs.Unmoved.{unmoved_alike}
use Rattle.geometry.proofs.Bounds.{Each}
use Rattle.geometry.specs.Geometry.{at, col, along, moved}
use Rattle.distance.specs.Distance.{nearest_of}
use Rattle.distance.proofs.Alike.Vectors.{AlikeVec, AlikePoints}
use Rattle.distance.proofs.Alike.Distance.{nearest_alike}

module _ (x dx : List (List Float)) (f : Each (fits binary32) x) (g : Each finite x) (h : Each finite dx) where
  unmoved_column : (i : ℕ) → i < 4 → AlikeVec (along (col x i) zero32 (col dx i)) (col x i)
  unmoved_column i l = record { n0 = number 0 (lit< tt); n1 = number 1 (lit< tt); n2 = number 2 (lit< tt) }
    where
      number : (j : ℕ) → j < 3 → Alike (at (col x i) j ⊕ zero32 ⊗ at (col dx i) j) (at (col x i) j)
      number j k = unmoved_alike (at (col x i) j) (at (col dx i) j) (f i j l k) (g i j l k) (h i j l k)

  unmoved_points : AlikePoints (moved x dx zero32) x
  unmoved_points = record {
    c0 = unmoved_column 0 (lit< tt);
    c1 = unmoved_column 1 (lit< tt);
    c2 = unmoved_column 2 (lit< tt);
    c3 = unmoved_column 3 (lit< tt);
  }

-- two of sign plus, as squared distances of numbers within the limits are, are then one and the same
pub start_same : (split : ℕ) (x dx : List (List Float)) → Each (fits binary32) x → Each finite x → Each finite dx
    → T (plus (nearest_of split x).squared) → T (plus (nearest_of split (moved x dx zero32)).squared)
    → (nearest_of split (moved x dx zero32)).squared ≡ (nearest_of split x).squared
start_same split x dx f g h p q = plus_same (nearest_alike split (unmoved_points x dx f g h)) q p
