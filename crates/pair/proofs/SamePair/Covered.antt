-- Points of which every cross pair has its square among the other's have the same norm, whatever the squares are: the
-- largest of several numbers from zero on does not depend on their order, and passes over a NaN. Assumes nothing.
use Prim.Native.Nat.{ℕ}
use mathlib.Core.Path.{◌≡◌, refl, sym, ap, ◌∙◌, subst}
use mathlib.Core.Logic.{◌⊎◌, inl, inr}
use mathlib.Core.Bool.{Bool, true, false, cond}
use mathlib.Core.List.{List}
use lib.Dec.{T, not_T}
use lib.Ieee.{Float, lt, of_bits}
use Rattle.number.specs.Number.{zero32, larger, root_of}
use Rattle.number.proofs.Units.{plus}
use Rattle.number.proofs.Signs.{plus_up}
use Rattle.number.proofs.Transitive.{lt_not_le}
use Rattle.number.proofs.Largest.{NotBelow, larger_reaches, larger_stays, larger_plus, plus_level}
use Rattle.geometry.specs.Geometry.{Cross}
use Rattle.geometry.proofs.CrossPairs.{Crosses, pairs_keep, pairs_reach}
use Rattle.pair.specs.Points.{gap_square, largest_square, source_norm}
use Rattle.pair.proofs.Norms.{square_fits}

module _ (x : List (List Float)) (split : ℕ) where
  abbrev turn : Float → Cross → Float
  turn most p = larger most (gap_square x p)

  -- the largest square is below none
  above : (p : Cross) → Crosses split p → NotBelow (gap_square x p) (largest_square x split)
  unfolding largest_square
  above p c =
      pairs_reach (NotBelow (gap_square x p)) turn (λ most q h. larger_stays most (gap_square x q) (gap_square x p) h)
      split p c (λ most. larger_reaches most (gap_square x p)) zero32

  -- it is zero, or one of them
  abbrev One : Float → Type 0
  One most = (most ≡ zero32) ⊎ ((p : Cross) × Crosses split p × (most ≡ gap_square x p))

  one : One (largest_square x split)
  unfolding largest_square larger
  one = pairs_keep One turn split (λ most p c h. go most p c h (lt most (gap_square x p))) zero32 (inl refl)
    where
      go : (most : Float) (p : Cross) → Crosses split p → One most → (b : Bool) → One (cond b (gap_square x p) most)
      go most p c h true = inr (p, c, refl)
      go most p c h false = h

  square_plus : T (plus (largest_square x split))
  unfolding largest_square of_bits
  square_plus =
      pairs_keep (λ (most : Float). T (plus most)) turn split (λ most p c h. larger_plus most (gap_square x p) h)
      zero32 tt

-- ---- two lists of points
-- every square of x is one of y's
abbrev pub Covered : ℕ → List (List Float) → List (List Float) → Type 0
Covered split x y = (p : Cross) → Crosses split p → (q : Cross) × Crosses split q × (gap_square x p ≡ gap_square y q)

not_below : (split : ℕ) (x y : List (List Float)) → Covered split x y
    → NotBelow (largest_square x split) (largest_square y split)
not_below split x y h = go (one x split)
  where
    go : One x split (largest_square x split) → NotBelow (largest_square x split) (largest_square y split)
    go (inl e) =
        subst (λ (z : Float). NotBelow z (largest_square y split)) (sym e)
        (not_T (lt (largest_square y split) zero32) (λ t.
        lt_not_le (largest_square y split) zero32 t (plus_up (largest_square y split) (square_plus y split))))
    go (inr (p, c, e)) =
        let (q, d, f) = h p c in
        subst (λ (z : Float). NotBelow z (largest_square y split)) (sym (e ∙ f)) (above y split q d)

pub covered_norm : (split : ℕ) (x y : List (List Float)) → Covered split x y → Covered split y x
    → source_norm x split ≡ source_norm y split
unfolding source_norm
covered_norm split x y h k =
    ap root_of (plus_level (largest_square x split) (largest_square y split) (square_fits x split) (square_fits y split)
    (square_plus x split) (square_plus y split) (not_below split x y h) (not_below split y x k))
