-- The computed largest squared difference is near to the exact largest one (`Held`): differences that round, squares that
-- underflow, and a computed largest of another cross pair than the exact largest are in it. Assumes nothing.
use Prim.Native.Nat.{ℕ, ◌+◌, ◌*◌, ◌≤◌, ◌<◌, zero-le}
use native.Mathlib.Nat.{le_of_lt, mul-le-mul_right}
use native.Mathlib.Omega.{arith}
use mathlib.Core.Path.{◌≡◌, refl, sym}
use mathlib.Core.Bool.{Bool, true, false, cond}
use mathlib.Core.List.{List}
use lib.Dec.{T, ltb, lit<, lit≤}
use lib.Ieee.{Float, lt}
use lib.Ieee.Exact.{HasValue}
use borrow.Author.Tests.{ltb-true, ltb-false}
use Rattle.number.specs.Number.{◌⊕◌, ◌⊖◌, ◌⊗◌, zero32, larger, apart}
use Rattle.number.proofs.Rounding.{rnd}
use Rattle.number.proofs.Units.Compared.{L, Is, lt_is}
use Rattle.number.proofs.Units.{zero_is}
use Rattle.number.proofs.Sums.Rounded.{to_is}
use Rattle.number.proofs.Errors.{squared, OfSum, sum_off}
use Rattle.number.proofs.Within.{Within, within_finite, mul_within, add_within}
use Rattle.number.proofs.Signed.Sums.{plus_value, sub_apart}
use Rattle.number.proofs.PowersOfTwo.Squares.{square_value}
use Rattle.geometry.specs.Geometry.{at, col, Cross}
use Rattle.geometry.proofs.Handed.{PointsFit}
use Rattle.geometry.proofs.CrossPairs.{pairs_match}
use Rattle.admission.specs.Admission.{bounded_points}
use Rattle.admission.proofs.Admitted.{points_within}
use Rattle.pair.specs.Points.{gap_square, gap_exact, largest_square, largest_exact}
use Rattle.pair.proofs.Norms.{difference_within, gap_within}

-- ---- the largest of both: the computed largest is as near to the exact largest as each square is to its own
mixed : (u v m e l : ℕ) → u ≤ v → e ≤ m → OfSum u m l → OfSum v e l → OfSum v m l
mixed u v m e l h k p q = (omega arith, omega arith)

abbrev pub Held : Float → ℕ → Type 0
Held most m = (u : ℕ) × Is most u × OfSum (u * L) m L

held_larger : (a b : Float) (m e : ℕ) → Held a m → Held b e → Held (larger a b) (cond (ltb m e) e m)
unfolding larger
held_larger a b m e (u, i, p) (v, j, q) = go (lt a b) (ltb m e) (sym (lt_is a b u v i j)) refl
  where
    go : (c d : Bool) → ltb u v ≡ c → ltb m e ≡ d → Held (cond c b a) (cond d e m)
    go true true s t = (v, j, q)
    go true false s t =
        (v, j, mixed (u * L) (v * L) m e L (mul-le-mul_right L (le_of_lt (ltb-true u v s))) (ltb-false m e t) p q)
    go false true s t =
        (u, i, mixed (v * L) (u * L) e m L (mul-le-mul_right L (ltb-false u v s)) (le_of_lt (ltb-true m e t)) q p)
    go false false s t = (u, i, p)

-- ---- the points
module _ (x : List (List Float)) (h : T (bounded_points x)) (f : PointsFit x) where
  module _ (p : Cross) (k : p.first < 4) (l : p.second < 4) where
    abbrev near : ℕ → Float
    near j = at (col x p.first) j

    abbrev far : ℕ → Float
    far j = at (col x p.second) j

    abbrev exact : ℕ → ℕ
    exact j = apart (near j) (far j)

    abbrev gap : ℕ → Float
    gap j = near j ⊖ far j

    square_within : (j : ℕ) → j < 3 → Within 42 (gap j ⊗ gap j)
    square_within j m =
        let d = difference_within x h p k l j m in
        mul_within 21 21 (gap j) (gap j) (lit≤ tt) d d

    square_is : (j : ℕ) → j < 3 → HasValue (gap j ⊗ gap j) false (squared (exact j)) L
    square_is j m =
        let (o, is) =
        sub_apart (near j) (far j) (f p.first j k m)
        (within_finite 20 (near j) (points_within x h p.first j k m)) (f p.second j l m)
        (within_finite 20 (far j) (points_within x h p.second j l m))
        (within_finite 21 (gap j) (difference_within x h p k l j m))
        in
        square_value (gap j) o (rnd (exact j) 1) is (within_finite 42 (gap j ⊗ gap j) (square_within j m))

    gap_held : Held (gap_square x p) (gap_exact x p)
    unfolding gap_square gap_exact
    gap_held =
        let q : ℕ → Float = λ j. gap j ⊗ gap j in
        let u : ℕ → ℕ = λ j. squared (exact j) in
        let two = q 0 ⊕ q 1 in
        let two_within : Within 43 two =
        add_within 42 (q 0) (q 1) (lit≤ tt) (square_within 0 (lit< tt)) (square_within 1 (lit< tt)) in
        let two_is =
        plus_value (q 0) (q 1) (u 0) (u 1) (square_is 0 (lit< tt)) (square_is 1 (lit< tt)) (within_finite 43 two two_within)
        in
        let all-is =
        plus_value two (q 2) (rnd (u 0 + u 1) 1) (u 2) two_is (square_is 2 (lit< tt))
        (within_finite 44 (two ⊕ q 2) (gap_within x h p k l))
        in (
          rnd (rnd (u 0 + u 1) 1 + u 2) 1,
          to_is (two ⊕ q 2) (rnd (rnd (u 0 + u 1) 1 + u 2) 1) all-is,
          sum_off (exact 0) (exact 1) (exact 2),
        )

  pub largest_held : (split : ℕ) → Held (largest_square x split) (largest_exact x split)
  unfolding largest_square largest_exact
  largest_held split = pairs_match Held _ _ split (λ most m p c q.
      held_larger most (gap_square x p) m (gap_exact x p) q (gap_held p (omega arith) c.2)) zero32 0
      (0, zero_is, (zero-le, zero-le))
