-- Both edges exchanged, and all signs changed: each cross pair has the square of one of the pair's own. Assumes
-- nothing.
use Prim.Native.Nat.{ℕ, ◌+◌, ◌%◌, ◌<◌}
use native.Mathlib.Omega.{arith}
use mathlib.Core.Path.{◌≡◌, sym, ap, ◌∙◌}
use mathlib.Core.List.{List}
use lib.Ieee.{Float}
use Rattle.geometry.specs.Geometry.{col, Cross, cross}
use Rattle.geometry.proofs.CrossPairs.{Crosses}
use Rattle.pair.specs.Points.{gap_square, source_norm}
use Rattle.pair.specs.SamePair.{exchanged, opposite}
use Rattle.pair.proofs.SamePair.Columns.{gap_of, minus_of, gap_columns, gap_of_lem, gap_turned, gap_opposite}
use Rattle.pair.proofs.SamePair.Covered.{Covered, covered_norm}
use Rattle.pair.proofs.SamePair.Reordered.{Onto}

-- ---- edges
-- the column at a place of the exchanged edges
abbrev pub other : ℕ → ℕ
other i = (i + 2) % 4

other_back : (i : ℕ) → i < 4 → other (other i) ≡ i
other_back i l = omega arith

pub other_onto : Onto other
other_onto = record { there = λ i l. omega arith; place = λ i l. (other i, omega arith, other_back i l) }

other_cross : (p : Cross) → Crosses 2 p → Crosses 2 (cross (other p.second) (other p.first))
other_cross p c = (omega arith, omega arith, omega arith)

module _ (x : List (List Float)) where
  new_edges : Covered 2 (exchanged x) x
  new_edges p c = (
    cross (other p.second) (other p.first),
    other_cross p c,
    gap_columns (λ (i : ℕ). col x (other i)) p (omega arith) c.2
        ∙ gap_turned (col x (other p.first)) (col x (other p.second))
        ∙ sym (gap_of_lem x (cross (other p.second) (other p.first))),
  )

  old_edges : Covered 2 x (exchanged x)
  old_edges p c =
      let i = p.first in
      let j = p.second in (
        cross (other j) (other i),
        other_cross p c,
        gap_of_lem x p ∙ gap_turned (col x i) (col x j)
            ∙ ap (λ (n : ℕ). gap_of (col x n) (col x i)) (sym (other_back j c.2))
            ∙ ap (λ (n : ℕ). gap_of (col x (other (other j))) (col x n)) (sym (other_back i (omega arith)))
            ∙ sym (gap_columns (λ (i : ℕ). col x (other i)) (cross (other j) (other i)) (omega arith) (omega arith)),
      )

  pub exchanged_norm : source_norm (exchanged x) 2 ≡ source_norm x 2
  exchanged_norm = covered_norm 2 (exchanged x) x new_edges old_edges

  -- ---- signs
  opposite_gap : (split : ℕ) (p : Cross) → Crosses split p → gap_square (opposite x) p ≡ gap_square x p
  opposite_gap split p c =
      gap_columns (λ (i : ℕ). minus_of (col x i)) p (omega arith) c.2
      ∙ gap_opposite (col x p.first) (col x p.second) ∙ sym (gap_of_lem x p)

  pub opposite_norm : (split : ℕ) → source_norm (opposite x) split ≡ source_norm x split
  opposite_norm split =
      covered_norm split (opposite x) x (λ p c. (p, c, opposite_gap split p c))
      (λ p c. (p, c, sym (opposite_gap split p c)))
