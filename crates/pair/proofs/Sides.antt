-- The loops over the columns of either side, of any split: what the cross pairs still to come make of the largest
-- squared difference so far is what all of them make of zero. Assumes nothing.
use Prim.Native.Nat.{ℕ, zero, suc, ◌+◌, ◌-◌, ◌≤◌, ◌<◌, min}
use native.Mathlib.Nat.{sub-zero}
use native.Mathlib.Omega.{arith}
use mathlib.Core.Path.{◌≡◌, refl, sym, ap, ◌∙◌}
use mathlib.Core.Logic.{inl, inr}
use mathlib.Core.List.{List, [], ◌++◌, map, flat_map, foldl}
use lib.Ieee.{Float}
use Rattle.std.proofs.lemmas.Bool.{cases_lt}
use Rattle.number.specs.Number.{zero32, larger}
use Rattle.geometry.specs.Geometry.{col, minus, dot, Cross, cross, cross_pairs, count}
use Rattle.geometry.proofs.CrossPairs.{rows, rest, row_next, row_done, rows_next, rows_done, count_done}
use Rattle.pair.specs.Points.{gap_square, largest_square}

module _ (x : List (List Float)) (split : ℕ) where
  -- one cross pair more
  abbrev pub turn : Float → Cross → Float
  turn most p = larger most (gap_square x p)

  -- the pairs ps make of the largest so far what all the pairs make of zero
  abbrev pub Left : List Cross → Float → Type 0
  Left ps most = foldl turn most ps ≡ largest_square x split

  -- the same of other pairs that are equal
  turned : (ps qs : List Cross) (most : Float) → ps ≡ qs → Left ps most → Left qs most
  turned ps qs most e h = ap (foldl turn most) (sym e) ∙ h

  pub all_left : Left (rows split 0) zero32
  unfolding largest_square cross_pairs
  all_left = rw sub-zero

  -- a split from 4 on has no row with a pair
  abbrev row : ℕ → List Cross
  row k = map (cross k) (count split (4 - split))

  none_left : (i n : ℕ) → 4 ≤ split → flat_map row (count i n) ≡ []
  unfolding count flat_map
  none_left i zero h = refl
  none_left i (suc n) h =
      ap (λ (js : List ℕ). map (cross i) js ++ flat_map row (count (suc i) n)) (count_done split 4 h)
      ∙ none_left (suc i) n h

  -- where m columns are on the first side, a row begins with the first column of the second
  module _ (m : ℕ) (e : m ≡ min split 4) where
    pub row_left : (i j : ℕ) (most : Float) → i < m → j ≡ m → Left (rows split i) most → Left (rest split i j) most
    row_left i j most h k l = elim (cases_lt split 4) [
      | inl s ↦
          let q : split ≡ j = omega arith in
          turned _ _ most (rows_next split i (omega arith) ∙ ap (rest split i) q) l
      | inr s ↦
          turned _ _ most
          (rows_next split i (omega arith) ∙ row_done split i split s ∙ sym (row_done split i j (omega arith))) l
    ]

    -- and no row follows the last
    pub none_more : (i : ℕ) (most : Float) → m ≤ i → Left (rows split i) most → most ≡ largest_square x split
    none_more i most h l = elim (cases_lt split 4) [
      | inl s ↦ turned _ _ most (rows_done split i (omega arith)) l
      | inr s ↦ turned _ _ most (none_left i (split - i) s) l
    ]

  -- the turn of columns i and j, by what its calls answer
  pub turn_left : (i j k : ℕ) (p q gap : List Float) (square most next : Float) → j < 4 → k ≡ j + 1
      → p ≡ col x i → q ≡ col x j → gap ≡ minus p q → square ≡ dot gap gap → next ≡ larger most square
      → Left (rest split i j) most → Left (rest split i k) next
  unfolding gap_square
  turn_left i j k p q gap square most next h e ep eq eg es en l =
      let is : next ≡ turn most (cross i j) = rw (en, es, eg, ep, eq) in
      rw (e, is) (turned _ _ most (row_next split i j h) l)

  pub row_over : (i j : ℕ) (most : Float) → 4 ≤ j → Left (rest split i j) most → Left (rows split (i + 1)) most
  row_over i j most h l = turned _ _ most (row_done split i j h) l
