-- Every number of a pair times 2 ^ t, exactly, and what the norm computes of both exact: the norm is multiplied by
-- 2 ^ t. Assumes nothing.
use Prim.Native.Nat.{ℕ, zero, suc, ◌+◌, ◌<◌}
use native.Mathlib.Omega.{arith}
use mathlib.Core.Bool.{Bool, true, ◌&&◌}
use mathlib.Core.List.{List}
use lib.Dec.{T, lit<}
use lib.Ieee.{Float, binary32, of_bits}
use lib.Ieee.Fits.{and_l, and_r, sub-fits}
use lib.Ieee.Scale.{finite}
use Rattle.number.specs.Number.{◌⊕◌, ◌⊖◌, ◌⊗◌, zero32, larger}
use Rattle.number.proofs.Units.{plus}
use Rattle.number.proofs.Signs.{square_plus, sum_plus}
use Rattle.number.proofs.Largest.{larger_plus}
use Rattle.number.proofs.PowersOfTwo.Times.{Times, zero_times, add_times, sub_times, larger_times}
use Rattle.number.proofs.PowersOfTwo.Squares.{square_times}
use Rattle.number.proofs.SquareRoot.Multiplied.{root_times}
use Rattle.geometry.specs.Geometry.{at, col, minus, Cross}
use Rattle.geometry.proofs.CrossPairs.{Crosses, pairs_match, pairs_reach}
use Rattle.admission.specs.Admission.{of_three}
use Rattle.admission.proofs.Admitted.{three_each}
use Rattle.pair.specs.Points.{gap_square, largest_square, source_norm}
use Rattle.pair.specs.SamePair.{normal_or_zero, exact_square, exact_gap, exact_gaps}
use Rattle.pair.proofs.Norms.{square_fits}
use Rattle.pair.proofs.SamePair.Tested.{settled_finite, square_finite, square_squared}

-- ---- the tests of a cross pair
each_gap : (x : List (List Float)) (split : ℕ) → T (exact_gaps x split) → (p : Cross) → Crosses split p
    → T (exact_gap x p)
unfolding exact_gaps
each_gap x split h p c =
    pairs_reach (λ (so : Bool). T so → T (exact_gap x p)) (λ (so : Bool) (q : Cross). so && exact_gap x q)
    (λ so q k t. k (and_l so (exact_gap x q) t)) split p c (λ so t. and_r so (exact_gap x p) t) true h

module _ (x : List (List Float)) (p : Cross) (h : T (exact_gap x p)) where
  abbrev gaps : List Float
  gaps = minus (col x p.first) (col x p.second)

  abbrev gap : ℕ → Float
  gap i = at gaps i

  abbrev square : ℕ → Float
  square i = gap i ⊗ gap i

  abbrev two : Float
  two = square 0 ⊕ square 1

  parts : T (of_three normal_or_zero gaps) × T (of_three exact_square gaps) × T (normal_or_zero two)
      × T (normal_or_zero (two ⊕ square 2))
  unfolding exact_gap
  parts =
      let a = of_three normal_or_zero gaps in
      let b = of_three exact_square gaps in
      let c = normal_or_zero two in
      let d = normal_or_zero (two ⊕ square 2) in
      let sums = and_r (a && b) (c && d) h in
      (and_l a b (and_l (a && b) (c && d) h), and_r a b (and_l (a && b) (c && d) h), and_l c d sums, and_r c d sums)

  gap_finite : (i : ℕ) → i < 3 → T (finite (gap i))
  gap_finite i l = settled_finite (gap i) (three_each normal_or_zero gaps parts.0 i l)

  gap_square_lem : (i : ℕ) → i < 3 → T (exact_square (gap i))
  gap_square_lem i l = three_each exact_square gaps parts.1 i l

  gap_plus : T (plus (gap_square x p))
  unfolding gap_square
  gap_plus =
      let each : (i : ℕ) → i < 3 → T (plus (square i)) = λ i l. square_plus (gap i) (gap_finite i l) in
      sum_plus two (square 2) (sum_plus (square 0) (square 1) (each 0 (lit< tt)) (each 1 (lit< tt))) (each 2 (lit< tt))

-- ---- y is 2 ^ t times x
module _ (t : ℕ) (x y : List (List Float)) (split : ℕ)
    (times : (i j : ℕ) → i < 4 → j < 3 → Times t (at (col x i) j) (at (col y i) j))
    (a : T (exact_gaps x split)) (b : T (exact_gaps y split)) where
  module _ (p : Cross) (c : Crosses split p) where
    abbrev k : T (exact_gap x p)
    k = each_gap x split a p c

    abbrev l : T (exact_gap y p)
    l = each_gap y split b p c

    -- a coordinate's difference and its square
    at_place : (i : ℕ) → i < 3
        → let d = at (col x p.first) i ⊖ at (col x p.second) i in
        let e = at (col y p.first) i ⊖ at (col y p.second) i in
        T (finite d) → T (finite e) → T (exact_square d) → T (exact_square e) → Times (t + t) (d ⊗ d) (e ⊗ e)
    at_place i m f g u v =
        let d = at (col x p.first) i ⊖ at (col x p.second) i in
        let e = at (col y p.first) i ⊖ at (col y p.second) i in
        let q = sub_times t _ _ _ _ (times p.first i (omega arith) m) (times p.second i c.2 m) f g in
        square_times t d e q (square_squared d u (sub-fits binary32 _ _) q.sign q.units q.small)
        (square_finite d u) (square_finite e v)

    one : (i : ℕ) → i < 3 → Times (t + t) (square x p k i) (square y p l i)
    one zero m =
        at_place 0 m (gap_finite x p k 0 m) (gap_finite y p l 0 m) (gap_square_lem x p k 0 m) (gap_square_lem y p l 0 m)
    one (suc zero) m =
        at_place 1 m (gap_finite x p k 1 m) (gap_finite y p l 1 m) (gap_square_lem x p k 1 m) (gap_square_lem y p l 1 m)
    one (suc (suc zero)) m =
        at_place 2 m (gap_finite x p k 2 m) (gap_finite y p l 2 m) (gap_square_lem x p k 2 m) (gap_square_lem y p l 2 m)
    one (suc (suc (suc i))) m = absurd (omega arith)

    gap_times : Times (t + t) (gap_square x p) (gap_square y p)
    unfolding gap_square
    gap_times =
        add_times (t + t) (two x p k) (two y p l) (square x p k 2) (square y p l 2)
        (add_times (t + t) (square x p k 0) (square y p l 0) (square x p k 1) (square y p l 1) (one 0 (lit< tt))
        (one 1 (lit< tt)) (settled_finite (two x p k) (parts x p k).2) (settled_finite (two y p l) (parts y p l).2))
        (one 2 (lit< tt)) (settled_finite (two x p k ⊕ square x p k 2) (parts x p k).3)
        (settled_finite (two y p l ⊕ square y p l 2) (parts y p l).3)

  abbrev Both : Float → Float → Type 0
  Both m n = Times (t + t) m n × T (plus m) × T (plus n)

  largest_times : Both (largest_square x split) (largest_square y split)
  unfolding largest_square of_bits
  largest_times =
      pairs_match Both (λ (m : Float) (p : Cross). larger m (gap_square x p))
      (λ (n : Float) (p : Cross). larger n (gap_square y p)) split (λ m n p c (q, h, k).
      let f = gap_plus x p (each_gap x split a p c) in
      let g = gap_plus y p (each_gap y split b p c) in (
        larger_times (t + t) m n (gap_square x p) (gap_square y p) q (gap_times p c) h f k g,
        larger_plus m (gap_square x p) h,
        larger_plus n (gap_square y p) k,
      )) zero32 zero32 (zero_times (t + t), tt, tt)

  pub norm_times : Times t (source_norm x split) (source_norm y split)
  unfolding source_norm
  norm_times =
      root_times t (largest_square x split) (largest_square y split) (square_fits x split) (square_fits y split)
      largest_times.1 largest_times.2 largest_times.0
