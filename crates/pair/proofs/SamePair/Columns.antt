-- The columns of points that are written otherwise, and the square of two columns: the same turned round, and the same
-- with all signs changed. Assumes nothing.
use Prim.Native.Nat.{ℕ, zero, suc, ◌<◌}
use native.Mathlib.Omega.{arith}
use mathlib.Core.Path.{◌≡◌, refl, ap, ◌∙◌}
use mathlib.Core.List.{List}
use lib.Ieee.{Float, neg}
use Rattle.number.specs.Number.{◌⊕◌, ◌⊖◌, ◌⊗◌}
use Rattle.number.proofs.Turned.{sub_opposite, square_turned}
use Rattle.geometry.specs.Geometry.{at, col, vec, minus, dot, columns, times, scaled, Cross}
use Rattle.pair.specs.Points.{gap_square}

pub column : (f : ℕ → List Float) (i : ℕ) → i < 4 → col (columns f) i ≡ f i
column f zero l = refl
column f (suc zero) l = refl
column f (suc (suc zero)) l = refl
column f (suc (suc (suc zero))) l = refl
column f (suc (suc (suc (suc i)))) l = absurd (omega arith)

-- the square of two columns
abbrev pub gap_of : List Float → List Float → Float
gap_of a b = dot (minus a b) (minus a b)

pub gap_columns : (f : ℕ → List Float) (p : Cross) → p.first < 4 → p.second < 4
    → gap_square (columns f) p ≡ gap_of (f p.first) (f p.second)
unfolding gap_square
gap_columns f p i j =
    ap (λ (a : List Float). gap_of a (col (columns f) p.second)) (column f p.first i)
    ∙ ap (gap_of (f p.first)) (column f p.second j)

pub gap_of_lem : (x : List (List Float)) (p : Cross) → gap_square x p ≡ gap_of (col x p.first) (col x p.second)
unfolding gap_square
gap_of_lem x p = refl

-- three squares added
dot_same : (a b c d e f : Float) → a ⊗ a ≡ d ⊗ d → b ⊗ b ≡ e ⊗ e → c ⊗ c ≡ f ⊗ f
    → dot (vec a b c) (vec a b c) ≡ dot (vec d e f) (vec d e f)
dot_same a b c d e f p q r =
    ap (λ (z : Float). z ⊕ b ⊗ b ⊕ c ⊗ c) p ∙ ap (λ (z : Float). d ⊗ d ⊕ z ⊕ c ⊗ c) q
    ∙ ap (λ (z : Float). d ⊗ d ⊕ e ⊗ e ⊕ z) r

pub gap_turned : (a b : List Float) → gap_of a b ≡ gap_of b a
gap_turned a b =
    let turned : (i : ℕ) → (at a i ⊖ at b i) ⊗ (at a i ⊖ at b i) ≡ (at b i ⊖ at a i) ⊗ (at b i ⊖ at a i) =
    λ i. square_turned (at b i) (at a i) in
    dot_same _ _ _ _ _ _ (turned 0) (turned 1) (turned 2)

abbrev pub minus_of : List Float → List Float
minus_of v = vec (neg (at v 0)) (neg (at v 1)) (neg (at v 2))

pub gap_opposite : (a b : List Float) → gap_of (minus_of a) (minus_of b) ≡ gap_of a b
gap_opposite a b =
    let same : (i : ℕ) → (neg (at a i) ⊖ neg (at b i)) ⊗ (neg (at a i) ⊖ neg (at b i))
    ≡ (at a i ⊖ at b i) ⊗ (at a i ⊖ at b i) =
    λ i. ap (λ (z : Float). z ⊗ z) (sub_opposite (at a i) (at b i)) ∙ square_turned (at a i) (at b i) in
    dot_same _ _ _ _ _ _ (same 0) (same 1) (same 2)

-- a number of scaled points
pub scaled_number : (x : List (List Float)) (f : Float) (i j : ℕ) → i < 4 → j < 3
    → at (col (scaled x f) i) j ≡ at (col x i) j ⊗ f
scaled_number x f i j k l = ap (λ (v : List Float). at v j) (column (λ (i : ℕ). times (col x i) f) i k) ∙ number j l
  where
    number : (j : ℕ) → j < 3 → at (times (col x i) f) j ≡ at (col x i) j ⊗ f
    number zero l = refl
    number (suc zero) l = refl
    number (suc (suc zero)) l = refl
    number (suc (suc (suc j))) l = absurd (omega arith)
