-- The source norm and the norm of any four points have the sign plus, so that neither is below zero; the norm is the source
-- norm, raised or not; of points within the bound it is at most 2 ^ 23. Assumes nothing.
use Prim.Native.Nat.{ℕ, ◌^◌, ◌<◌}
use native.Mathlib.Omega.{arith}
use mathlib.Core.Path.{◌≡◌, refl, ap, subst}
use mathlib.Core.Bool.{Bool, true, false, cond}
use mathlib.Core.List.{List}
use lib.Dec.{T, lit≤, lit<}
use lib.Ieee.{Float, binary32, lt, le, fits, of_bits}
use lib.Ieee.Bits.{of_bits-fits}
use lib.Ieee.Fits.{add-fits, mul-fits}
use Rattle.number.specs.Number.{◌⊖◌, ◌⊗◌, zero32, larger, least_speed, is_finite, units_of, admitted}
use Rattle.number.proofs.Units.Compared.{Is}
use Rattle.number.proofs.Units.{plus}
use Rattle.number.proofs.Within.{Within, within_more, sub_within, mul_within, dot_within}
use Rattle.number.proofs.Signs.{plus_up, product_plus}
use Rattle.number.proofs.Choice.{larger_keeps}
use Rattle.number.proofs.Answers.{admitted_keeps}
use Rattle.number.proofs.SquareRoot.Theorem.{FromZero}
use Rattle.number.proofs.SquareRoot.Bounds.{root_from_zero, root_within, root_any}
use Rattle.geometry.proofs.CrossPairs.{pairs_keep}
use Rattle.geometry.specs.Geometry.{at, col, Cross}
use Rattle.pair.specs.Points.{gap_square, largest_square, source_norm, upward, raised, norm_of}
use Rattle.admission.specs.Admission.{bounded_points, split_refusal}
use Rattle.number.proofs.Finite.{is_finite_lem, within_real}
use Rattle.admission.proofs.Admitted.{points_within, split_admits}

-- what zero has and every cross pair's square, the largest square has
square_keeps : (P : Float → Type 0) (x : List (List Float)) (split : ℕ) → P zero32
    → ((p : Cross) → p.first < 4 → p.second < 4 → P (gap_square x p)) → P (largest_square x split)
unfolding largest_square
square_keeps P x split z h =
    pairs_keep P (λ (most : Float) (p : Cross). larger most (gap_square x p)) split
    (λ most p c q. larger_keeps P most (gap_square x p) q (h p (omega arith) c.2)) zero32 z

pub square_fits : (x : List (List Float)) (split : ℕ) → T (fits binary32 (largest_square x split))
unfolding gap_square
square_fits x split =
    square_keeps (λ (y : Float). T (fits binary32 y)) x split (of_bits-fits binary32 0)
    (λ p i j. add-fits binary32 _ _)

pub source_from : (x : List (List Float)) (split : ℕ) → FromZero (source_norm x split)
unfolding source_norm
source_from x split = root_from_zero (largest_square x split) (square_fits x split)

-- whatever the points are, it is at most 2 ^ 64
pub source_any : (x : List (List Float)) (split : ℕ) → Within 64 (source_norm x split)
unfolding source_norm
source_any x split = root_any (largest_square x split) (square_fits x split)

-- ---- raised
-- 2 ^ -60 and the factor in units
pub least_is : Is least_speed (2 ^ 89)
unfolding of_bits
least_is = refl

abbrev pub factor : ℕ
factor = units_of upward

pub upward_is : Is upward factor
unfolding of_bits units_of
upward_is = refl

pub raised_small : (n : Float) → lt n least_speed ≡ true → raised n ≡ n
unfolding raised
raised_small n e = ap (λ (b : Bool). cond b n (n ⊗ upward)) e

pub raised_large : (n : Float) → lt n least_speed ≡ false → raised n ≡ n ⊗ upward
unfolding raised
raised_large n e = ap (λ (b : Bool). cond b n (n ⊗ upward)) e

-- it has what the number has and the product
raised_keeps : (P : Float → Type 0) (n : Float) → P n → P (n ⊗ upward) → P (raised n)
unfolding raised
raised_keeps P n p q = go (lt n least_speed)
  where
    go : (b : Bool) → P (cond b n (n ⊗ upward))
    go true = p
    go false = q

pub norm_plus : (x : List (List Float)) (split : ℕ) → T (plus (norm_of x split))
unfolding norm_of of_bits
norm_plus x split =
    let n = source_norm x split in
    let s = source_from x split in
    raised_keeps (λ (y : Float). T (plus y)) n s.sign
    (product_plus n upward (subst T (is_finite_lem n) s.real) tt s.sign tt)

pub norm_fits : (x : List (List Float)) (split : ℕ) → T (fits binary32 (norm_of x split))
unfolding norm_of
norm_fits x split =
    raised_keeps (λ (y : Float). T (fits binary32 y)) (source_norm x split) (source_from x split).fit
    (mul-fits binary32 (source_norm x split) upward)

pub norm_up : (x : List (List Float)) (split : ℕ) → T (le zero32 (norm_of x split))
norm_up x split = plus_up (norm_of x split) (norm_plus x split)

pub upward_within : Within 1 upward
unfolding of_bits
upward_within = lit≤ tt

module _ (x : List (List Float)) (h : T (bounded_points x)) where
  -- of the columns of a cross pair, the difference of two coordinates, and the squared difference
  pub difference_within : (p : Cross) → p.first < 4 → p.second < 4 → (n : ℕ) → n < 3
      → Within 21 (at (col x p.first) n ⊖ at (col x p.second) n)
  difference_within p k l n m =
      sub_within 20 (at (col x p.first) n) (at (col x p.second) n) (lit≤ tt) (points_within x h p.first n k m)
      (points_within x h p.second n l m)

  pub gap_within : (p : Cross) → p.first < 4 → p.second < 4 → Within 44 (gap_square x p)
  unfolding gap_square
  gap_within p k l =
      let d = difference_within p k l in
      let d0 = d 0 (lit< tt) in
      let d1 = d 1 (lit< tt) in
      let d2 = d 2 (lit< tt) in
      dot_within 21 _ _ _ _ _ _ (lit≤ tt) d0 d1 d2 d0 d1 d2

  pub square_within : (split : ℕ) → Within 44 (largest_square x split)
  unfolding of_bits
  square_within split = square_keeps (Within 44) x split (lit≤ tt) gap_within

  pub source_within : (split : ℕ) → Within 22 (source_norm x split)
  unfolding source_norm
  source_within split = root_within 22 (largest_square x split) (lit≤ tt) (square_fits x split) (square_within split)

  pub norm_within : (split : ℕ) → Within 23 (norm_of x split)
  unfolding norm_of
  norm_within split =
      let n = source_norm x split in
      let w = source_within split in
      raised_keeps (Within 23) n (within_more 22 23 n (lit≤ tt) w) (mul_within 22 1 n upward (lit≤ tt) w upward_within)

-- ---- the public answer: its norm, zero where refused, is finite and not below zero
abbrev pub Real : Float → Type 0
Real v = T (is_finite v) × T (le zero32 v)

zero_real : Real zero32
unfolding is_finite of_bits
zero_real = (tt, plus_up zero32 tt)

pub answer_real : (x : List (List Float)) (split : ℕ) → Real (admitted (split_refusal x split) (norm_of x split) zero32)
answer_real x split =
    admitted_keeps Real (split_refusal x split) (norm_of x split) zero32
    (λ e. (within_real 23 (norm_of x split) (norm_within x (split_admits x split e).0 split), norm_up x split))
    zero_real
