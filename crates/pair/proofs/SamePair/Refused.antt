-- A pair written otherwise is refused as the pair itself: the same tests of the same numbers. Assumes nothing.
use Prim.Native.Nat.{ℕ, zero, suc, ◌<◌}
use native.Mathlib.Omega.{arith}
use mathlib.Core.Path.{◌≡◌, refl, sym, ap, ◌∙◌, subst}
use mathlib.Core.Bool.{Bool, ◌&&◌}
use mathlib.Core.List.{List}
use lib.Dec.{T}
use lib.Ieee.{Float, fin, neg, inf, nan}
use Rattle.number.specs.Number.{is_finite, in_bound, refusal}
use Rattle.number.proofs.Units.Compared.{same_test}
use Rattle.number.proofs.Within.{neg_within}
use Rattle.number.proofs.Ranges.{in_bound_lem, within_bound}
use Rattle.number.proofs.Turned.{neg_neg}
use Rattle.geometry.specs.Geometry.{at, col}
use Rattle.admission.specs.Admission.{of_twelve, finite_points, bounded_points, is_split, split_refusal}
use Rattle.admission.proofs.Admitted.{twelve_each, twelve_all}
use Rattle.pair.specs.SamePair.{reordered, opposite}
use Rattle.pair.proofs.SamePair.Columns.{column, minus_of}
use Rattle.pair.proofs.SamePair.Reordered.{Onto}

-- points of which both tests answer the same are refused alike
alike : (x y : List (List Float)) (split : ℕ) → of_twelve is_finite x ≡ of_twelve is_finite y
    → of_twelve in_bound x ≡ of_twelve in_bound y → split_refusal x split ≡ split_refusal y split
unfolding split_refusal finite_points bounded_points
alike x y split e f =
    ap (λ (b : Bool). refusal b (of_twelve in_bound x && is_split split)) e
    ∙ ap (λ (b : Bool). refusal (of_twelve is_finite y) (b && is_split split)) f

-- ---- the columns in another order
module _ (order : ℕ → ℕ) (o : Onto order) (x : List (List Float)) where
  abbrev f : ℕ → List Float
  f i = col x (order i)

  numbers_same : (test : Float → Bool) → of_twelve test (reordered order x) ≡ of_twelve test x
  numbers_same test =
      same_test (of_twelve test (reordered order x)) (of_twelve test x)
      (λ t. twelve_all test x (λ i j k l.
      let (n, m, e) = o.place i k in
      subst (λ (v : List Float). T (test (at v j))) (column f n m ∙ ap (col x) e)
      (twelve_each test (reordered order x) t n j m l)))
      (λ t. twelve_all test (reordered order x) (λ i j k l.
      subst (λ (v : List Float). T (test (at v j))) (sym (column f i k))
      (twelve_each test x t (order i) j (o.there i k) l)))

  pub reordered_refusal : (split : ℕ) → split_refusal (reordered order x) split ≡ split_refusal x split
  reordered_refusal split = alike (reordered order x) x split (numbers_same is_finite) (numbers_same in_bound)

-- ---- all signs changed
finite_neg : (c : Float) → T (is_finite c) → T (is_finite (neg c))
unfolding is_finite neg
finite_neg nan t = elim t [ ]
finite_neg (inf _) t = elim t [ ]
finite_neg (fin s m e) t = tt

bound_neg : (c : Float) → T (in_bound c) → T (in_bound (neg c))
bound_neg c t = within_bound (neg c) (neg_within 20 c (in_bound_lem c t))

number : (v : List Float) (j : ℕ) → j < 3 → at (minus_of v) j ≡ neg (at v j)
number v zero l = refl
number v (suc zero) l = refl
number v (suc (suc zero)) l = refl
number v (suc (suc (suc j))) l = absurd (omega arith)

module _ (test : Float → Bool) (keeps : (c : Float) → T (test c) → T (test (neg c))) (x : List (List Float)) where
  signs_same : of_twelve test (opposite x) ≡ of_twelve test x
  signs_same =
      same_test (of_twelve test (opposite x)) (of_twelve test x)
      (λ t. twelve_all test x (λ i j k l.
      subst (λ (c : Float). T (test c)) (ap neg (is i j k l) ∙ neg_neg (at (col x i) j))
      (keeps (at (col (opposite x) i) j) (twelve_each test (opposite x) t i j k l))))
      (λ t. twelve_all test (opposite x) (λ i j k l.
      subst (λ (c : Float). T (test c)) (sym (is i j k l)) (keeps (at (col x i) j) (twelve_each test x t i j k l))))
    where
      is : (i j : ℕ) → i < 4 → j < 3 → at (col (opposite x) i) j ≡ neg (at (col x i) j)
      is i j k l =
          ap (λ (v : List Float). at v j) (column (λ (i : ℕ). minus_of (col x i)) i k) ∙ number (col x i) j l

pub opposite_refusal : (x : List (List Float)) (split : ℕ) → split_refusal (opposite x) split ≡ split_refusal x split
opposite_refusal x split =
    alike (opposite x) x split (signs_same is_finite finite_neg x) (signs_same in_bound bound_neg x)
