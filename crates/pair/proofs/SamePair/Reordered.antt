-- Columns in another order within the sides: each cross pair goes to a cross pair, and each comes from one. Assumes
-- nothing.
use Prim.Native.Nat.{ℕ, zero, suc, ◌≤◌, ◌<◌}
use native.Mathlib.Nat.{not-le_of_lt}
use native.Mathlib.Omega.{arith}
use mathlib.Core.Path.{◌≡◌, refl, sym, ap, ◌∙◌, subst}
use mathlib.Core.Logic.{inl, inr}
use mathlib.Core.Bool.{Bool, true, false, ◌&&◌, ◌||◌, beq}
use mathlib.Core.List.{List}
use lib.Dec.{T, eqb, ltb, eqb→eq, ltb→lt, lt→ltb}
use lib.Ieee.{Float}
use lib.Ieee.Fits.{and_l, and_r}
use Rattle.number.proofs.Numbers.{le_of_not_lt}
use Rattle.number.proofs.Comparing.{or_cases, all_four}
use Rattle.geometry.specs.Geometry.{col, Cross, cross}
use Rattle.geometry.proofs.CrossPairs.{Crosses}
use Rattle.pair.specs.Points.{source_norm}
use Rattle.pair.specs.SamePair.{reordered, same_side, stands, within_sides}
use Rattle.pair.proofs.SamePair.Columns.{gap_of, gap_columns, gap_of_lem}
use Rattle.pair.proofs.SamePair.Covered.{Covered, covered_norm}

-- each place has a column, and each column a place
pub record Onto (order : ℕ → ℕ) : Type 0 where
  pub there : (i : ℕ) → i < 4 → order i < 4
  pub place : (i : ℕ) → i < 4 → (j : ℕ) × (j < 4) × (order j ≡ i)

four_each : (test : ℕ → Bool) → T (test 0 && test 1 && test 2 && test 3) → (i : ℕ) → i < 4 → T (test i)
four_each test h = go
  where
    all : T (test 0) × T (test 1) × T (test 2) × T (test 3)
    all = all_four (test 0) (test 1) (test 2) (test 3) h

    go : (i : ℕ) → i < 4 → T (test i)
    go zero l = all.0
    go (suc zero) l = all.1
    go (suc (suc zero)) l = all.2
    go (suc (suc (suc zero))) l = all.3
    go (suc (suc (suc (suc i)))) l = absurd (omega arith)

stands_at : (order : ℕ → ℕ) (i : ℕ) → T (stands order i) → (j : ℕ) × (j < 4) × (order j ≡ i)
stands_at order i h = elim (or_cases (e 0 || e 1 || e 2) (e 3) h) [
  | inl k ↦ elim (or_cases (e 0 || e 1) (e 2) k) [
    | inl l ↦ elim (or_cases (e 0) (e 1) l) [
      | inl m ↦ (0, omega arith, eqb→eq (order 0) i m)
      | inr m ↦ (1, omega arith, eqb→eq (order 1) i m)
    ]
    | inr l ↦ (2, omega arith, eqb→eq (order 2) i l)
  ]
  | inr k ↦ (3, omega arith, eqb→eq (order 3) i k)
]
  where
    e : ℕ → Bool
    e j = eqb (order j) i

module _ (split : ℕ) (order : ℕ → ℕ) (h : T (within_sides split order)) where
  good : (i : ℕ) → i < 4 → T (same_side split i (order i)) × T (stands order i)
  unfolding within_sides
  good i l =
      let g = four_each (λ (i : ℕ). same_side split i (order i) && stands order i) h i l in
      (and_l (same_side split i (order i)) (stands order i) g, and_r (same_side split i (order i)) (stands order i) g)

  pub within_onto : Onto order
  within_onto = record {
    there = λ i l. ltb→lt (order i) 4 (and_l (ltb (order i) 4) _ (good i l).0);
    place = λ i l. stands_at order i (good i l).1;
  }

  -- a column and the one at its place are on one side
  side : (i : ℕ) → i < 4 → ltb i split ≡ ltb (order i) split
  side i l = same (ltb i split) (ltb (order i) split) (and_r (ltb (order i) 4) _ (good i l).0)
    where
      same : (a b : Bool) → T (beq a b) → a ≡ b
      same true true t = refl
      same true false t = absurd t
      same false true t = absurd t
      same false false t = refl

  first : (i : ℕ) → i < 4 → i < split → order i < split
  first i l k = ltb→lt (order i) split (subst T (side i l) (lt→ltb i split k))

  first_back : (i : ℕ) → i < 4 → order i < split → i < split
  first_back i l k = ltb→lt i split (subst T (sym (side i l)) (lt→ltb (order i) split k))

  order_cross : (p : Cross) → Crosses split p → Crosses split (cross (order p.first) (order p.second))
  order_cross p c =
      let j = p.second in (
        first p.first (omega arith) c.0,
        le_of_not_lt (λ (l : order j < split). not-le_of_lt (first_back j c.2 l) c.1),
        within_onto.there j c.2,
      )

  new_covered : (x : List (List Float)) → Covered split (reordered order x) x
  new_covered x p c = (
    cross (order p.first) (order p.second),
    order_cross p c,
    gap_columns (λ (i : ℕ). col x (order i)) p (omega arith) c.2
        ∙ sym (gap_of_lem x (cross (order p.first) (order p.second))),
  )

  old_covered : (x : List (List Float)) → Covered split x (reordered order x)
  old_covered x p c =
      let (i, k, e) = within_onto.place p.first (omega arith) in
      let (j, l, f) = within_onto.place p.second c.2 in
      let early : i < split = first_back i k (subst (λ (n : ℕ). n < split) (sym e) c.0) in
      let late : split ≤ j =
      le_of_not_lt (λ (m : j < split). not-le_of_lt (subst (λ (n : ℕ). n < split) f (first j l m)) c.1) in (
        cross i j,
        (early, late, l),
        sym (gap_columns (λ (i : ℕ). col x (order i)) (cross i j) k l
            ∙ ap (λ (n : ℕ). gap_of (col x n) (col x (order j))) e ∙ ap (λ (n : ℕ). gap_of (col x p.first) (col x n)) f
            ∙ sym (gap_of_lem x p)),
      )

  pub reordered_norm : (x : List (List Float)) → source_norm (reordered order x) split ≡ source_norm x split
  reordered_norm x = covered_norm split (reordered order x) x (new_covered x) (old_covered x)
