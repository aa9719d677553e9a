-- What a call's refusal number says: 0 puts every number in its range, an allowance too, and the split at 2 or 3; 1 is
-- met exactly where some number is not finite; 2 exactly where all are and something lies beyond its range. Assumes
-- nothing.
use Prim.Native.Nat.{ℕ, zero, suc, ◌≤◌, ◌<◌}
use native.Mathlib.Omega.{arith}
use mathlib.Core.Path.{◌≡◌, refl}
use mathlib.Core.Logic.{◌⊎◌, inl, inr, ◌↔◌}
use mathlib.Core.Bool.{Bool, true, false, not, ◌&&◌, ◌||◌}
use mathlib.Core.List.{List}
use lib.Dec.{T, eqb, leb, eqb→eq, leb→le, le→leb, lit<}
use lib.Ieee.{Float}
use lib.Ieee.Fits.{and_i, and_l, and_r}
use Rattle.number.specs.Number.{is_finite, in_bound, zero_to_bound, zero_to_one, speed_range, refusal}
use Rattle.number.proofs.Answers.{refusal_none, refusal_first, refusal_second, Told, refusal_told}
use Rattle.number.proofs.Comparing.{all_three, all_four}
use Rattle.number.proofs.Within.{Within}
use Rattle.number.proofs.Finite.{within_real, bound_real}
use Rattle.number.proofs.Ranges.{in_bound_lem, zero_to_bound_lem, zero_to_one_lem, speed_range_lem}
use Rattle.geometry.proofs.Bounds.{Each}
use Rattle.geometry.specs.Geometry.{at, col}
use Rattle.admission.specs.declared.Limits.{Limits}
use Rattle.admission.specs.Inner.{Follows}
use Rattle.admission.specs.Admission.{of_three, of_twelve, finite_points, bounded_points, is_split}
use Rattle.admission.specs.Admission.{finite_limits}
use Rattle.admission.specs.Admission.{ranged_limits, full_allowance, is_allowance, walk_refusal, points_refusal}
use Rattle.admission.specs.Admission.{split_refusal, factor_refusal, motion_refusal, time_refusal, ratio_refusal}

-- ---- the numbers of four points, by column and place
module _ (test : Float → Bool) where
  pub three_each : (v : List Float) → T (of_three test v) → (j : ℕ) → j < 3 → T (test (at v j))
  three_each v h zero l = (all_three (test (at v 0)) (test (at v 1)) (test (at v 2)) h).0
  three_each v h (suc zero) l = (all_three (test (at v 0)) (test (at v 1)) (test (at v 2)) h).1
  three_each v h (suc (suc zero)) l = (all_three (test (at v 0)) (test (at v 1)) (test (at v 2)) h).2
  three_each v h (suc (suc (suc j))) l = absurd (omega arith)

  -- what the calls of a test say of a point's three numbers
  pub three_calls : (v : List Float) (r : Bool)
      → ((t : Float → Bool) → Follows (λ x b. b ≡ test x) t → r ≡ of_three t v) → r ≡ of_three test v
  three_calls v r h = h test (λ x b e. e)

  pub twelve_each : (x : List (List Float)) → T (of_twelve test x) → Each test x
  twelve_each x h = go
    where
      row : ℕ → Bool
      row i = of_three test (col x i)

      all : T (row 0) × T (row 1) × T (row 2) × T (row 3)
      all = all_four (row 0) (row 1) (row 2) (row 3) h

      go : Each test x
      go zero j k l = three_each (col x 0) all.0 j l
      go (suc zero) j k l = three_each (col x 1) all.1 j l
      go (suc (suc zero)) j k l = three_each (col x 2) all.2 j l
      go (suc (suc (suc zero))) j k l = three_each (col x 3) all.3 j l
      go (suc (suc (suc (suc i)))) j k l = absurd (omega arith)

  pub three_all : (v : List Float) → ((j : ℕ) → j < 3 → T (test (at v j))) → T (of_three test v)
  three_all v h =
      and_i (test (at v 0) && test (at v 1)) (test (at v 2))
      (and_i (test (at v 0)) (test (at v 1)) (h 0 (lit< tt)) (h 1 (lit< tt))) (h 2 (lit< tt))

  pub twelve_all : (x : List (List Float)) → Each test x → T (of_twelve test x)
  twelve_all x h =
      and_i (row 0 && row 1 && row 2) (row 3)
      (and_i (row 0 && row 1) (row 2) (and_i (row 0) (row 1) (each 0 (lit< tt)) (each 1 (lit< tt))) (each 2 (lit< tt)))
      (each 3 (lit< tt))
    where
      row : ℕ → Bool
      row i = of_three test (col x i)

      each : (i : ℕ) → i < 4 → T (row i)
      each i k = three_all (col x i) (λ j l. h i j k l)

-- each number of points within the bound is at most 2 ^ 20 in size
pub points_within : (x : List (List Float)) → T (bounded_points x)
    → (i j : ℕ) → i < 4 → j < 3 → Within 20 (at (col x i) j)
unfolding bounded_points
points_within x h i j k l = in_bound_lem (at (col x i) j) (twelve_each in_bound x h i j k l)

-- ---- what lies in its range is finite
pub points_real : (x : List (List Float)) → T (bounded_points x) → T (finite_points x)
unfolding bounded_points finite_points
points_real x h =
    twelve_all is_finite x (λ i j k l. bound_real (at (col x i) j) (twelve_each in_bound x h i j k l))

pub three_real : (v : List Float) → T (of_three in_bound v) → T (of_three is_finite v)
three_real v h = three_all is_finite v (λ j l. bound_real (at v j) (three_each in_bound v h j l))

-- where a says b and c says d, both say both
both : (a b c d : Bool) → (T a → T b) → (T c → T d) → T (a && c) → T (b && d)
both a b c d f g h = and_i b d (f (and_l a c h)) (g (and_r a c h))

pub pair_real : (x dx : List (List Float)) → T (bounded_points x && bounded_points dx)
    → T (finite_points x && finite_points dx)
pair_real x dx =
    both (bounded_points x) (finite_points x) (bounded_points dx) (finite_points dx) (points_real x) (points_real dx)

pub one_real : (t : Float) → T (zero_to_one t) → T (is_finite t)
one_real t h = within_real 0 t (zero_to_one_lem t h).2

pub bounded_real : (s : Float) → T (zero_to_bound s) → T (is_finite s)
bounded_real s h = within_real 20 s (zero_to_bound_lem s h).1

pub limits_real : (l : Limits) → T (ranged_limits l) → T (finite_limits l)
unfolding ranged_limits finite_limits
limits_real l =
    let o = l.offset in
    let c = l.clearance in
    let t = l.max_t in
    let u = l.u_max in
    both (zero_to_bound o && zero_to_bound c && zero_to_one t) (is_finite o && is_finite c && is_finite t)
    (speed_range u) (is_finite u)
    (both (zero_to_bound o && zero_to_bound c) (is_finite o && is_finite c) (zero_to_one t) (is_finite t)
    (both (zero_to_bound o) (is_finite o) (zero_to_bound c) (is_finite c) (bounded_real o) (bounded_real c))
    (one_real t))
    (λ h. within_real 60 u (speed_range_lem u h).2)

-- of each call's tests
module _ (x : List (List Float)) where
  pub split_real : (split : ℕ) → T (bounded_points x && is_split split) → T (finite_points x)
  split_real split h = points_real x (and_l (bounded_points x) (is_split split) h)

  pub factor_real : (s : Float) → T (bounded_points x && zero_to_bound s) → T (finite_points x && is_finite s)
  factor_real s =
      both (bounded_points x) (finite_points x) (zero_to_bound s) (is_finite s) (points_real x) (bounded_real s)

  pub time_real : (dx : List (List Float)) (t : Float) → T (bounded_points x && bounded_points dx && zero_to_one t)
      → T (finite_points x && finite_points dx && is_finite t)
  time_real dx t =
      both (bounded_points x && bounded_points dx) (finite_points x && finite_points dx) (zero_to_one t) (is_finite t)
      (pair_real x dx) (one_real t)

pub ratio_real : (p q : List Float) (s : Float) → T (of_three in_bound p && of_three in_bound q && zero_to_one s)
    → T (of_three is_finite p && of_three is_finite q && is_finite s)
ratio_real p q s =
    both (of_three in_bound p && of_three in_bound q) (of_three is_finite p && of_three is_finite q) (zero_to_one s)
    (is_finite s)
    (both (of_three in_bound p) (of_three is_finite p) (of_three in_bound q) (of_three is_finite q) (three_real p)
    (three_real q))
    (one_real s)

-- ---- the split
pub split_parts : (split : ℕ) → T (is_split split) → (split ≡ 2) ⊎ (split ≡ 3)
split_parts split h = go (eqb split 2) (eqb split 3) (eqb→eq split 2) (eqb→eq split 3) h
  where
    go : (a b : Bool) → (T a → split ≡ 2) → (T b → split ≡ 3) → T (a || b) → (split ≡ 2) ⊎ (split ≡ 3)
    go true b f g h = inl (f tt)
    go false true f g h = inr (g tt)
    go false false f g h = absurd h

-- ---- the allowance
pub allowance_range : (n : ℕ) → T (is_allowance n) → (1 ≤ n) × (n ≤ full_allowance)
allowance_range n h = (
  leb→le 1 n (and_l (leb 1 n) (leb n full_allowance) h),
  leb→le n full_allowance (and_r (leb 1 n) (leb n full_allowance) h),
)

pub range_allowance : (n : ℕ) → 1 ≤ n → n ≤ full_allowance → T (is_allowance n)
range_allowance n a b = and_i (leb 1 n) (leb n full_allowance) (le→leb 1 n a) (le→leb n full_allowance b)

-- ---- each call's refusal number is 0, or names a refusal
module _ (x : List (List Float)) where
  pub walk_told : (dx : List (List Float)) (split : ℕ) (l : Limits) (allowed : ℕ)
      → Told (walk_refusal x dx split l allowed)
  unfolding walk_refusal
  walk_told dx split l allowed =
      refusal_told (finite_points x && finite_points dx && finite_limits l)
      (bounded_points x && bounded_points dx && ranged_limits l && is_split split && is_allowance allowed)

  pub points_told : Told (points_refusal x)
  unfolding points_refusal
  points_told = refusal_told (finite_points x) (bounded_points x)

  pub split_told : (split : ℕ) → Told (split_refusal x split)
  unfolding split_refusal
  split_told split = refusal_told (finite_points x) (bounded_points x && is_split split)

  pub factor_told : (s : Float) → Told (factor_refusal x s)
  unfolding factor_refusal
  factor_told s = refusal_told (finite_points x && is_finite s) (bounded_points x && zero_to_bound s)

  pub time_told : (dx : List (List Float)) (t : Float) → Told (time_refusal x dx t)
  unfolding time_refusal
  time_told dx t =
      refusal_told (finite_points x && finite_points dx && is_finite t)
      (bounded_points x && bounded_points dx && zero_to_one t)

-- ---- the safe time
pub record Walkable (x dx : List (List Float)) (split : ℕ) (l : Limits) : Type 0 where
  pub points : T (bounded_points x)
  pub displacements : T (bounded_points dx)
  pub offset : T (zero_to_bound l.offset)
  pub clearance : T (zero_to_bound l.clearance)
  pub max_t : T (zero_to_one l.max_t)
  pub u_max : T (speed_range l.u_max)
  pub parts : (split ≡ 2) ⊎ (split ≡ 3)

-- the two tests: its numbers are finite, and lie in their ranges
abbrev pub finite_walk : List (List Float) → List (List Float) → Limits → Bool
finite_walk x dx l = finite_points x && finite_points dx && finite_limits l

abbrev pub ranged_walk : List (List Float) → List (List Float) → ℕ → Limits → Bool
ranged_walk x dx split l = bounded_points x && bounded_points dx && ranged_limits l && is_split split

module _ (x dx : List (List Float)) (split : ℕ) (l : Limits) where
  ranged_real : T (ranged_walk x dx split l) → T (finite_walk x dx l)
  ranged_real h =
      both (bounded_points x && bounded_points dx) (finite_points x && finite_points dx) (ranged_limits l)
      (finite_limits l) (pair_real x dx) (limits_real l)
      (and_l (bounded_points x && bounded_points dx && ranged_limits l) (is_split split) h)

  -- with an allowance in its range a call is refused as the pair and its limits are
  pub walk_allowed : (allowed : ℕ) → T (is_allowance allowed)
      → walk_refusal x dx split l allowed ≡ refusal (finite_walk x dx l) (ranged_walk x dx split l)
  unfolding walk_refusal
  walk_allowed allowed h = go (ranged_walk x dx split l) (is_allowance allowed) h
    where
      go : (r a : Bool) → T a → refusal (finite_walk x dx l) (r && a) ≡ refusal (finite_walk x dx l) r
      go true true h = refl
      go false true h = refl
      go r false h = absurd h

  module _ (allowed : ℕ) where
    -- all that lies in its range
    abbrev pub ranged_call : Bool
    ranged_call = ranged_walk x dx split l && is_allowance allowed

    pub walk_admits : walk_refusal x dx split l allowed ≡ 0 → Walkable x dx split l × T (is_allowance allowed)
    unfolding walk_refusal ranged_limits
    walk_admits e =
        let r = (refusal_none (finite_walk x dx l) ranged_call e).1 in
        let q =
        all_four (bounded_points x) (bounded_points dx) (ranged_limits l) (is_split split)
        (and_l (ranged_walk x dx split l) (is_allowance allowed) r)
        in
        let p =
        all_four (zero_to_bound l.offset) (zero_to_bound l.clearance) (zero_to_one l.max_t)
        (speed_range l.u_max) q.2
        in (
          record {
            points = q.0;
            displacements = q.1;
            offset = p.0;
            clearance = p.1;
            max_t = p.2;
            u_max = p.3;
            parts = split_parts split q.3;
          },
          and_r (ranged_walk x dx split l) (is_allowance allowed) r,
        )

    pub walk_real : T ranged_call → T (finite_walk x dx l)
    walk_real h = ranged_real (and_l (ranged_walk x dx split l) (is_allowance allowed) h)

    pub walk_first : (walk_refusal x dx split l allowed ≡ 1) ↔ T (not (finite_walk x dx l))
    unfolding walk_refusal
    walk_first = refusal_first (finite_walk x dx l) ranged_call

    pub walk_second : (walk_refusal x dx split l allowed ≡ 2) ↔ (T (finite_walk x dx l) × T (not ranged_call))
    unfolding walk_refusal
    walk_second = refusal_second (finite_walk x dx l) ranged_call

-- ---- the calls on points
module _ (x : List (List Float)) where
  pub points_admits : points_refusal x ≡ 0 → T (bounded_points x)
  unfolding points_refusal
  points_admits e = (refusal_none (finite_points x) (bounded_points x) e).1

  pub split_admits : (split : ℕ) → split_refusal x split ≡ 0 → T (bounded_points x) × T (is_split split)
  unfolding split_refusal
  split_admits split e =
      let r = (refusal_none (finite_points x) (bounded_points x && is_split split) e).1 in
      (and_l (bounded_points x) (is_split split) r, and_r (bounded_points x) (is_split split) r)

  pub factor_admits : (s : Float) → factor_refusal x s ≡ 0 → T (bounded_points x) × T (zero_to_bound s)
  unfolding factor_refusal
  factor_admits s e =
      let r = (refusal_none (finite_points x && is_finite s) (bounded_points x && zero_to_bound s) e).1 in
      (and_l (bounded_points x) (zero_to_bound s) r, and_r (bounded_points x) (zero_to_bound s) r)

  pub motion_admits : (dx : List (List Float)) → motion_refusal x dx ≡ 0 → T (bounded_points x) × T (bounded_points dx)
  unfolding motion_refusal
  motion_admits dx e =
      let r = (refusal_none (finite_points x && finite_points dx) (bounded_points x && bounded_points dx) e).1 in
      (and_l (bounded_points x) (bounded_points dx) r, and_r (bounded_points x) (bounded_points dx) r)

  pub motion_first : (dx : List (List Float)) → (motion_refusal x dx ≡ 1) ↔ T (not (finite_points x && finite_points dx))
  unfolding motion_refusal
  motion_first dx = refusal_first (finite_points x && finite_points dx) (bounded_points x && bounded_points dx)

  pub time_admits : (dx : List (List Float)) (t : Float) → time_refusal x dx t ≡ 0
      → T (bounded_points x) × T (bounded_points dx) × T (zero_to_one t)
  unfolding time_refusal
  time_admits dx t e =
      let f = finite_points x && finite_points dx && is_finite t in
      let r = bounded_points x && bounded_points dx && zero_to_one t in
      all_three (bounded_points x) (bounded_points dx) (zero_to_one t) (refusal_none f r e).1

pub ratio_admits : (p q : List Float) (s : Float) → ratio_refusal p q s ≡ 0
    → T (of_three in_bound p) × T (of_three in_bound q) × T (zero_to_one s)
unfolding ratio_refusal
ratio_admits p q s e =
    let f = of_three is_finite p && of_three is_finite q && is_finite s in
    let r = of_three in_bound p && of_three in_bound q && zero_to_one s in
    all_three (of_three in_bound p) (of_three in_bound q) (zero_to_one s) (refusal_none f r e).1
