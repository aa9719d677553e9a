-- Theorems of the source norm and of the norm (docs/01-scope.md, "The same pair, written otherwise"). The same pair
-- written otherwise (specs/SamePair.antt) has the same norms, whatever its numbers are, NaN and infinities included, and is
-- refused alike. Multiplied by a power of two, exactly, it has its norms multiplied, exactly. Assumes nothing.
pub mod Covered
pub mod Columns
pub mod Reordered
pub mod Turned
pub mod Refused
pub mod Tested
pub mod Multiplied
pub mod Raised
pub mod Grid
pub mod Ordinary
use Prim.Native.Nat.{ℕ, suc, ◌*◌, ◌<◌}
use mathlib.Core.Path.{◌≡◌, sym, ap, ◌∙◌, subst}
use mathlib.Core.Bool.{Bool, true, ◌&&◌}
use mathlib.Core.List.{List, [], ◌∷◌}
use lib.{Dec.T, ListN.get_or}
use lib.IntN.{ℤ, pos, negsuc}
use lib.Ieee.{Float, up, down, lt}
use lib.Ieee.Bits.{is_true}
use lib.Ieee.Fits.{and_i}
use Rattle.number.specs.Number.{◌⊗◌, least_speed, refusal, units_of}
use Rattle.geometry.specs.Geometry.{at, col, scaled}
use Rattle.admission.specs.Admission.{of_twelve, finite_points, bounded_points, is_split, split_refusal}
use Rattle.admission.proofs.Admitted.{twelve_each, points_real}
use Rattle.pair.specs.Points.{source_norm, raised, norm_of}
use Rattle.pair.specs.SamePair.{reordered, within_sides, exchanged, opposite, power_of, exact_coordinate, ExactTimes}
use Rattle.pair.specs.SamePair.{ordinary_times}
use Rattle.pair.proofs.Norms.{source_from, source_any, norm_fits}
use Rattle.pair.proofs.SamePair.Columns.{scaled_number}
use Rattle.pair.proofs.SamePair.Reordered.{within_onto, reordered_norm}
use Rattle.pair.proofs.SamePair.Turned.{other, other_onto, exchanged_norm, opposite_norm}
use Rattle.pair.proofs.SamePair.Refused.{reordered_refusal, opposite_refusal}
use Rattle.pair.proofs.SamePair.Tested.{ByPower, coordinate_times, units_by}
use Rattle.pair.proofs.SamePair.Multiplied.{norm_times}
use Rattle.pair.proofs.SamePair.Raised.{product_by, raised_by}
use Rattle.pair.proofs.SamePair.Ordinary.{ordinary_times_lem}

-- ---- 1. the columns in another order within the sides, of any split
pub source_reordered : (x : List (List Float)) (split : ℕ) (order : ℕ → ℕ) → T (within_sides split order)
    → source_norm (reordered order x) split ≡ source_norm x split
source_reordered x split order h = reordered_norm split order h x

pub norm_reordered : (x : List (List Float)) (split : ℕ) (order : ℕ → ℕ) → T (within_sides split order)
    → norm_of (reordered order x) split ≡ norm_of x split
unfolding norm_of
norm_reordered x split order h = ap raised (source_reordered x split order h)

pub refusal_reordered : (x : List (List Float)) (split : ℕ) (order : ℕ → ℕ) → T (within_sides split order)
    → split_refusal (reordered order x) split ≡ split_refusal x split
refusal_reordered x split order h = reordered_refusal order (within_onto split order h) x split

-- the four orders of two edges, and the six of a face and a vertex
abbrev by : ℕ → ℕ → ℕ → ℕ → ℕ → ℕ
by a b c d i = get_or (a ∷ b ∷ c ∷ d ∷ []) i 4

pub edge_orders : T (within_sides 2 (by 0 1 2 3) && within_sides 2 (by 1 0 2 3) && within_sides 2 (by 0 1 3 2)
    && within_sides 2 (by 1 0 3 2))
unfolding within_sides
edge_orders = tt

pub face_orders : T (within_sides 3 (by 0 1 2 3) && within_sides 3 (by 0 2 1 3) && within_sides 3 (by 1 0 2 3)
    && within_sides 3 (by 1 2 0 3) && within_sides 3 (by 2 0 1 3) && within_sides 3 (by 2 1 0 3))
unfolding within_sides
face_orders = tt

-- ---- 2. both edges exchanged
pub source_exchanged : (x : List (List Float)) → source_norm (exchanged x) 2 ≡ source_norm x 2
source_exchanged x = exchanged_norm x

pub norm_exchanged : (x : List (List Float)) → norm_of (exchanged x) 2 ≡ norm_of x 2
unfolding norm_of
norm_exchanged x = ap raised (source_exchanged x)

pub refusal_exchanged : (x : List (List Float)) → split_refusal (exchanged x) 2 ≡ split_refusal x 2
refusal_exchanged x = reordered_refusal other other_onto x 2

-- ---- 3. all signs changed
pub source_opposite : (x : List (List Float)) (split : ℕ) → source_norm (opposite x) split ≡ source_norm x split
source_opposite x split = opposite_norm x split

pub norm_opposite : (x : List (List Float)) (split : ℕ) → norm_of (opposite x) split ≡ norm_of x split
unfolding norm_of
norm_opposite x split = ap raised (source_opposite x split)

pub refusal_opposite : (x : List (List Float)) (split : ℕ) → split_refusal (opposite x) split ≡ split_refusal x split
refusal_opposite x split = opposite_refusal x split

-- ---- 4. every number times 2 ^ k
number_times : (k : ℤ) (x : List (List Float)) (split : ℕ) → ExactTimes k x split → (i j : ℕ) → i < 4 → j < 3
    → ByPower k (at (col x i) j) (at (col (scaled x (power_of k)) i) j)
number_times k x split e i j m l =
    subst (ByPower k (at (col x i) j)) (sym (scaled_number x (power_of k) i j m l))
    (coordinate_times k (at (col x i) j) (twelve_each (exact_coordinate k) x e.coordinates i j m l))

source_by : (k : ℤ) (x : List (List Float)) (split : ℕ) → ExactTimes k x split
    → ByPower k (source_norm x split) (source_norm (scaled x (power_of k)) split)
source_by (pos t) x split e =
    norm_times t x (scaled x (power_of (pos t))) split (number_times (pos t) x split e) e.before e.after
source_by (negsuc n) x split e =
    norm_times (suc n) (scaled x (power_of (negsuc n))) x split (number_times (negsuc n) x split e) e.after
    e.before

pub source_multiplied : (k : ℤ) (x : List (List Float)) (split : ℕ) → ExactTimes k x split
    → source_norm (scaled x (power_of k)) split ≡ source_norm x split ⊗ power_of k
source_multiplied k x split e =
    let y = scaled x (power_of k) in
    product_by k (source_norm x split) (source_norm y split) (source_from y split).fit (source_by k x split e)

-- the product is not rounded: in units it is 2 ^ k times the norm
pub source_unrounded : (k : ℤ) (x : List (List Float)) (split : ℕ) → ExactTimes k x split
    → units_of (source_norm (scaled x (power_of k)) split) * down k ≡ units_of (source_norm x split) * up k
source_unrounded k x split e =
    units_by k (source_norm x split) (source_norm (scaled x (power_of k)) split) (source_by k x split e)

-- the same of the norm, where both are raised or neither is
module _ (k : ℤ) (x : List (List Float)) (split : ℕ) (e : ExactTimes k x split)
    (h : lt (source_norm x split) least_speed ≡ lt (source_norm (scaled x (power_of k)) split) least_speed) where
  abbrev y : List (List Float)
  y = scaled x (power_of k)

  norm_by : ByPower k (norm_of x split) (norm_of y split)
  unfolding norm_of
  norm_by =
      raised_by k (source_norm x split) (source_norm y split) (source_from x split).sign (source_from y split).sign
      (source_any x split) (source_any y split) h (source_by k x split e)

  pub norm_multiplied : norm_of y split ≡ norm_of x split ⊗ power_of k
  norm_multiplied = product_by k (norm_of x split) (norm_of y split) (norm_fits y split) norm_by

  pub norm_unrounded : units_of (norm_of y split) * down k ≡ units_of (norm_of x split) * up k
  norm_unrounded = units_by k (norm_of x split) (norm_of y split) norm_by

pub multiplied_admitted : (k : ℤ) (x : List (List Float)) (split : ℕ) → ExactTimes k x split → T (is_split split)
    → split_refusal (scaled x (power_of k)) split ≡ 0
unfolding split_refusal
multiplied_admitted k x split e h =
    let y = scaled x (power_of k) in
    let ranged = and_i (bounded_points y) (is_split split) e.limits h in
    ap (λ (b : Bool). refusal b (bounded_points y && is_split split))
    (is_true (finite_points y) (points_real y e.limits))
    ∙ ap (refusal true) (is_true (bounded_points y && is_split split) ranged)

-- what is computed is exact where each number is zero, or of size 2 ^ -40 to 2 ^ 20 before and after
pub ordinary_multiplied : (k : ℤ) (x : List (List Float)) (split : ℕ) → T (of_twelve (ordinary_times k) x)
    → ExactTimes k x split
ordinary_multiplied k x split h = ordinary_times_lem k x h split
