-- Scaling a pair, and the times at which its four points lie in one plane (docs/01-scope.md, "Scaling a pair", "Roots",
-- "Refusal numbers"; ccd3.rs: `normalize_centerized_configuration`). Definitions only.
use Rattle.std.specs.Prelude.{ℕ, zero, suc, Result}
use mathlib.Core.{Path.◌≡◌, Bool.Bool, Bool.true, Bool.false, Bool.◌&&◌, Bool.cond, List.List, List.foldl}
use lib.{Dec.T, Ieee.Float, Ieee.binary32, Ieee.lt, Ieee.of_bits}
use Rattle.number.specs.Number.{◌⊕◌, ◌⊗◌, ◌⊘◌, zero32, one32, size, larger, is_finite}
use Rattle.number.specs.Number.{admitted}
use Rattle.number.specs.Number.{refusal_of, value_of, answered}
use Rattle.number.specs.declared.refusal.Refusal.{Refusal}
use Rattle.geometry.specs.Geometry.{at, col, minus, triple, scaled, count}
use Rattle.polynomial_root.specs.Roots.{or_refused, cubic_of, cubic_roots_in_range}
use Rattle.polynomial_root.specs.declared.{answer.Roots.Roots, cubic.Cubic.Cubic}
use Rattle.admission.specs.Admission.{finite_points, time_refusal, motion_refusal}
use Rattle.motion.specs.declared.{factors.Factors.Factors, record.Pair.Pair}

-- ---- the factors
-- the largest so far, after |x| and |x + t dx| at one place, and at the three places of a column
unfoldable pub larger_entry : Float → Float → Float → Float → Float
larger_entry t most x dx = larger (larger most (size x)) (size (x ⊕ t ⊗ dx))

abbrev pub larger_column : Float → Float → List Float → List Float → Float
larger_column t most v d =
    let with : Float → ℕ → Float = λ most k. larger_entry t most (at v k) (at d k) in with (with (with most 0) 1) 2

-- max_entry: the largest over the twelve places
unfoldable pub max_entry : List (List Float) → List (List Float) → Float → Float
max_entry x dx t =
    foldl (λ (most : Float) (i : ℕ). larger_column t most (col x i) (col dx i)) zero32 (count 0 4)

abbrev pub eight32 : Float
eight32 = of_bits binary32 0x4100_0000

-- a first factor that can be used
unfoldable pub usable : Float → Bool
usable f = is_finite f && lt zero32 f

-- after n factors of 8, whose product is given, the last factor is f
abbrev pub ending : ℕ → Float → Float → Factors
ending n f product = record { eights = n; last = f; product = product ⊗ f }

-- while f > 8, a factor of 8 more and f divided by 8: at most k times
unfoldable pub eighths : ℕ → ℕ → Float → Float → Factors
eighths zero n f product = ending n f product
eighths (suc k) n f product = elim (lt eight32 f) [
  | true ↦ eighths k (suc n) (f ⊘ eight32) (product ⊗ eight32)
  | false ↦ ending n f product
]

-- so many are enough for any finite f
abbrev pub most_eights : ℕ
most_eights = 42

unfoldable pub factors_of : Float → Factors
factors_of f = eighths most_eights 0 f one32

-- every number times 8, n times over
unfoldable pub eightfold : ℕ → List (List Float) → List (List Float)
eightfold zero x = x
eightfold (suc n) x = eightfold n (scaled x eight32)

unfoldable pub scaled_by : Factors → List (List Float) → List (List Float)
scaled_by by x = scaled (eightfold by.eights x) by.last

-- ---- the pair
-- f = f32(0.99) / max_entry
unfoldable pub first_factor : Pair → Float → Float
first_factor p t = of_bits binary32 0x3f7d_70a4 ⊘ max_entry p.x p.dx t

abbrev pub factors_for : Pair → Float → Factors
factors_for p t = factors_of (first_factor p t)

unfoldable pub scaled_with : Factors → Pair → Pair
scaled_with by p = record { x = scaled_by by p.x; dx = scaled_by by p.dx }

abbrev pub scaled_pair : Pair → Float → Pair
scaled_pair p t = scaled_with (factors_for p t) p

unfoldable pub finite_pair : Pair → Bool
finite_pair p = finite_points p.x && finite_points p.dx

-- 1 and 2; 4, f is no use; 5, some scaled number is not finite
unfoldable pub scaling_refusal : Pair → Float → ℕ
scaling_refusal p t =
    let n = time_refusal p.x p.dx t in
    admitted n (cond (usable (first_factor p t)) (cond (finite_pair (scaled_pair p t)) 0 5) 4) n

-- what is answered: the product of the factors, or the refusal; and what the lent pair holds afterwards
abbrev pub scaling_of : Pair → Float → Result Float Refusal
scaling_of p t = answered (scaling_refusal p t) (factors_for p t).product

unfoldable pub leaves : Pair → Float → Pair
leaves p t = admitted (scaling_refusal p t) (scaled_pair p t) p

-- a scaling of p that answers a and leaves the pair q; the number and the value of the answer; and that a scaled pair
-- is finite
pub record Scales (p : Pair) (t : Float) (a : Result Float Refusal) (q : Pair) : Type 0 where
  pub answer : a ≡ scaling_of p t
  pub left : q ≡ leaves p t
  pub refusal : refusal_of a ≡ scaling_refusal p t
  pub value : value_of a ≡ admitted (scaling_refusal p t) (factors_for p t).product zero32
  pub finite : refusal_of a ≡ 0 → T (finite_pair q)

-- ---- the times from 0 to 1 at which the four points lie in one plane
-- the volume spanned by three edges x1, x2, x3 that move by v1, v2, v3, as a cubic of the time
unfoldable pub volume : List Float → List Float → List Float → List Float → List Float → List Float → Cubic
volume x1 x2 x3 v1 v2 v3 =
    cubic_of (triple x3 x1 x2) (triple v3 x1 x2 ⊕ triple x3 v1 x2 ⊕ triple x3 x1 v2)
    (triple v3 v1 x2 ⊕ triple v3 x1 v2 ⊕ triple x3 v1 v2) (triple v3 v1 v2)

-- of a pair: an edge is a column as seen from column 0
unfoldable pub motion_cubic : List (List Float) → List (List Float) → Cubic
motion_cubic x dx =
    let edge : List (List Float) → ℕ → List Float = λ y i. minus (col y i) (col y 0) in
    volume (edge x 1) (edge x 2) (edge x 3) (edge dx 1) (edge dx 2) (edge dx 3)

-- the roots of that cubic in 0..1, with epsilon 0; a coefficient beyond the bound is refused by 2
unfoldable pub coplanar_times : List (List Float) → List (List Float) → Result Roots Refusal
coplanar_times x dx = or_refused (motion_refusal x dx) (cubic_roots_in_range (motion_cubic x dx) one32 zero32)
