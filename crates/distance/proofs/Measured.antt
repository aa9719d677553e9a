-- The candidates of points within a bound: each squared distance is a finite f32 of sign plus, and each direction is
-- within a bound. So is the answer's. Proved once for both splits. Assumes nothing.
use Prim.Native.Nat.{ℕ, suc, ◌+◌, ◌≤◌, ◌<◌}
use native.Mathlib.Omega.{arith}
use mathlib.Core.Bool.{Bool, true, false, ◌&&◌, cond}
use mathlib.Core.List.{List}
use lib.Dec.{T, eqb, lit<}
use lib.Ieee.{Float, binary32, lt, le, fits}
use lib.Ieee.Fits.{and_i, and_l, and_r, add-fits, div-fits}
use Rattle.number.specs.Number.{◌⊕◌, zero32, one32, zero_to_one}
use Rattle.number.proofs.Units.{plus}
use Rattle.number.proofs.Within.{Within}
use Rattle.number.proofs.Ranges.{zero_to_one_lem}
use Rattle.geometry.specs.Geometry.{col, minus, along, lerp_of}
use Rattle.geometry.proofs.Bounds.{VecWithin, PointsWithin, col_within, vec_more, minus_within, dot_within}
use Rattle.geometry.proofs.Bounds.{along_within, lerp_within}
use Rattle.distance.specs.declared.candidate.Nearest.{Nearest}
use Rattle.distance.specs.declared.products.Products.{Products}
use Rattle.distance.specs.Distance.{place_on, products_of, be_minus_cd, cd_minus_be, ae_minus_bd, from_to, point_segment}
use Rattle.distance.specs.Distance.{segment_point, edges_meet, edge_interior, edge_edge, over_face, face_interior}
use Rattle.distance.specs.Distance.{face_vertex, candidates_of, nearest_of}
use Rattle.distance.proofs.Listed.{listed, Each, each_only, smallest_keeps}
use Rattle.distance.proofs.Weights.{weights_in}
use Rattle.distance.proofs.Ratios.{square_is_plus, place_within}

-- the direction's numbers are at most 2 ^ b in size
pub record Measured (b : ℕ) (c : Nearest) : Type 0 where
  pub fit : T (fits binary32 c.squared)
  pub sign : T (plus c.squared)
  pub bound : Within (suc (suc (b + b))) c.squared
  pub reach : VecWithin b c.direction

from_to_measured : (k n : ℕ) (p q : List Float) → k ≤ 61 → VecWithin k p → VecWithin k q
    → Measured (suc k) (from_to n p q)
unfolding from_to
from_to_measured k n p q l hp hq =
    let d = minus_within k q p (omega arith) hq hp in
    record {
      fit = add-fits binary32 _ _;
      sign = square_is_plus (suc k) (minus q p) d;
      bound = dot_within (suc k) (minus q p) (minus q p) (omega arith) d d;
      reach = d;
    }

-- what places are within: 2 ^ (a + 3); and then directions: 2 ^ (a + 4)
abbrev pub beyond : ℕ → ℕ
beyond a = suc (suc (suc (suc a)))

module _ (a : ℕ) (l : a ≤ 58) where
  abbrev Vec : List Float → Type 0
  Vec v = VecWithin a v

  abbrev Far : List Float → Type 0
  Far v = VecWithin (suc (suc (suc a))) v

  abbrev Good : Nearest → Type 0
  Good c = Measured (beyond a) c

  far : (v : List Float) → Vec v → Far v
  far v h = vec_more a (suc (suc (suc a))) v (omega arith) h

  good : (n : ℕ) (p q : List Float) → Far p → Far q → Good (from_to n p q)
  good n p q h k = from_to_measured (suc (suc (suc a))) n p q (omega arith) h k

  place_far : (p q0 q1 : List Float) → Vec p → Vec q0 → Vec q1 → Far (place_on p q0 q1)
  place_far p q0 q1 h h0 h1 =
      vec_more (suc (suc a)) (suc (suc (suc a))) (place_on p q0 q1) (omega arith) (place_within a p q0 q1 l h h0 h1)

  point_segment_good : (n : ℕ) (p q0 q1 : List Float) → Vec p → Vec q0 → Vec q1 → Good (point_segment n p q0 q1)
  unfolding point_segment
  point_segment_good n p q0 q1 h h0 h1 = good n p (place_on p q0 q1) (far p h) (place_far p q0 q1 h h0 h1)

  segment_point_good : (n : ℕ) (q0 q1 p : List Float) → Vec q0 → Vec q1 → Vec p → Good (segment_point n q0 q1 p)
  unfolding segment_point
  segment_point_good n q0 q1 p h0 h1 h = good n (place_on p q0 q1) p (place_far p q0 q1 h h0 h1) (far p h)

  module _ (x0 x1 x2 x3 : List Float) (h0 : Vec x0) (h1 : Vec x1) (h2 : Vec x2) (h3 : Vec x3) where
    lerp_far : (p q : List Float) (s : Float) → Vec p → Vec q → T (zero_to_one s) → Far (lerp_of p q s)
    lerp_far p q s h k t =
        vec_more (suc (suc a)) (suc (suc (suc a))) (lerp_of p q s) (omega arith)
        (lerp_within a p q s (omega arith) h k (zero_to_one_lem s t).2)

    edge_interior_good : (p : Products) → T (edges_meet p) → Good (edge_interior p x0 x1 x2 x3)
    unfolding edges_meet edge_interior
    edge_interior_good p t =
        let s = be_minus_cd p in
        let r = ae_minus_bd p in
        let first = and_l (lt zero32 p.det && zero_to_one s) (zero_to_one r) t in
        good 4 (lerp_of x0 x1 s) (lerp_of x2 x3 r)
        (lerp_far x0 x1 s h0 h1 (and_r (lt zero32 p.det) (zero_to_one s) first))
        (lerp_far x2 x3 r h2 h3 (and_r (lt zero32 p.det && zero_to_one s) (zero_to_one r) t))

    edges_good : Each Good (listed (edge_edge x0 x1 x2 x3))
    unfolding Each edge_edge
    edges_good = (
      point_segment_good 0 x0 x2 x3 h0 h2 h3,
      (
        point_segment_good 1 x1 x2 x3 h1 h2 h3,
        (
          segment_point_good 2 x0 x1 x2 h0 h1 h2,
          (
            segment_point_good 3 x0 x1 x3 h0 h1 h3,
            each_only Good _ _ (edge_interior_good (products_of (minus x1 x0) (minus x3 x2) (minus x0 x2))),
          ),
        ),
      ),
    )

    -- the place (x0 + v g) + w h of two weights
    face_place_far : (v w : Float) → T (zero_to_one v) → T (zero_to_one w)
        → Far (along (along x0 v (minus x1 x0)) w (minus x2 x0))
    face_place_far v w s t =
        along_within (suc (suc a)) (along x0 v (minus x1 x0)) w (minus x2 x0) (omega arith)
        (along_within (suc a) x0 v (minus x1 x0) (omega arith) (vec_more a (suc a) x0 (omega arith) h0)
        (zero_to_one_lem v s).2 (minus_within a x1 x0 (omega arith) h1 h0)) (zero_to_one_lem w t).2
        (vec_more (suc a) (suc (suc a)) (minus x2 x0) (omega arith) (minus_within a x2 x0 (omega arith) h2 h0))

    face_interior_good : (p : Products) → T (over_face p) → Good (face_interior p x0 x1 x2 x3)
    unfolding over_face face_interior
    face_interior_good p t =
        let v = cd_minus_be p in
        let w = ae_minus_bd p in
        let above = lt zero32 p.det in
        let three = and_l (above && le zero32 v && le zero32 w) (le (v ⊕ w) one32) t in
        let v-from = and_r above (le zero32 v) (and_l (above && le zero32 v) (le zero32 w) three) in
        let w-from = and_r (above && le zero32 v) (le zero32 w) three in
        let sum = and_r (above && le zero32 v && le zero32 w) (le (v ⊕ w) one32) t in
        let to = weights_in v w (div-fits binary32 _ _) (div-fits binary32 _ _) v-from w-from sum in
        good 3 (along (along x0 v (minus x1 x0)) w (minus x2 x0)) x3
        (face_place_far v w (and_i (le zero32 v) (le v one32) v-from to.0)
        (and_i (le zero32 w) (le w one32) w-from to.1)) (far x3 h3)

    faces_good : Each Good (listed (face_vertex x0 x1 x2 x3))
    unfolding Each face_vertex
    faces_good = (
      segment_point_good 0 x0 x1 x3 h0 h1 h3,
      (
        segment_point_good 1 x1 x2 x3 h1 h2 h3,
        (
          segment_point_good 2 x2 x0 x3 h2 h0 h3,
          each_only Good _ _ (face_interior_good (products_of (minus x1 x0) (minus x2 x0) (minus x3 x0))),
        ),
      ),
    )

  module _ (split : ℕ) (x : List (List Float)) (h : PointsWithin a x) where
    pub candidates_measured : Each Good (listed (candidates_of split x))
    unfolding candidates_of
    candidates_measured = go (eqb split 2)
      where
        column : (i : ℕ) → i < 4 → Vec (col x i)
        column i k = col_within a i x k h

        go : (b : Bool) → Each Good (listed (cond b (edge_edge (col x 0) (col x 1) (col x 2) (col x 3))
            (face_vertex (col x 0) (col x 1) (col x 2) (col x 3))))
        go true =
            edges_good (col x 0) (col x 1) (col x 2) (col x 3) (column 0 (lit< tt)) (column 1 (lit< tt))
            (column 2 (lit< tt)) (column 3 (lit< tt))
        go false =
            faces_good (col x 0) (col x 1) (col x 2) (col x 3) (column 0 (lit< tt)) (column 1 (lit< tt))
            (column 2 (lit< tt)) (column 3 (lit< tt))

    pub nearest_measured : Measured (beyond a) (nearest_of split x)
    unfolding nearest_of
    nearest_measured = smallest_keeps Good (candidates_of split x) candidates_measured
