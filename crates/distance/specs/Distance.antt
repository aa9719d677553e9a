-- The distance of a pair: candidates in their order, of which the first smallest is taken (docs/01-scope.md, "Our
-- distance rules"). Definitions only.
use Rattle.std.specs.Prelude.{ℕ, Bool, true, false, cond, ◌&&◌, List, [], ◌∷◌}
use lib.{Dec.eqb, Ieee.Float, Ieee.lt, Ieee.le, Ieee.eq}
use Rattle.number.specs.Number.{◌⊕◌, ◌⊖◌, ◌⊗◌, ◌⊘◌, zero32, one32, clamp, zero_to_one}
use Rattle.geometry.specs.Geometry.{col, minus, dot, along, lerp_of}
use Rattle.distance.specs.declared.{candidate.Nearest.Nearest, products.Products.Products}

-- ---- a point against a segment: the place on it that is taken as the nearest
-- the ratio of the place from q0, d being the segment's direction: 0 where the segment has no length
unfoldable pub ratio_along : List Float → List Float → List Float → Float
ratio_along p q0 d = cond (eq (dot d d) zero32) zero32 (clamp (dot (minus p q0) d ⊘ dot d d) zero32 one32)

-- the place on the segment q0 q1
unfoldable pub place_on : List Float → List Float → List Float → List Float
place_on p q0 q1 = lerp_of q0 q1 (ratio_along p q0 (minus q1 q0))

-- ---- candidates, and the choice among them
-- candidate n, from the place p on the first side to the place q on the second
unfoldable pub from_to : ℕ → List Float → List Float → Nearest
from_to n p q = record { squared = dot (minus q p) (minus q p); direction = minus q p; candidate = n }

-- candidate n, a point of the first side against a segment of the second
unfoldable pub point_segment : ℕ → List Float → List Float → List Float → Nearest
point_segment n p q0 q1 = from_to n p (place_on p q0 q1)

-- candidate n, a segment of the first side against a point of the second
unfoldable pub segment_point : ℕ → List Float → List Float → List Float → Nearest
segment_point n q0 q1 p = from_to n (place_on p q0 q1) p

-- the candidates of a pair in their order: there is always a first
pub record Candidates : Type 0 where
  pub first : Nearest
  pub others : List Nearest

-- a candidate that is there only where the test holds
unfoldable pub only : Bool → Nearest → List Nearest
only true c = c ∷ []
only false c = []

-- the nearer of two, the first of equals
unfoldable pub nearer : Nearest → Nearest → Nearest
nearer a b = cond (lt b.squared a.squared) b a

-- the first smallest of one candidate and those after it
unfoldable pub nearest_from : Nearest → List Nearest → Nearest
nearest_from a [] = a
nearest_from a (b ∷ rest) = nearest_from (nearer a b) rest

abbrev pub first_smallest : Candidates → Nearest
first_smallest c = nearest_from c.first c.others

-- ---- the products a to e and det of two directions u, v and a gap w, and the quotients that place interior candidates
unfoldable pub products_of : List Float → List Float → List Float → Products
products_of u v w = record {
  a = dot u u;
  b = dot u v;
  c = dot v v;
  d = dot u w;
  e = dot v w;
  det = dot u u ⊗ dot v v ⊖ dot u v ⊗ dot u v;
}

abbrev pub be_minus_cd : Products → Float
be_minus_cd p = (p.b ⊗ p.e ⊖ p.c ⊗ p.d) ⊘ p.det

abbrev pub cd_minus_be : Products → Float
cd_minus_be p = (p.c ⊗ p.d ⊖ p.b ⊗ p.e) ⊘ p.det

abbrev pub ae_minus_bd : Products → Float
ae_minus_bd p = (p.a ⊗ p.e ⊖ p.b ⊗ p.d) ⊘ p.det

-- ---- edge x0 x1 against edge x2 x3
-- the interior candidate is there: s and r, its ratios along the first edge and the second, lie in 0..1
unfoldable pub edges_meet : Products → Bool
edges_meet p = lt zero32 p.det && zero_to_one (be_minus_cd p) && zero_to_one (ae_minus_bd p)

unfoldable pub edge_interior : Products → List Float → List Float → List Float → List Float → Nearest
edge_interior p x0 x1 x2 x3 = from_to 4 (lerp_of x0 x1 (be_minus_cd p)) (lerp_of x2 x3 (ae_minus_bd p))

-- each end against the other edge, then the interior
unfoldable pub edge_edge : List Float → List Float → List Float → List Float → Candidates
edge_edge x0 x1 x2 x3 =
    let p = products_of (minus x1 x0) (minus x3 x2) (minus x0 x2) in
    let inner = only (edges_meet p) (edge_interior p x0 x1 x2 x3) in
    record {
      first = point_segment 0 x0 x2 x3;
      others = point_segment 1 x1 x2 x3 ∷ segment_point 2 x0 x1 x2 ∷ segment_point 3 x0 x1 x3 ∷ inner;
    }

-- ---- face x0 x1 x2 against vertex x3
-- the interior candidate is there: v and w, its weights along the edges from x0, are those of a place in the face
unfoldable pub over_face : Products → Bool
over_face p =
    lt zero32 p.det && le zero32 (cd_minus_be p) && le zero32 (ae_minus_bd p)
    && le (cd_minus_be p ⊕ ae_minus_bd p) one32

-- at (x0 + v g) + w h
unfoldable pub face_interior : Products → List Float → List Float → List Float → List Float → Nearest
face_interior p x0 x1 x2 x3 =
    from_to 3 (along (along x0 (cd_minus_be p) (minus x1 x0)) (ae_minus_bd p) (minus x2 x0)) x3

-- the edges 0-1, 1-2 and 2-0 against the vertex, then the interior
unfoldable pub face_vertex : List Float → List Float → List Float → List Float → Candidates
face_vertex x0 x1 x2 x3 =
    let p = products_of (minus x1 x0) (minus x2 x0) (minus x3 x0) in
    let inner = only (over_face p) (face_interior p x0 x1 x2 x3) in
    record {
      first = segment_point 0 x0 x1 x3;
      others = segment_point 1 x1 x2 x3 ∷ segment_point 2 x2 x0 x3 ∷ inner;
    }

-- ---- by the split: 2 says edge against edge; any other is taken as 3, face against vertex
unfoldable pub candidates_of : ℕ → List (List Float) → Candidates
candidates_of split x =
    cond (eqb split 2) (edge_edge (col x 0) (col x 1) (col x 2) (col x 3))
    (face_vertex (col x 0) (col x 1) (col x 2) (col x 3))

unfoldable pub nearest_of : ℕ → List (List Float) → Nearest
nearest_of split x = first_smallest (candidates_of split x)
