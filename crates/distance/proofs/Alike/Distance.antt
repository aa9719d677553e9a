-- Candidates that are alike in their squared distances, the choice among them (specs/Distance.antt), and so the
-- squared distance of alike points: it does not see the sign of a zero. Assumes nothing.
use mathlib.Core.Path.{◌≡◌, refl}
use Prim.Native.Nat.{ℕ}
use mathlib.Core.Bool.{Bool, true, false, cond}
use mathlib.Core.List.{List, [], ◌∷◌}
use lib.Dec.{eqb}
use lib.Ieee.{Float, lt}
use Rattle.number.proofs.Alike.{Alike, lt_alike}
use Rattle.geometry.specs.Geometry.{minus}
use Rattle.distance.specs.declared.candidate.Nearest.{Nearest}
use Rattle.distance.specs.declared.products.Products.{Products}
use Rattle.distance.specs.Distance.{Candidates, from_to, products_of, point_segment, segment_point, only, nearer}
use Rattle.distance.specs.Distance.{nearest_from, edges_meet, edge_interior, edge_edge, over_face, face_interior}
use Rattle.distance.specs.Distance.{face_vertex, candidates_of, nearest_of}
use Rattle.distance.proofs.Alike.Vectors.{AlikeVec, AlikePoints, minus_alike, along_alike, dot_alike}
use Rattle.distance.proofs.Alike.Vectors.{lerp_alike, place_alike}
use Rattle.distance.proofs.Alike.Products.{AlikeProducts, products_alike, be_minus_cd_lem, cd_minus_be_lem}
use Rattle.distance.proofs.Alike.Products.{ae_minus_bd_lem, and_first, edges_meet_same, over_face_same}

record Near (a b : Nearest) : Type 0 where
  squared_alike : Alike a.squared b.squared

from_to_alike : (n : ℕ) {p p' q q' : List Float} → AlikeVec p p' → AlikeVec q q' → Near (from_to n p q) (from_to n p' q')
unfolding from_to
from_to_alike n h k = record { squared_alike = dot_alike (minus_alike k h) (minus_alike k h) }

point_segment_alike : (n : ℕ) {p p' a a' b b' : List Float} → AlikeVec p p' → AlikeVec a a' → AlikeVec b b'
    → Near (point_segment n p a b) (point_segment n p' a' b')
unfolding point_segment
point_segment_alike n h k l = from_to_alike n h (place_alike h k l)

segment_point_alike : (n : ℕ) {a a' b b' p p' : List Float} → AlikeVec a a' → AlikeVec b b' → AlikeVec p p'
    → Near (segment_point n a b p) (segment_point n a' b' p')
unfolding segment_point
segment_point_alike n k l h = from_to_alike n (place_alike h k l) h

-- as many on either side, and near in their order
data AllNear : List Nearest → List Nearest → Type 0 where
  none : AllNear [] []
  next : {a b : Nearest} {k l : List Nearest} → Near a b → AllNear k l → AllNear (a ∷ k) (b ∷ l)

only_alike : {t t' : Bool} {a b : Nearest} → t ≡ t' → (t ≡ true → Near a b) → AllNear (only t a) (only t' b)
unfolding only
only_alike {t = true} e f = rw (← e) (next (f refl) none)
only_alike {t = false} e f = rw (← e) none

record AlikeCandidates (c d : Candidates) : Type 0 where
  first_near : Near c.first d.first
  others_near : AllNear c.others d.others

-- ---- the first smallest
nearer_alike : {a a' b b' : Nearest} → Near a a' → Near b b' → Near (nearer a b) (nearer a' b')
unfolding nearer
nearer_alike {a} {a'} {b} {b'} p q =
    rw (lt_alike q.squared_alike p.squared_alike) (go (lt b'.squared a'.squared))
  where
    go : (t : Bool) → Near (cond t b a) (cond t b' a')
    go true = q
    go false = p

nearest_from_alike : {a b : Nearest} {k l : List Nearest} → Near a b → AllNear k l
    → Near (nearest_from a k) (nearest_from b l)
unfolding nearest_from
nearest_from_alike p none = p
nearest_from_alike {a = a} {b = b} p (next {a = a'} {b = b'} q r) =
    nearest_from_alike {a = nearer a a'} {b = nearer b b'} (nearer_alike p q) r

-- ---- the candidates of either split
module _ {x0 y0 x1 y1 x2 y2 x3 y3 : List Float} (h0 : AlikeVec x0 y0) (h1 : AlikeVec x1 y1) (h2 : AlikeVec x2 y2)
    (h3 : AlikeVec x3 y3) where
  edge_products_alike : AlikeProducts (products_of (minus x1 x0) (minus x3 x2) (minus x0 x2))
      (products_of (minus y1 y0) (minus y3 y2) (minus y0 y2))
  edge_products_alike = products_alike (minus_alike h1 h0) (minus_alike h3 h2) (minus_alike h0 h2)

  face_products_alike : AlikeProducts (products_of (minus x1 x0) (minus x2 x0) (minus x3 x0))
      (products_of (minus y1 y0) (minus y2 y0) (minus y3 y0))
  face_products_alike = products_alike (minus_alike h1 h0) (minus_alike h2 h0) (minus_alike h3 h0)

  module _ {p q : Products} (h : AlikeProducts p q) where
    edge_interior_alike : edges_meet p ≡ true → Near (edge_interior p x0 x1 x2 x3) (edge_interior q y0 y1 y2 y3)
    unfolding edges_meet edge_interior
    edge_interior_alike t =
        let above = and_first _ _ (and_first _ _ t) in
        from_to_alike 4 (lerp_alike h0 h1 (be_minus_cd_lem h above)) (lerp_alike h2 h3 (ae_minus_bd_lem h above))

    face_interior_alike : over_face p ≡ true → Near (face_interior p x0 x1 x2 x3) (face_interior q y0 y1 y2 y3)
    unfolding over_face face_interior
    face_interior_alike t =
        let above = and_first _ _ (and_first _ _ (and_first _ _ t)) in
        let along-g = along_alike h0 (cd_minus_be_lem h above) (minus_alike h1 h0) in
        from_to_alike 3 (along_alike along-g (ae_minus_bd_lem h above) (minus_alike h2 h0)) h3

  edge_edge_alike : AlikeCandidates (edge_edge x0 x1 x2 x3) (edge_edge y0 y1 y2 y3)
  unfolding edge_edge
  edge_edge_alike = record {
    first_near = point_segment_alike 0 h0 h2 h3;
    others_near =
        next (point_segment_alike 1 h1 h2 h3)
        (next (segment_point_alike 2 h0 h1 h2)
        (next (segment_point_alike 3 h0 h1 h3)
        (only_alike (edges_meet_same edge_products_alike) (edge_interior_alike edge_products_alike))));
  }

  face_vertex_alike : AlikeCandidates (face_vertex x0 x1 x2 x3) (face_vertex y0 y1 y2 y3)
  unfolding face_vertex
  face_vertex_alike = record {
    first_near = segment_point_alike 0 h0 h1 h3;
    others_near =
        next (segment_point_alike 1 h1 h2 h3)
        (next (segment_point_alike 2 h2 h0 h3)
        (only_alike (over_face_same face_products_alike) (face_interior_alike face_products_alike)));
  }

candidates_alike : (split : ℕ) {x y : List (List Float)} → AlikePoints x y
    → AlikeCandidates (candidates_of split x) (candidates_of split y)
unfolding candidates_of
candidates_alike split h =
    either (eqb split 2) (edge_edge_alike h.c0 h.c1 h.c2 h.c3)
    (face_vertex_alike h.c0 h.c1 h.c2 h.c3)
  where
    either : (b : Bool) {c c' d d' : Candidates} → AlikeCandidates c c' → AlikeCandidates d d'
        → AlikeCandidates (cond b c d) (cond b c' d')
    either true p q = p
    either false p q = q

-- alike points have alike squared distances
pub nearest_alike : (split : ℕ) {x y : List (List Float)} → AlikePoints x y
    → Alike (nearest_of split x).squared (nearest_of split y).squared
unfolding nearest_of
nearest_alike split h =
    let c = candidates_alike split h in
    (nearest_from_alike c.first_near c.others_near).squared_alike
