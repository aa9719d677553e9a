-- The candidates of either split (specs/Distance.antt) as calls find them one by one: those of
-- the definition. Assumes nothing.
use mathlib.Core.Path.{◌≡◌}
use mathlib.Core.Bool.{Bool}
use mathlib.Core.List.{List, ◌∷◌}
use lib.Ieee.{Float}
use Rattle.geometry.specs.Geometry.{minus}
use Rattle.distance.specs.declared.candidate.Nearest.{Nearest}
use Rattle.distance.specs.declared.products.Products.{Products}
use Rattle.distance.specs.Distance.{products_of, point_segment, segment_point, only, nearest_from, first_smallest}
use Rattle.distance.specs.Distance.{edges_meet}
use Rattle.distance.specs.Distance.{edge_interior, edge_edge, over_face, face_interior, face_vertex}

module _ (x0 x1 x2 x3 : List Float) {c0 c1 c2 inner : Nearest} {there : Bool} {p : Products} where
  pub edges_found : {c3 : Nearest} → c0 ≡ point_segment 0 x0 x2 x3 → c1 ≡ point_segment 1 x1 x2 x3
      → c2 ≡ segment_point 2 x0 x1 x2 → c3 ≡ segment_point 3 x0 x1 x3
      → p ≡ products_of (minus x1 x0) (minus x3 x2) (minus x0 x2) → inner ≡ edge_interior p x0 x1 x2 x3
      → there ≡ edges_meet p
      → nearest_from c0 (c1 ∷ c2 ∷ c3 ∷ only there inner) ≡ first_smallest (edge_edge x0 x1 x2 x3)
  unfolding edge_edge
  edges_found e0 e1 e2 e3 ep ei et = rw (e0, e1, e2, e3, ei, et, ep)

  pub face_found : c0 ≡ segment_point 0 x0 x1 x3 → c1 ≡ segment_point 1 x1 x2 x3 → c2 ≡ segment_point 2 x2 x0 x3
      → p ≡ products_of (minus x1 x0) (minus x2 x0) (minus x3 x0) → inner ≡ face_interior p x0 x1 x2 x3
      → there ≡ over_face p
      → nearest_from c0 (c1 ∷ c2 ∷ only there inner) ≡ first_smallest (face_vertex x0 x1 x2 x3)
  unfolding face_vertex
  face_found e0 e1 e2 ep ei et = rw (e0, e1, e2, ei, et, ep)
