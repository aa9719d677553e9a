use mathlib.Core.Path.{◌∙◌}
use Rattle.distance.proofs.Found.{face_found}
use Rattle.distance.proofs.face_vertex.face_vertex.Goals as goal

pub returns : goal.returns
returns c =
    c.first_smallest.ensures
    ∙ face_found _ _ _ _ c.segment_point-c0.ensures c.segment_point-c1.ensures c.segment_point-c2.ensures
    c.products-p.ensures c.interior-inner.ensures c.over_face.ensures
