use mathlib.Core.Path.{◌∙◌}
use Rattle.distance.proofs.Found.{edges_found}
use Rattle.distance.proofs.edge_edge.edge_edge.Goals as goal

pub returns : goal.returns
returns c =
    c.first_smallest.ensures
    ∙ edges_found _ _ _ _ c.point_segment-c0.ensures c.point_segment-c1.ensures c.segment_point-c2.ensures
    c.segment_point-c3.ensures c.products-p.ensures c.interior-inner.ensures c.edges_meet.ensures
