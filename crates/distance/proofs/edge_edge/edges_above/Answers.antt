-- The interior candidate settles it, or all the others do.
use mathlib.Core.Path.{refl, ap, ◌∙◌}
use mathlib.Core.List.{[], ◌∷◌}
use Rattle.std.specs.Float.Ieee.{lt}
use Rattle.distance.specs.declared.candidate.Nearest.{Nearest}
use Rattle.distance.proofs.Above.{inner_reaches, inner_clears}
use Rattle.distance.proofs.Found.{edges_found}
use Rattle.distance.proofs.edge_edge.edges_above.Goals as goal

pub returns-then-edges_meet-inner : goal.returns-then-edges_meet-inner
returns-then-edges_meet-inner c =
    inner_reaches c.args.threshold _ (_ ∷ _ ∷ _ ∷ []) c.edges_meet.result c.interior-inner.result
    c.if-edges_meet-inner.true
    ∙ ap (λ (n : Nearest). lt c.args.threshold n.squared)
    (edges_found _ _ _ _ refl refl refl refl c.products-p.ensures c.interior-inner.ensures c.edges_meet.ensures)

pub returns : goal.returns
returns c =
    c.all_above.ensures
    ∙ inner_clears c.args.threshold c.point_segment-d0.result
    (c.point_segment-d1.result ∷ c.segment_point-d2.result ∷ c.segment_point-d3.result ∷ []) c.edges_meet.result
    c.interior-inner.result c.if-edges_meet-inner.false
    ∙ ap (λ (n : Nearest). lt c.args.threshold n.squared)
    (edges_found _ _ _ _ c.point_segment-d0.ensures c.point_segment-d1.ensures c.segment_point-d2.ensures
    c.segment_point-d3.ensures c.products-p.ensures c.interior-inner.ensures c.edges_meet.ensures)
