-- The interior candidate settles it, or all the others do.
use mathlib.Core.Path.{refl, ap, ◌∙◌}
use mathlib.Core.List.{[], ◌∷◌}
use Rattle.std.specs.Float.Ieee.{lt}
use Rattle.distance.specs.declared.candidate.Nearest.{Nearest}
use Rattle.distance.proofs.Above.{inner_reaches, inner_clears}
use Rattle.distance.proofs.Found.{face_found}
use Rattle.distance.proofs.face_vertex.face_above.Goals as goal

pub returns-then-over_face-inner : goal.returns-then-over_face-inner
returns-then-over_face-inner c =
    inner_reaches c.args.threshold _ (_ ∷ _ ∷ []) c.over_face.result c.interior-inner.result c.if-over_face-inner.true
    ∙ ap (λ (n : Nearest). lt c.args.threshold n.squared)
    (face_found _ _ _ _ refl refl refl c.products-p.ensures c.interior-inner.ensures c.over_face.ensures)

pub returns : goal.returns
returns c =
    c.all_above.ensures
    ∙ inner_clears c.args.threshold c.segment_point-d0.result
    (c.segment_point-d1.result ∷ c.segment_point-d2.result ∷ []) c.over_face.result c.interior-inner.result
    c.if-over_face-inner.false
    ∙ ap (λ (n : Nearest). lt c.args.threshold n.squared)
    (face_found _ _ _ _ c.segment_point-d0.ensures c.segment_point-d1.ensures c.segment_point-d2.ensures
    c.products-p.ensures c.interior-inner.ensures c.over_face.ensures)
