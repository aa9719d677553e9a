-- Vectors and points that are alike (`Alike` of number's proofs) number by number: the vector operations and the place
-- on a segment (specs/Distance.antt) keep it. Assumes nothing.
use mathlib.Core.List.{List}
use lib.Ieee.{Float}
use Rattle.number.proofs.Alike.{Alike, same, add_alike, sub_alike, mul_alike, div_alike, no_zero_eq, eq_alike}
use Rattle.number.proofs.Alike.{cond_alike, clamp_alike}
use Rattle.geometry.specs.Geometry.{at, col, minus, dot, along, lerp_of}
use Rattle.distance.specs.Distance.{ratio_along, place_on}

pub record AlikeVec (a b : List Float) : Type 0 where
  pub n0 : Alike (at a 0) (at b 0)
  pub n1 : Alike (at a 1) (at b 1)
  pub n2 : Alike (at a 2) (at b 2)

-- the four columns of a pair
pub record AlikePoints (x y : List (List Float)) : Type 0 where
  pub c0 : AlikeVec (col x 0) (col y 0)
  pub c1 : AlikeVec (col x 1) (col y 1)
  pub c2 : AlikeVec (col x 2) (col y 2)
  pub c3 : AlikeVec (col x 3) (col y 3)

pub minus_alike : {a a' b b' : List Float} → AlikeVec a a' → AlikeVec b b' → AlikeVec (minus a b) (minus a' b')
minus_alike p q = record {
  n0 = sub_alike p.n0 q.n0;
  n1 = sub_alike p.n1 q.n1;
  n2 = sub_alike p.n2 q.n2;
}

pub along_alike : {a a' b b' : List Float} {t t' : Float} → AlikeVec a a' → Alike t t' → AlikeVec b b'
    → AlikeVec (along a t b) (along a' t' b')
along_alike p h q = record {
  n0 = add_alike p.n0 (mul_alike h q.n0);
  n1 = add_alike p.n1 (mul_alike h q.n1);
  n2 = add_alike p.n2 (mul_alike h q.n2);
}

pub dot_alike : {a a' b b' : List Float} → AlikeVec a a' → AlikeVec b b' → Alike (dot a b) (dot a' b')
dot_alike p q =
    add_alike (add_alike (mul_alike p.n0 q.n0) (mul_alike p.n1 q.n1)) (mul_alike p.n2 q.n2)

pub lerp_alike : {a a' b b' : List Float} {t t' : Float} → AlikeVec a a' → AlikeVec b b' → Alike t t'
    → AlikeVec (lerp_of a b t) (lerp_of a' b' t')
lerp_alike p q h = along_alike p h (minus_alike q p)

-- ---- the place on a segment
ratio_alike : {p p' q q' d d' : List Float} → AlikeVec p p' → AlikeVec q q' → AlikeVec d d'
    → Alike (ratio_along p q d) (ratio_along p' q' d')
unfolding ratio_along
ratio_alike h k l =
    cond_alike (eq_alike (dot_alike l l) same) (λ t. same)
    (λ t. clamp_alike (div_alike (dot_alike (minus_alike h k) l) (dot_alike l l) (no_zero_eq t)) same same)

pub place_alike : {p p' a a' b b' : List Float} → AlikeVec p p' → AlikeVec a a' → AlikeVec b b'
    → AlikeVec (place_on p a b) (place_on p' a' b')
unfolding place_on
place_alike h k l = lerp_alike k l (ratio_alike h k (minus_alike l k))
