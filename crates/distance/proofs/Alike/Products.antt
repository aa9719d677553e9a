-- The interior candidate (specs/Distance.antt): of alike directions and gaps the products are alike, where det is
-- above zero the quotients too, and the tests whether the candidate is there answer the same. Assumes nothing.
use mathlib.Core.Path.{◌≡◌, refl}
use mathlib.Core.Bool.{Bool, true, false, ◌&&◌}
use mathlib.Core.List.{List}
use lib.Ieee.{Float, lt}
use Rattle.number.specs.Number.{zero32, zero_to_one}
use Rattle.number.proofs.Alike.{Alike, same, add_alike, sub_alike, mul_alike, div_alike, no_zero_lt, lt_alike, le_alike}
use Rattle.distance.specs.declared.products.Products.{Products}
use Rattle.distance.specs.Distance.{products_of, be_minus_cd, cd_minus_be, ae_minus_bd, edges_meet, over_face}
use Rattle.distance.proofs.Alike.Vectors.{AlikeVec, dot_alike}

pub record AlikeProducts (p q : Products) : Type 0 where
  pub a : Alike p.a q.a
  pub b : Alike p.b q.b
  pub c : Alike p.c q.c
  pub d : Alike p.d q.d
  pub e : Alike p.e q.e
  pub det : Alike p.det q.det

pub products_alike : {u u' v v' w w' : List Float} → AlikeVec u u' → AlikeVec v v' → AlikeVec w w'
    → AlikeProducts (products_of u v w) (products_of u' v' w')
unfolding products_of
products_alike h k l = record {
  a = dot_alike h h;
  b = dot_alike h k;
  c = dot_alike k k;
  d = dot_alike h l;
  e = dot_alike k l;
  det = sub_alike (mul_alike (dot_alike h h) (dot_alike k k)) (mul_alike (dot_alike h k) (dot_alike h k));
}

-- their quotients, where det is above zero
module _ {p q : Products} (h : AlikeProducts p q) (above : lt zero32 p.det ≡ true) where
  pub be_minus_cd_lem : Alike (be_minus_cd p) (be_minus_cd q)
  be_minus_cd_lem =
      div_alike (sub_alike (mul_alike h.b h.e) (mul_alike h.c h.d)) h.det (no_zero_lt above)

  pub cd_minus_be_lem : Alike (cd_minus_be p) (cd_minus_be q)
  cd_minus_be_lem =
      div_alike (sub_alike (mul_alike h.c h.d) (mul_alike h.b h.e)) h.det (no_zero_lt above)

  pub ae_minus_bd_lem : Alike (ae_minus_bd p) (ae_minus_bd q)
  ae_minus_bd_lem =
      div_alike (sub_alike (mul_alike h.a h.e) (mul_alike h.b h.d)) h.det (no_zero_lt above)

-- ---- tests: the second is asked only where the first passes
and_same : {a a' b b' : Bool} → a ≡ a' → (a ≡ true → b ≡ b') → (a && b) ≡ (a' && b')
and_same {a = true} e f = rw (← e) (f refl)
and_same {a = false} e f = rw (← e)

pub and_first : (a b : Bool) → (a && b) ≡ true → a ≡ true
and_first true b h = refl
and_first false b h = h

in_same : {x y : Float} → Alike x y → zero_to_one x ≡ zero_to_one y
in_same h = and_same (le_alike same h) (λ t. le_alike h same)

pub edges_meet_same : {p q : Products} → AlikeProducts p q → edges_meet p ≡ edges_meet q
unfolding edges_meet
edges_meet_same h =
    and_same (and_same (lt_alike same h.det) (λ t. in_same (be_minus_cd_lem h t)))
    (λ t. in_same (ae_minus_bd_lem h (and_first _ _ t)))

pub over_face_same : {p q : Products} → AlikeProducts p q → over_face p ≡ over_face q
unfolding over_face
over_face_same h =
    and_same
    (and_same (and_same (lt_alike same h.det) (λ t. le_alike same (cd_minus_be_lem h t)))
    (λ t. le_alike same (ae_minus_bd_lem h (and_first _ _ t))))
    (λ t.
    let above = and_first _ _ (and_first _ _ t) in
    le_alike (add_alike (cd_minus_be_lem h above) (ae_minus_bd_lem h above)) same)
