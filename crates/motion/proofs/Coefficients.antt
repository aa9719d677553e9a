-- The coefficients computed from admitted points are finite, so coplanar times are refused by 1 just where a number
-- handed over is not finite. Assumes nothing.
use native.Mathlib.Omega.{arith}
use mathlib.Core.Path.{◌≡◌, refl, sym, ap, ◌∙◌}
use mathlib.Core.Logic.{◌↔◌}
use mathlib.Core.Bool.{Bool, true, not, ◌&&◌}
use mathlib.Core.List.{List}
use Prim.Native.Nat.{ℕ, ◌<◌}
use lib.Dec.{T, T_not, lit≤, lit<}
use lib.Ieee.{Float, of_bits}
use Rattle.std.specs.Prelude.{Result, Ok, Err}
use Rattle.number.specs.Number.{◌⊕◌, ◌⊖◌, ◌⊗◌, zero32, one32, is_finite, refusal, refusal_number, numbered, refusal_of}
use Rattle.number.specs.declared.refusal.Refusal.{Refusal}
use Rattle.number.proofs.Within.{Within, within_more, add_within, sub_within, mul_within}
use Rattle.number.specs.Number as Answer
use Rattle.number.proofs.Answers.{refused, admitted_keeps}
use Rattle.geometry.specs.Geometry.{minus, at, col, triple}
use Rattle.geometry.proofs.Bounds.{VecWithin, minus_within, col_within}
use Rattle.polynomial_root.specs.declared.answer.Roots.{Roots}
use Rattle.polynomial_root.specs.declared.cubic.Cubic.{Cubic}
use Rattle.polynomial_root.specs.Roots as Made
use Rattle.polynomial_root.specs.Roots.{cubic_refusal, cubic_roots_in_range, cubic_roots}
use Rattle.polynomial_root.proofs.Admitted.{finite_cubic, ranged_cubic}
use Rattle.admission.specs.Admission.{finite_points, bounded_points, motion_refusal}
use Rattle.number.proofs.Finite.{within_real}
use Rattle.admission.proofs.Admitted.{points_within, motion_admits, motion_first}
use Rattle.motion.specs.Motion.{volume, motion_cubic, coplanar_times}
use Rattle.motion.proofs.Refusals.{Has, cubic_has}

-- an edge, a triple product of edges, by size; a sum of three such products is finite too
record Edge (v : List Float) : Type 0 where
  pub each : VecWithin 21 v

record Product (x : Float) : Type 0 where
  pub size : Within 66 x

abbrev edge : List (List Float) → ℕ → List Float
edge x i = minus (col x i) (col x 0)

edge_small : (x : List (List Float)) → T (bounded_points x) → (i : ℕ) → i < 4 → Edge (edge x i)
edge_small x h i l = record {
  each =
      minus_within 20 (col x i) (col x 0) (lit≤ tt) (col_within 20 i x l (points_within x h))
      (col_within 20 0 x (lit< tt) (points_within x h));
}

product_small : {a b c : List Float} → Edge a → Edge b → Edge c → Product (triple a b c)
product_small {a} {b} {c} ha hb hc = record {
  size =
      add_within 65 (part 0 1 2 ⊕ part 1 2 0) (part 2 0 1) (lit≤ tt)
      (add_within 64 (part 0 1 2) (part 1 2 0) (lit≤ tt) (part_within 0 1 2 (lit< tt) (lit< tt) (lit< tt))
      (part_within 1 2 0 (lit< tt) (lit< tt) (lit< tt)))
      (within_more 64 65 (part 2 0 1) (lit≤ tt) (part_within 2 0 1 (lit< tt) (lit< tt) (lit< tt)));
}
  where
    part : ℕ → ℕ → ℕ → Float
    part i j k = at a i ⊗ (at b j ⊗ at c k ⊖ at b k ⊗ at c j)

    part_within : (i j k : ℕ) → i < 3 → j < 3 → k < 3 → Within 64 (part i j k)
    part_within i j k li lj lk =
        mul_within 21 43 (at a i) (at b j ⊗ at c k ⊖ at b k ⊗ at c j) (lit≤ tt) (ha.each i li)
        (sub_within 42 (at b j ⊗ at c k) (at b k ⊗ at c j) (lit≤ tt)
        (mul_within 21 21 (at b j) (at c k) (lit≤ tt) (hb.each j lj) (hc.each k lk))
        (mul_within 21 21 (at b k) (at c j) (lit≤ tt) (hb.each k lk) (hc.each j lj)))

one_finite : {x : Float} → Product x → T (is_finite x)
one_finite {x} h = within_real 66 x h.size

sum_finite : {a b c : Float} → Product a → Product b → Product c → T (is_finite (a ⊕ b ⊕ c))
sum_finite {a} {b} {c} ha hb hc =
    within_real 68 (a ⊕ b ⊕ c)
    (add_within 67 (a ⊕ b) c (lit≤ tt) (add_within 66 a b (lit≤ tt) ha.size hb.size)
    (within_more 66 67 c (lit≤ tt) hc.size))

-- ---- the four coefficients
four_finite : (p : Cubic) → T (is_finite p.c0) → T (is_finite p.c1) → T (is_finite p.c2) → T (is_finite p.c3)
    → T (finite_cubic p one32 zero32)
unfolding is_finite of_bits
four_finite p = go (is_finite p.c0) (is_finite p.c1) (is_finite p.c2) (is_finite p.c3)
  where
    go : (a b c d : Bool) → T a → T b → T c → T d → T (a && b && c && d && is_finite one32 && is_finite zero32)
    go mathlib.Core.Bool.false b c d ha hb hc hd = elim ha [ ]
    go true mathlib.Core.Bool.false c d ha hb hc hd = elim hb [ ]
    go true true mathlib.Core.Bool.false d ha hb hc hd = elim hc [ ]
    go true true true mathlib.Core.Bool.false ha hb hc hd = elim hd [ ]
    go true true true true ha hb hc hd = tt

volume_finite : (x1 x2 x3 v1 v2 v3 : List Float) → Edge x1 → Edge x2 → Edge x3 → Edge v1 → Edge v2 → Edge v3
    → T (finite_cubic (volume x1 x2 x3 v1 v2 v3) one32 zero32)
unfolding volume
volume_finite x1 x2 x3 v1 v2 v3 hx1 hx2 hx3 hv1 hv2 hv3 =
    four_finite (volume x1 x2 x3 v1 v2 v3) (one_finite (product_small hx3 hx1 hx2))
    (sum_finite (product_small hv3 hx1 hx2) (product_small hx3 hv1 hx2) (product_small hx3 hx1 hv2))
    (sum_finite (product_small hv3 hv1 hx2) (product_small hv3 hx1 hv2) (product_small hx3 hv1 hv2))
    (one_finite (product_small hv3 hv1 hv2))

-- ---- by which number
-- a verdict's refusal has the number 1 only where something is not finite
verdict_one : (finite ranged : Bool) → refusal_number (numbered (refusal finite ranged)) ≡ 1 → T (not finite)
unfolding refusal_number numbered
verdict_one true true e = absurd (omega arith)
verdict_one true mathlib.Core.Bool.false e = absurd (omega arith)
verdict_one mathlib.Core.Bool.false ranged e = tt

abbrev Not-one : Refusal → Type 0
Not-one r = refusal_number r ≡ 1 → ⊥

other_6 : Not-one (numbered 6)
unfolding refusal_number numbered
other_6 e = omega arith

other_7 : Not-one (numbered 7)
unfolding refusal_number numbered
other_7 e = omega arith

other_8 : Not-one (numbered 8)
unfolding refusal_number numbered
other_8 e = omega arith

-- an answer whose refusal is none of number 1
other_number : (a : Result Roots Refusal) → Has Not-one other_6 other_7 other_8 a → refusal_of a ≡ 1 → ⊥
unfolding refusal_of
other_number (Ok r) h e = omega arith
other_number (Err r) h e = h e

-- a cubic of finite numbers is not refused by 1
finite_not_one : (p : Cubic) (t epsilon : Float) → T (finite_cubic p t epsilon)
    → refusal_of (cubic_roots_in_range p t epsilon) ≡ 1 → ⊥
unfolding cubic_roots_in_range refusal_of
finite_not_one p t epsilon h =
    let n = cubic_refusal p t epsilon in
    admitted_keeps (λ (a : Result Roots Refusal). refusal_of a ≡ 1 → ⊥) n (cubic_roots p t epsilon) (Made.refused n)
    (λ z. other_number (cubic_roots p t epsilon) (cubic_has Not-one other_6 other_7 other_8 p t epsilon))
    (λ e. T_not (finite_cubic p t epsilon) (verdict_one (finite_cubic p t epsilon) (ranged_cubic p t epsilon) e) h)

module _ (x dx : List (List Float)) where
  pub coefficients_finite : motion_refusal x dx ≡ 0 → T (finite_cubic (motion_cubic x dx) one32 zero32)
  unfolding motion_cubic
  coefficients_finite e =
      let h = motion_admits x dx e in
      let of-x = edge_small x h.0 in
      let of-dx = edge_small dx h.1 in
      volume_finite (edge x 1) (edge x 2) (edge x 3) (edge dx 1) (edge dx 2) (edge dx 3)
      (of-x 1 (lit< tt)) (of-x 2 (lit< tt)) (of-x 3 (lit< tt))
      (of-dx 1 (lit< tt)) (of-dx 2 (lit< tt)) (of-dx 3 (lit< tt))

  -- refused by 1 where, and only where, a number handed over is not finite
  pub coplanar_first : (refusal_of (coplanar_times x dx) ≡ 1) ↔ T (not (finite_points x && finite_points dx))
  unfolding coplanar_times motion_refusal refusal_of refusal_number numbered
  coplanar_first = (only, λ h. always ((motion_first x dx).1 h))
    where
      n : ℕ
      n = motion_refusal x dx

      found : Result Roots Refusal
      found = cubic_roots_in_range (motion_cubic x dx) one32 zero32

      Not-finite : Type 0
      Not-finite = T (not (finite_points x && finite_points dx))

      only : refusal_of (Answer.admitted n found (Made.refused n)) ≡ 1 → Not-finite
      only =
          admitted_keeps (λ (a : Result Roots Refusal). refusal_of a ≡ 1 → Not-finite) n found (Made.refused n)
          (λ z e. absurd (finite_not_one (motion_cubic x dx) one32 zero32 (coefficients_finite z) e))
          (verdict_one (finite_points x && finite_points dx) (bounded_points x && bounded_points dx))

      always : n ≡ 1 → refusal_of (Answer.admitted n found (Made.refused n)) ≡ 1
      always e =
          ap refusal_of (sym (refused found (Made.refused n) n n refl (λ z. omega arith)))
          ∙ ap (λ (k : ℕ). refusal_number (numbered k)) e
