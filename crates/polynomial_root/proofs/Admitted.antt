-- The numbers of an admitted call, as bounds; and what a finder answers, by its admission. Assumes nothing.
use Prim.Native.Nat.{ℕ}
use mathlib.Core.Path.{◌≡◌, refl, sym, ap, ◌∙◌}
use mathlib.Core.Bool.{Bool, true, ◌&&◌}
use lib.Dec.{T}
use lib.Ieee.{Float}
use lib.Ieee.Fits.{and_i}
use Rattle.std.specs.Prelude.{Result, Ok, Err}
use Rattle.number.specs.Number.{answered, admitted, numbered, is_finite, in_bound, zero_to_bound, above_zero_to_one}
use Rattle.number.proofs.Answers.{refusal_none, ranged_none, taken, refused, refused_by}
use Rattle.number.proofs.Answers as Answers
use Rattle.number.specs.declared.refusal.Refusal.{Refusal}
use Rattle.number.proofs.Comparing.{all_three, all_four}
use Rattle.number.proofs.Within.{Within}
use Rattle.number.proofs.Finite.{within_real, bound_real}
use Rattle.number.proofs.Ranges.{in_bound_lem, zero_to_bound_lem, above_zero_to_one_lem}
use Rattle.polynomial_root.specs.Roots.{quadratic_refusal, cubic_refusal}
use Rattle.polynomial_root.specs.declared.cubic.Cubic.{Cubic}
use Rattle.polynomial_root.proofs.Spans.{Allowed}

pub allowed_quadratic : (c0 c1 c2 : Float) → quadratic_refusal c0 c1 c2 ≡ 0
    → Within 20 c0 × Within 20 c1 × Within 20 c2
allowed_quadratic c0 c1 c2 e =
    let h =
    (refusal_none (is_finite c0 && is_finite c1 && is_finite c2) (in_bound c0 && in_bound c1 && in_bound c2) e).1 in
    let x = all_three (in_bound c0) (in_bound c1) (in_bound c2) h in
    (in_bound_lem c0 x.0, in_bound_lem c1 x.1, in_bound_lem c2 x.2)

-- the finite numbers of a cubic's call, and those in their range
abbrev pub finite_cubic : Cubic → Float → Float → Bool
finite_cubic p t epsilon =
    is_finite p.c0 && is_finite p.c1 && is_finite p.c2 && is_finite p.c3 && is_finite t && is_finite epsilon

abbrev pub ranged_cubic : Cubic → Float → Float → Bool
ranged_cubic p t epsilon =
    in_bound p.c0 && in_bound p.c1 && in_bound p.c2 && in_bound p.c3 && above_zero_to_one t && zero_to_bound epsilon

-- what lies in its range is finite
pub quadratic_real : (c0 c1 c2 : Float) → T (in_bound c0 && in_bound c1 && in_bound c2)
    → T (is_finite c0 && is_finite c1 && is_finite c2)
quadratic_real c0 c1 c2 h =
    let x = all_three (in_bound c0) (in_bound c1) (in_bound c2) h in
    and_i (is_finite c0 && is_finite c1) (is_finite c2)
    (and_i (is_finite c0) (is_finite c1) (bound_real c0 x.0) (bound_real c1 x.1)) (bound_real c2 x.2)

pub cubic_real : (p : Cubic) (t epsilon : Float) → T (ranged_cubic p t epsilon) → T (finite_cubic p t epsilon)
cubic_real p t epsilon h =
    let three = in_bound p.c0 && in_bound p.c1 && in_bound p.c2 in
    let x = all_four three (in_bound p.c3) (above_zero_to_one t) (zero_to_bound epsilon) h in
    let low = is_finite p.c0 && is_finite p.c1 && is_finite p.c2 in
    and_i (low && is_finite p.c3 && is_finite t) (is_finite epsilon)
    (and_i (low && is_finite p.c3) (is_finite t)
    (and_i low (is_finite p.c3) (quadratic_real p.c0 p.c1 p.c2 x.0) (bound_real p.c3 x.1))
    (within_real 0 t (above_zero_to_one_lem t x.2).2)) (within_real 20 epsilon (zero_to_bound_lem epsilon x.3).1)

pub allowed_cubic : (p : Cubic) (t epsilon : Float) → cubic_refusal p t epsilon ≡ 0 → Allowed p t
allowed_cubic p t epsilon e =
    let coefficients = in_bound p.c0 && in_bound p.c1 && in_bound p.c2 && in_bound p.c3 in
    let h = (refusal_none (finite_cubic p t epsilon) (ranged_cubic p t epsilon) e).1 in
    let x = all_three coefficients (above_zero_to_one t) (zero_to_bound epsilon) h in
    let w = all_four (in_bound p.c0) (in_bound p.c1) (in_bound p.c2) (in_bound p.c3) x.0 in
    let r = above_zero_to_one_lem t x.1 in
    record {
      w0 = in_bound_lem p.c0 w.0;
      w1 = in_bound_lem p.c1 w.1;
      w2 = in_bound_lem p.c2 w.2;
      w3 = in_bound_lem p.c3 w.3;
      above = r.0;
      small = r.2;
    }

-- where the tests of the ranges are passed there is no refusal
pub quadratic_none : (c0 c1 c2 : Float) → (in_bound c0 && in_bound c1 && in_bound c2) ≡ true
    → quadratic_refusal c0 c1 c2 ≡ 0
quadratic_none c0 c1 c2 h =
    sym (ranged_none (is_finite c0 && is_finite c1 && is_finite c2) (in_bound c0 && in_bound c1 && in_bound c2)
    (quadratic_real c0 c1 c2) h)

pub cubic_none : (p : Cubic) (t epsilon : Float) → ranged_cubic p t epsilon ≡ true → cubic_refusal p t epsilon ≡ 0
cubic_none p t epsilon h =
    sym (ranged_none (finite_cubic p t epsilon) (ranged_cubic p t epsilon) (cubic_real p t epsilon) h)

-- what a finder answers, by what its admission did
module _ {A B : Type 0} (n : ℕ) (v : A) (given : Result B Refusal) where
  pub goes_in : (w : A) → answered n v ≡ Ok w → given ≡ admitted n given (Err (numbered n))
  goes_in w h = taken given (Err (numbered n)) n n refl (Answers.given n v w h).0

  pub stays_out : (r : Refusal) → answered n v ≡ Err r → Err r ≡ admitted n given (Err (numbered n))
  stays_out r h =
      let k = refused_by n v r h in
      ap (λ (r : Refusal). Err r) (sym k.1) ∙ refused given (Err (numbered n)) n n refl k.0
