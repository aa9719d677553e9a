-- The norm errs upward (`ErrsUpward`; docs/01-scope.md, "Square root and norm"): where the source norm is at least
-- 2 ^ -60, the norm is not below the exact largest distance, and not above it times 1 + 2 ^ -20. With it the clauses of
-- the public call. Assumes nothing.
pub mod Largest
pub mod Raised
use Prim.Native.Nat.{ℕ, ◌+◌, ◌-◌, ◌*◌, ◌^◌, ◌≤◌, ◌<◌}
use native.Mathlib.Nat.{le_trans, lt_of_le_of_lt, mul-le-mul_right}
use mathlib.Core.Path.{◌≡◌, refl, sym, subst}
use mathlib.Core.Bool.{Bool, true, false}
use mathlib.Core.List.{List, [], ◌∷◌}
use lib.Dec.{T, not_T, lit<}
use lib.Pow.{pow_pos}
use lib.Ieee.{Float, binary32, lt, le, size, of_bits}
use lib.Ieee.Bits.{is_true, is_false}
use Rattle.number.specs.Number.{zero32, least_speed, units_of, is_minus, apart, refusal_of, value_of, admitted, answered}
use Rattle.number.proofs.Rounding.{rnd, rnd_mono}
use Rattle.number.proofs.Units.Compared.{L, Is, le_says, says_le, same_test}
use Rattle.number.proofs.Transitive.{lt_not_le}
use Rattle.number.proofs.Comparing.{not_lt_le}
use Rattle.number.proofs.NoNan.{no_nan_le}
use Rattle.number.proofs.Signs.{plus_up}
use Rattle.number.proofs.Answers.{clauses, given_value}
use Rattle.std.specs.Prelude.{Result}
use Rattle.number.specs.declared.refusal.Refusal.{Refusal}
use Rattle.number.proofs.Units.{Top}
use Rattle.number.proofs.Products.{mul_is}
use Rattle.number.proofs.Errors.{OfRoot, root_off}
use Rattle.number.proofs.Within.{within_units}
use Rattle.number.proofs.SquareRoot.Nearest.{units_is}
use Rattle.number.proofs.SquareRoot.Argument.{not_above}
use Rattle.number.proofs.SquareRoot.Bounds.{RootUnits, root_facts}
use Rattle.geometry.proofs.Handed.{PointsFit}
use Rattle.admission.specs.Admission.{bounded_points, split_refusal}
use Rattle.admission.proofs.Admitted.{split_admits, split_told}
use Rattle.pair.specs.Points.{largest_square, largest_exact, source_norm, upward, norm_of}
use Rattle.pair.specs.Points.{gap_exact, ErrsUpward}
use Rattle.geometry.specs.Geometry.{vec, cross_pairs}
use Rattle.pair.proofs.NormBounds.Largest.{Held, largest_held}
use Rattle.pair.proofs.NormBounds.Raised.{product, product_grows, product_upward, product_little}
use Rattle.pair.proofs.Norms.{square_fits, source_from, source_within, raised_small, raised_large, Real}
use Rattle.pair.proofs.Norms.{factor, least_is, upward_is, answer_real}

module _ (x : List (List Float)) (split : ℕ) (h : T (bounded_points x)) (f : PointsFit x) where
  abbrev source : Float
  source = source_norm x split

  abbrev square : Float
  square = largest_square x split

  -- ---- where the source norm is at least 2 ^ -60
  module _ (t : T (le least_speed source)) where
    not_less : lt source least_speed ≡ false
    not_less =
        is_false (lt source least_speed) (not_T (lt source least_speed) (λ s. lt_not_le source least_speed s t))

    above_zero : T (lt zero32 square)
    unfolding source_norm le of_bits
    above_zero = go (lt zero32 square) refl
      where
        go : (b : Bool) → lt zero32 square ≡ b → T (lt zero32 square)
        go true e = subst T (sym e) tt
        go false e = absurd (subst (λ (n : Float). T (le least_speed n)) (sym (not_above square e)) t)

    held : Held square (largest_exact x split)
    held = largest_held x h f split

    root : RootUnits square held.0
    root = root_facts square held.0 (square_fits x split) above_zero held.1

    abbrev r : ℕ
    r = root.units

    source_is : Is source r
    unfolding source_norm
    source_is = root.is.is

    reach : 2 ^ 89 ≤ r
    reach = le_says least_speed source (2 ^ 89) r least_is source_is t

    norm_is : Is (norm_of x split) (product r)
    unfolding norm_of size of_bits units_of
    norm_is =
        subst (λ (n : Float). Is n (product r)) (sym (raised_large source not_less))
        (mul_is source upward r factor source_is upward_is under)
      where
        under : product r < Top
        under =
            lt_of_le_of_lt (rnd_mono (r * factor) L (2 ^ 22 * L * factor) L (pow_pos 149) (pow_pos 149)
            (mul-le-mul_right L
            (mul-le-mul_right factor (within_units 22 source r source_is (source_within x h split)))))
            (lit< {m = rnd (2 ^ 22 * L * factor) L} tt)

    raised : T (le least_speed (norm_of x split))
    raised =
        says_le least_speed (norm_of x split) (2 ^ 89) (product r) least_is norm_is
        (le_trans reach (product_grows r reach))

    -- what holds of the product holds of the norm's units
    by_units : (P : ℕ → Type 0) → P (product r) → P (units_of (norm_of x split))
    by_units P q = subst P (sym (units_is (norm_of x split) (product r) norm_is)) q

    near : OfRoot r (held.0 * L)
    near = root_off (held.0 * L) r root.near

  stands : T (lt source least_speed) → norm_of x split ≡ source
  unfolding norm_of
  stands t = raised_small source (is_true (lt source least_speed) t)

  told_back : T (le least_speed (norm_of x split)) → T (le least_speed source)
  told_back t =
      not_lt_le source least_speed (no_nan_le zero32 source (plus_up source (source_from x split).sign)).1
      (no_nan_le least_speed (norm_of x split) t).0
      (not_T (lt source least_speed) (λ s.
      lt_not_le source least_speed s (subst (λ (n : Float). T (le least_speed n)) (stands s) t)))

  pub norm_upward : ErrsUpward x split (norm_of x split)
  norm_upward = record {
    stands = stands;
    not_below = λ t. by_units t (λ (u : ℕ). largest_exact x split ≤ u * u)
        (product_upward (r t) (reach t) (largest_exact x split) ((held t).0 * L) (held t).2 (near t));
    not_above = λ t. by_units t (λ (u : ℕ). u * u * 2 ^ 40 ≤ largest_exact x split * ((2 ^ 20 + 1) * (2 ^ 20 + 1)))
        (product_little (r t) (reach t) (largest_exact x split) ((held t).0 * L) (held t).2 (near t));
    told = same_test (le least_speed (norm_of x split)) (le least_speed source) told_back raised;
  }

-- ---- the exact definition on a case: the differences (3, 4, 0), whose squared distance is 25
abbrev three_four : List (List Float)
three_four =
    let n : ℕ → Float = of_bits binary32 in
    let zeros : List Float = vec zero32 zero32 zero32 in
    vec (n 0x4040_0000) zero32 zero32 ∷ zeros ∷ zeros ∷ vec zero32 (n 0xc080_0000) zero32 ∷ []

pub exact_corner : largest_exact three_four 2 ≡ 25 * (L * L)
unfolding largest_exact gap_exact apart units_of is_minus of_bits cross_pairs
exact_corner = refl

-- ---- the clauses of the public call
module _ (x : List (List Float)) (split : ℕ) (f : PointsFit x) where
  abbrev Clauses : Result Float Refusal → Type 0
  Clauses r = record {
    answer : r ≡ answered (split_refusal x split) (norm_of x split);
    refusal : refusal_of r ≡ split_refusal x split;
    value : value_of r ≡ admitted (split_refusal x split) (norm_of x split) zero32;
    norm : Real (value_of r);
    upward : refusal_of r ≡ 0 → ErrsUpward x split (value_of r);
  }

  pub norm_clauses : (r : Result Float Refusal) → r ≡ answered (split_refusal x split) (norm_of x split) → Clauses r
  norm_clauses r e =
      let all = clauses (split_refusal x split) (norm_of x split) r (split_told x split) e in
      record {
        answer = e;
        refusal = all.1.0;
        value = all.1.1;
        norm = subst Real (sym all.1.1) (answer_real x split);
        upward = upward_answer;
      }
    where
      upward_answer : refusal_of r ≡ 0 → ErrsUpward x split (value_of r)
      upward_answer z =
          let (none, is) = given_value (split_refusal x split) (norm_of x split) r e z in
          subst (ErrsUpward x split) (sym is) (norm_upward x split (split_admits x split none).0 f)
