-- The ratio of a place on a segment (specs/Distance.antt) is no NaN and lies in 0..1, for points within a bound: a
-- squared length that is not zero is finite and above zero, so the quotient is no NaN, and what is no NaN is clamped
-- to 0..1. Assumes nothing.
use Prim.Native.Nat.{ℕ, suc, ◌+◌, ◌≤◌, ◌<◌}
use native.Mathlib.Omega.{arith}
use mathlib.Core.Path.{◌≡◌, refl, subst}
use mathlib.Core.Bool.{Bool, true, false, not, ◌||◌, cond}
use mathlib.Core.List.{List}
use lib.Dec.{T, lit<}
use lib.Ieee.{Float, fin, lt, le, eq, is_nan, of_bits, inf, nan}
use lib.Ieee.Fits.{and_i}
use Rattle.number.specs.Number.{◌⊗◌, ◌⊕◌, ◌⊘◌, zero32, one32, clamp, zero_to_one}
use Rattle.number.proofs.Units.{plus}
use Rattle.number.proofs.Comparing.{not_lt_le}
use Rattle.number.proofs.Choice.{clamp_in}
use Rattle.number.proofs.Within.{Within, within_finite, div_no_nan}
use Rattle.number.proofs.Ranges.{zero_to_one_lem}
use Rattle.number.proofs.Signs.{plus_up, square_plus, sum_plus}
use Rattle.geometry.specs.Geometry.{at, minus, dot}
use Rattle.geometry.proofs.Bounds.{VecWithin, minus_within, dot_within, lerp_within}
use Rattle.distance.specs.Distance.{ratio_along, place_on}
use Rattle.number.proofs.Transitive.{lt_not_le}

-- ---- a square of a vector has the sign plus
pub square_is_plus : (a : ℕ) (v : List Float) → VecWithin a v → T (plus (dot v v))
square_is_plus a v h =
    sum_plus (square 0 ⊕ square 1) (square 2)
    (sum_plus (square 0) (square 1) (one 0 (lit< tt)) (one 1 (lit< tt))) (one 2 (lit< tt))
  where
    square : ℕ → Float
    square j = at v j ⊗ at v j

    one : (j : ℕ) → j < 3 → T (plus (square j))
    one j k = square_plus (at v j) (within_finite a (at v j) (h j k))

zero_no_nan : T (not (is_nan zero32))
unfolding is_nan of_bits
zero_no_nan = tt

le_opens : (x : Float) → T (le x zero32) → T (lt x zero32 || eq x zero32)
unfolding le
le_opens x h = h

no_nan : (a : ℕ) (x : Float) → Within a x → T (not (is_nan x))
unfolding is_nan
no_nan a nan h = elim h [ ]
no_nan a (inf _) h = elim h [ ]
no_nan a (fin s m e) h = tt

-- what has the sign plus and is not zero is above zero
above_zero : (a : ℕ) (x : Float) → Within a x → T (plus x) → eq x zero32 ≡ false → T (lt zero32 x)
above_zero a x h p n = decide (lt zero32 x) (not_lt_le zero32 x zero_no_nan (no_nan a x h))
  where
    below_or_same : (b c : Bool) → (T b → ⊥) → c ≡ false → T (b || c) → ⊥
    below_or_same true c f e t = f tt
    below_or_same false c f e t = subst T e t

    decide : (b : Bool) → (T (not b) → T (le x zero32)) → T b
    decide true f = tt
    decide false f =
        absurd (below_or_same (lt x zero32) (eq x zero32) (λ k. lt_not_le x zero32 k (plus_up x p)) n
        (le_opens x (f tt)))

-- ---- the ratio and the place
zero_in : T (zero_to_one zero32)
unfolding le of_bits
zero_in = tt

quotient_in : (a b : ℕ) (n d : Float) → Within a n → Within b d → T (plus d)
    → T (zero_to_one (cond (eq d zero32) zero32 (clamp (n ⊘ d) zero32 one32)))
quotient_in a b n d hn hd p = go (eq d zero32) refl
  where
    go : (c : Bool) → eq d zero32 ≡ c → T (zero_to_one (cond c zero32 (clamp (n ⊘ d) zero32 one32)))
    go true e = zero_in
    go false e =
        let no = div_no_nan n d (within_finite a n hn) (within_finite b d hd) (above_zero b d hd p e) in
        let r = clamp_in (n ⊘ d) no in
        and_i (le zero32 (clamp (n ⊘ d) zero32 one32)) (le (clamp (n ⊘ d) zero32 one32) one32) r.0 r.1

module _ (a : ℕ) (p q0 q1 : List Float) (l : a ≤ 58) (hp : VecWithin a p) (h0 : VecWithin a q0)
    (h1 : VecWithin a q1) where
  pub ratio_in : T (zero_to_one (ratio_along p q0 (minus q1 q0)))
  unfolding ratio_along
  ratio_in =
      let d = minus_within a q1 q0 (omega arith) h1 h0 in
      quotient_in (suc (suc (suc a + suc a))) (suc (suc (suc a + suc a))) (dot (minus p q0) (minus q1 q0))
      (dot (minus q1 q0) (minus q1 q0))
      (dot_within (suc a) (minus p q0) (minus q1 q0) (omega arith) (minus_within a p q0 (omega arith) hp h0) d)
      (dot_within (suc a) (minus q1 q0) (minus q1 q0) (omega arith) d d) (square_is_plus (suc a) (minus q1 q0) d)

  pub place_within : VecWithin (suc (suc a)) (place_on p q0 q1)
  unfolding place_on
  place_within = lerp_within a q0 q1 (ratio_along p q0 (minus q1 q0)) (omega arith) h0 h1 (zero_to_one_lem _ ratio_in).2
