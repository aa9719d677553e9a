-- Coordinates that are multiples of 2 ^ -63, at most 2 ^ 20 in size: so is a difference, and its square is zero or at
-- least 2 ^ -126, so that all that the norm computes of them is a normal f32, or zero with no rounding. Assumes nothing.
use Prim.Native.Nat.{ℕ, zero, suc, ◌+◌, ◌*◌, ◌^◌, ◌≤◌, ◌<◌}
use native.Mathlib.Nat.{le_trans, le_of_eq, eq-zero-or-pos, zero-mul, one-mul, mul-le-mul, mul-le-mul_right}
use native.Mathlib.Omega.{arith}
use mathlib.Core.Path.{◌≡◌, refl, sym, ap, ◌∙◌, subst}
use mathlib.Core.Logic.{◌⊎◌, inl, inr}
use mathlib.Core.Bool.{Bool, true, false, not, ◌&&◌}
use mathlib.Core.List.{List}
use lib.Dec.{T, lit<, lit≤}
use lib.Pow.{pow_pos}
use lib.Ieee.{Float, binary32, round, neg, sub, le, fits, of_bits}
use lib.Ieee.Exact.{HasValue}
use lib.Ieee.Fits.{and_i, add-fits, sub-fits, mul-fits}
use lib.Ieee.Scale.{finite}
use Rattle.number.specs.Number.{◌⊕◌, ◌⊖◌, ◌⊗◌, size, is_finite, units_apart}
use Rattle.number.proofs.Rounding.{rnd, rnd_mono, rnd_own, rnd_fix}
use Rattle.number.proofs.Units.Compared.{L, says_le}
use Rattle.number.proofs.Comparing.{or_l, or_r}
use Rattle.number.proofs.Within.{Within, within_finite, within_more, sub_within, mul_within, add_within}
use Rattle.number.proofs.Finite.{is_finite_lem}
use Rattle.number.proofs.Patterns.{bits_are}
use Rattle.number.proofs.Signed.{value_finite, value_size, value_neg, value_zero, round_whole}
use Rattle.number.proofs.Signed.Sums.{summed, add_units, plus_value}
use Rattle.number.proofs.PowersOfTwo.Times.{rnd_power}
use Rattle.number.proofs.PowersOfTwo.Squares.{square_value}
use Rattle.geometry.specs.Geometry.{at, col, minus, Cross}
use Rattle.geometry.proofs.CrossPairs.{pairs_keep}
use Rattle.admission.specs.Admission.{of_three}
use Rattle.admission.proofs.Admitted.{three_all}
use Rattle.pair.specs.SamePair.{normal, is_zero, normal_or_zero, exact_square, exact_gap, exact_gaps}

-- ---- so many units make a normal f32, or a zero
abbrev Settled : ℕ → Type 0
Settled u = (u ≡ 0) ⊎ (2 ^ 23 ≤ u)

module _ (x : Float) (s : Bool) (u : ℕ) (f : T (fits binary32 x)) (v : HasValue x s u L) where
  pub value_normal : 2 ^ 23 ≤ u → T (normal x)
  unfolding normal
  value_normal l =
      let least = of_bits binary32 0x0080_0000 in
      and_i (fits binary32 x && is_finite x) (le least (size x))
      (and_i (fits binary32 x) (is_finite x) f (subst T (sym (is_finite_lem x)) (value_finite x s u v)))
      (says_le least (size x) (2 ^ 23) u (bits_are 0x0080_0000 (lit< tt)) (value_size x s u v) l)

  value_settled : Settled u → T (normal_or_zero x)
  unfolding normal_or_zero
  value_settled (inl z) =
      or_r (normal x) (is_zero x) (value_zero x s (subst (λ (n : ℕ). HasValue x s n L) z v))
  value_settled (inr l) = or_l (normal x) (is_zero x) (value_normal l)

-- ---- a multiple of 2 ^ -63, which is 2 ^ 86 units, and at most 2 ^ a in size
pub record Grid (a : ℕ) (x : Float) : Type 0 where
  pub sign : Bool
  pub steps : ℕ
  pub is : HasValue x sign (steps * 2 ^ 86) L
  pub within : Within a x

grid_sub : (x y : Float) → Grid 20 x → Grid 20 y → Grid 21 (x ⊖ y)
unfolding sub
grid_sub x y g h =
    let near = sub_within 20 x y (lit≤ tt) g.within h.within in
    let (o, is) = summed g.sign g.steps (not h.sign) h.steps in
    let n = units_apart g.sign g.steps (not (not h.sign)) h.steps in
    let e : x ⊖ y ≡ round binary32 o (n * 2 ^ 86) L =
    add_units x (neg y) g.sign (not h.sign) (g.steps * 2 ^ 86) (h.steps * 2 ^ 86) g.is
    (value_neg y h.sign (h.steps * 2 ^ 86) h.is) ∙ is (2 ^ 86) L (pow_pos 86)
    in
    let real = subst (λ (z : Float). T (finite z)) e (within_finite 21 (x ⊖ y) near) in
    record {
      sign = o;
      steps = rnd n 1;
      is =
          subst (λ (z : Float). HasValue z o (rnd n 1 * 2 ^ 86) L) (sym e)
          (subst (λ (u : ℕ). HasValue (round binary32 o (n * 2 ^ 86) L) o u L) (rnd_power n 86)
          (round_whole o (n * 2 ^ 86) real));
      within = near;
    }

-- the steps are none, or make 2 ^ 86 units
steps_large : (n : ℕ) → 0 < n → 2 ^ 86 ≤ n * 2 ^ 86
steps_large n l = le_trans (le_of_eq (sym (one-mul (2 ^ 86)))) (mul-le-mul_right (2 ^ 86) l)

grid_settled : (a : ℕ) (x : Float) → T (fits binary32 x) → Grid a x → T (normal_or_zero x)
grid_settled a x f g = value_settled x g.sign (g.steps * 2 ^ 86) f g.is (go (eq-zero-or-pos g.steps))
  where
    go : (g.steps ≡ 0) ⊎ (0 < g.steps) → Settled (g.steps * 2 ^ 86)
    go (inl z) = inl (ap (λ (n : ℕ). n * 2 ^ 86) z ∙ zero-mul (2 ^ 86))
    go (inr l) = inr (le_trans (lit≤ {m = 2 ^ 23} tt) (steps_large g.steps l))

-- ---- squares and their sums: of sign plus, none or 2 ^ 23 units at least
record Tall (x : Float) : Type 0 where
  units : ℕ
  is : HasValue x false units L
  settled : Settled units

module _ (d : Float) (g : Grid 21 d) where
  square_within : Within 42 (d ⊗ d)
  square_within = mul_within 21 21 d d (lit≤ tt) g.within g.within

  abbrev u : ℕ
  u = g.steps * 2 ^ 86

  square_is : HasValue (d ⊗ d) false (rnd (u * u) L) L
  square_is = square_value d g.sign u g.is (within_finite 42 (d ⊗ d) square_within)

  square_tall : 0 < g.steps → 2 ^ 23 ≤ rnd (u * u) L
  square_tall l =
      let large = steps_large g.steps l in
      le_trans (le_of_eq (sym (rnd_fix (2 ^ 23) L (pow_pos 149) (2 ^ 23, 0, lit< tt, refl))))
      (rnd_mono (2 ^ 23 * L) L (u * u) L (pow_pos 149) (pow_pos 149)
      (mul-le-mul_right L (le_trans (lit≤ {m = 2 ^ 23 * L} tt) (mul-le-mul large large))))

  none : g.steps ≡ 0 → u ≡ 0
  none z = ap (λ (n : ℕ). n * 2 ^ 86) z ∙ zero-mul (2 ^ 86)

  tall_square : Tall (d ⊗ d)
  tall_square = record { units = rnd (u * u) L; is = square_is; settled = go (eq-zero-or-pos g.steps) }
    where
      go : (g.steps ≡ 0) ⊎ (0 < g.steps) → Settled (rnd (u * u) L)
      go (inl z) =
          inl (ap (λ (n : ℕ). rnd (n * n) L) (none z) ∙ rnd_fix 0 L (pow_pos 149) (0, 0, lit< tt, refl))
      go (inr l) = inr (square_tall l)

  grid_square : T (exact_square d)
  unfolding exact_square
  grid_square = elim (eq-zero-or-pos g.steps) [
    | inl z ↦
        or_r (normal (d ⊗ d)) (is_zero d)
        (value_zero d g.sign (subst (λ (n : ℕ). HasValue d g.sign n L) (none z) g.is))
    | inr l ↦
        or_l (normal (d ⊗ d)) (is_zero d)
        (value_normal (d ⊗ d) false (rnd (u * u) L) (mul-fits binary32 d d) square_is (square_tall l))
  ]

tall_settled : (x : Float) → T (fits binary32 x) → Tall x → T (normal_or_zero x)
tall_settled x f t = value_settled x false t.units f t.is t.settled

tall_sum : (x y : Float) → Tall x → Tall y → T (finite (x ⊕ y)) → Tall (x ⊕ y)
tall_sum x y p q f = record {
  units = rnd (p.units + q.units) 1;
  is = plus_value x y p.units q.units p.is q.is f;
  settled = go p.settled q.settled;
}
  where
    over : (n : ℕ) → 2 ^ 23 ≤ n → 2 ^ 23 ≤ rnd n 1
    over n l =
        le_trans (le_of_eq (sym (rnd_own (2 ^ 23) (2 ^ 23, 0, lit< tt, refl))))
        (rnd_mono (2 ^ 23) 1 n 1 (pow_pos 0) (pow_pos 0) (mul-le-mul_right 1 l))

    go : Settled p.units → Settled q.units → Settled (rnd (p.units + q.units) 1)
    go (inl a) (inl b) =
        inl (ap (λ (n : ℕ). rnd n 1) (both p.units q.units a b) ∙ rnd_own 0 (0, 0, lit< tt, refl))
      where
        both : (u v : ℕ) → u ≡ 0 → v ≡ 0 → u + v ≡ 0
        both u v a b = omega arith
    go (inr l) b = inr (over (p.units + q.units) (more p.units q.units l))
      where
        more : (u v : ℕ) → 2 ^ 23 ≤ u → 2 ^ 23 ≤ u + v
        more u v l = omega arith
    go (inl a) (inr l) = inr (over (p.units + q.units) (more p.units q.units l))
      where
        more : (u v : ℕ) → 2 ^ 23 ≤ v → 2 ^ 23 ≤ u + v
        more u v l = omega arith

-- ---- a cross pair, and every cross pair
module _ (x : List (List Float)) (grid : (i j : ℕ) → i < 4 → j < 3 → Grid 20 (at (col x i) j)) where
  module _ (p : Cross) (i : p.first < 4) (k : p.second < 4) where
    abbrev gap : ℕ → Float
    gap j = at (minus (col x p.first) (col x p.second)) j

    gap_grid : (j : ℕ) → j < 3 → Grid 21 (gap j) × T (fits binary32 (gap j))
    gap_grid zero l = (grid_sub _ _ (grid p.first 0 i l) (grid p.second 0 k l), sub-fits binary32 _ _)
    gap_grid (suc zero) l = (grid_sub _ _ (grid p.first 1 i l) (grid p.second 1 k l), sub-fits binary32 _ _)
    gap_grid (suc (suc zero)) l = (grid_sub _ _ (grid p.first 2 i l) (grid p.second 2 k l), sub-fits binary32 _ _)
    gap_grid (suc (suc (suc j))) l = absurd (omega arith)

    grid_gap : T (exact_gap x p)
    unfolding exact_gap
    grid_gap =
        let v = minus (col x p.first) (col x p.second) in
        let g : (j : ℕ) → j < 3 → Grid 21 (gap j) = λ j l. (gap_grid j l).0 in
        let q : ℕ → Float = λ j. gap j ⊗ gap j in
        let s : (j : ℕ) (l : j < 3) → Within 42 (q j) = λ j l. square_within (gap j) (g j l) in
        let t : (j : ℕ) (l : j < 3) → Tall (q j) = λ j l. tall_square (gap j) (g j l) in
        let two = q 0 ⊕ q 1 in
        let near : Within 43 two = add_within 42 (q 0) (q 1) (lit≤ tt) (s 0 (lit< tt)) (s 1 (lit< tt)) in
        let far : Within 44 (two ⊕ q 2) =
        add_within 43 two (q 2) (lit≤ tt) near (within_more 42 43 (q 2) (lit≤ tt) (s 2 (lit< tt))) in
        let a : Tall two = tall_sum (q 0) (q 1) (t 0 (lit< tt)) (t 1 (lit< tt)) (within_finite 43 two near) in
        let b : Tall (two ⊕ q 2) = tall_sum two (q 2) a (t 2 (lit< tt)) (within_finite 44 (two ⊕ q 2) far) in
        and_i (of_three normal_or_zero v && of_three exact_square v) (normal_or_zero two && normal_or_zero (two ⊕ q 2))
        (and_i (of_three normal_or_zero v) (of_three exact_square v)
        (three_all normal_or_zero v (λ j l. grid_settled 21 (gap j) (gap_grid j l).1 (g j l)))
        (three_all exact_square v (λ j l. grid_square (gap j) (g j l))))
        (and_i (normal_or_zero two) (normal_or_zero (two ⊕ q 2)) (tall_settled two (add-fits binary32 _ _) a)
        (tall_settled (two ⊕ q 2) (add-fits binary32 _ _) b))

  pub grid_gaps : (split : ℕ) → T (exact_gaps x split)
  unfolding exact_gaps
  grid_gaps split =
      pairs_keep (λ (so : Bool). T so) (λ (so : Bool) (p : Cross). so && exact_gap x p) split
      (λ so p c t. and_i so (exact_gap x p) t (grid_gap p (omega arith) c.2)) true tt
