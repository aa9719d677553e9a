-- The pattern that `root_bits` makes is that of the nearest root. Assumes nothing.
use mathlib.Core.Path.{◌≡◌, sym, ap, ◌∙◌, subst}
use mathlib.Core.Logic.{inl, inr}
use mathlib.Core.Bool.{not}
use Prim.Native.Nat.{ℕ, ◌+◌, ◌-◌, ◌*◌, ◌/◌, ◌%◌, ◌^◌, ◌≤◌, ◌<◌}
use native.Mathlib.Nat.{le_trans, le_of_eq, lt_of_lt_of_le, lt_of_le_of_lt, lt_irrefl, eq-or-lt_of_le, add-sub_cancel}
use native.Mathlib.Nat.{add-mul, one-mul, mul_assoc, mul-mul-mul_comm, mul-le-mul_right, mul-lt-mul_of_pos_right}
use native.Mathlib.Nat.{mul-pos}
use native.Mathlib.Omega.{arith}
use lib.Dec.{T, not_T}
use lib.Pow.{pow-add, pow_pos}
use lib.Ieee.{Float, binary32, lt, of_bits}
use Rattle.number.specs.Number.{zero32, is_finite, inf_bits, units_of, twice_middle, twice_root_squared, root_at_least}
use Rattle.number.specs.Number.{root_of}
use Rattle.number.specs.Inner.{RootBits, whole_of}
use Rattle.number.proofs.Numbers.{square_mono}
use Rattle.number.proofs.Units.{L}
use Rattle.number.proofs.Patterns.{val, weight, val_step}
use Rattle.number.proofs.SquareRoot.Digits.{whole_ge}
use Rattle.number.proofs.SquareRoot.Nearest.{middle_is, reached, reach, root_at_lem}

-- the weight of the last of the root's digits
abbrev pub unit : ℕ → ℕ
unit k = 2 ^ (k / 2 + 51)

-- the root's square in units, with the weight taken out
pub whole_scale : (p k : ℕ) → p * 2 ^ (k + 125) ≡ whole_of p k * (unit k * unit k)
whole_scale p k =
    let j = k / 2 + 51 in
    ap (λ (n : ℕ). p * 2 ^ n) (split k)
    ∙ ap (λ (n : ℕ). p * n) (pow-add 2 (23 + k % 2) (j + j) ∙ ap (λ (n : ℕ). 2 ^ (23 + k % 2) * n) (pow-add 2 j j))
    ∙ sym (mul_assoc p (2 ^ (23 + k % 2)) (2 ^ j * 2 ^ j))
  where
    split : (k : ℕ) → k + 125 ≡ 23 + k % 2 + (k / 2 + 51 + (k / 2 + 51))
    split k = omega arith

module _ (p k b : ℕ) (low : 2 ^ 23 ≤ p) (high : p < 2 ^ 24) (short : k < 300) (r : RootBits p k b) where
  abbrev q : ℕ
  q = r.digits

  abbrev w : ℕ
  w = unit k

  pub bits_lt : b + 1 < inf_bits
  bits_lt = let m = r.made in let h = r.high in omega arith

  weight_is : weight b ≡ k / 2 + 51
  weight_is = let m = r.made in let h = r.high in let l = r.low in omega arith

  pub val_is : val b ≡ q * w
  val_is =
      ap (λ (j : ℕ). (b - j * 8388608) * 2 ^ j) weight_is ∙ ap (λ (n : ℕ). n * w) (let m = r.made in omega arith)

  above : twice_middle (b + 1) ≡ (2 * q + 1) * w
  above =
      middle_is (b + 1) bits_lt
      ∙ ap (λ (n : ℕ). val n + val (b + 1)) (add-sub_cancel b 1)
      ∙ ap (λ (n : ℕ). val b + n) (val_step b ∙ ap (λ (j : ℕ). val b + 2 ^ j) weight_is)
      ∙ ap (λ (n : ℕ). n + (n + w)) val_is
      ∙ regroup q w
    where
      regroup : (q w : ℕ) → q * w + (q * w + w) ≡ (2 * q + 1) * w
      regroup q w = let e = add-mul (2 * q) 1 w in let f = mul_assoc 2 q w in let g = one-mul w in omega arith

  back : b - 1 + 1 ≡ b
  back = let m = r.made in let l = r.low in omega arith

  -- what the pattern before adds up to
  before : val (b - 1) + 2 ^ weight (b - 1) ≡ q * w
  before = sym (val_step (b - 1)) ∙ ap val back ∙ val_is

  below_is : twice_middle b ≡ val (b - 1) + q * w
  below_is = middle_is b (omega (arith, bits_lt)) ∙ ap (λ (n : ℕ). val (b - 1) + n) val_is

  square : (a : ℕ) → a * w * (a * w) ≡ a * a * (w * w)
  square a = mul-mul-mul_comm a w a w

  ww : 0 < w * w
  ww = mul-pos (pow_pos (k / 2 + 51)) (pow_pos (k / 2 + 51))

  -- the middle below, squared: at the lowest digits the pattern before is half as far
  below_lowest : 2 ^ 23 ≡ q → twice_middle b * twice_middle b < 4 * whole_of p k * (w * w)
  below_lowest e =
      let f = below_is in
      let g = before in
      let z = pow_pos (weight (b - 1)) in
      let t = mul_assoc 2 q w in
      let less : twice_middle b < 2 * q * w = omega arith in
      let h = whole_ge p k low high in
      let big : 2 * q * (2 * q) ≤ 4 * whole_of p k =
      le_trans (le_of_eq (ap (λ (n : ℕ). 2 * n * (2 * n)) (sym e))) (omega arith) in
      lt_of_lt_of_le (square_mono (twice_middle b) (2 * q * w) less)
      (le_trans (le_of_eq (square (2 * q))) (mul-le-mul_right (w * w) big))

  below_other : 2 ^ 23 < q → twice_middle b * twice_middle b < 4 * whole_of p k * (w * w)
  below_other l =
      let m = r.made in
      let h = r.high in
      let j : weight (b - 1) ≡ k / 2 + 51 = omega arith in
      let f : twice_middle b ≡ (2 * q - 1) * w =
      below_is ∙ regroup (val (b - 1)) q w (subst (λ (i : ℕ). val (b - 1) + 2 ^ i ≡ q * w) j before) (omega arith) in
      lt_of_le_of_lt (le_of_eq (ap (λ (n : ℕ). n * n) f ∙ square (2 * q - 1))) (mul-lt-mul_of_pos_right r.under ww)
    where
      regroup : (s q w : ℕ) → s + w ≡ q * w → 1 ≤ q → s + q * w ≡ (2 * q - 1) * w
      regroup s q w e h =
          let a : (2 * q - 1 + 1) * w ≡ (2 * q - 1) * w + 1 * w = add-mul (2 * q - 1) 1 w in
          let c : (2 * q - 1 + 1) * w ≡ 2 * q * w = ap (λ (n : ℕ). n * w) (omega arith) in
          let f = mul_assoc 2 q w in
          let g = one-mul w in
          last s (q * w) ((2 * q - 1) * w) w (2 * q * w) ((2 * q - 1 + 1) * w) (1 * w) e a c f g
        where
          last : (s t v w d y o : ℕ) → s + w ≡ t → y ≡ v + o → y ≡ d → d ≡ 2 * t → o ≡ w → s + t ≡ v
          last s t v w d y o a b c d' e = omega arith

  below_sq : twice_middle b * twice_middle b < 4 * whole_of p k * (w * w)
  below_sq = elim (eq-or-lt_of_le r.low) [ inl e ↦ below_lowest e | inr l ↦ below_other l ]

  above_sq : 4 * whole_of p k * (w * w) < twice_middle (b + 1) * twice_middle (b + 1)
  above_sq =
      lt_of_lt_of_le (mul-lt-mul_of_pos_right r.over ww)
      (le_of_eq (sym (ap (λ (n : ℕ). n * n) above ∙ square (2 * q + 1))))

  module _ (x : Float) (scale : units_of x * L ≡ p * 2 ^ (k + 125)) where
    target : twice_root_squared x ≡ 4 * whole_of p k * (w * w)
    unfolding twice_root_squared
    target = ap (λ (n : ℕ). 4 * n) (scale ∙ whole_scale p k) ∙ sym (mul_assoc 4 (whole_of p k) (w * w))

    pub is_reached : T (root_at_least x b)
    is_reached = reach x b (omega (arith, bits_lt)) (lt_of_lt_of_le below_sq (le_of_eq (sym target)))

    pub not_passed : T (not (root_at_least x (b + 1)))
    not_passed = not_T (root_at_least x (b + 1)) (λ (t : T (root_at_least x (b + 1))).
        lt_irrefl (twice_root_squared x)
        (lt_of_lt_of_le (lt_of_le_of_lt (le_of_eq target) above_sq) (reached x (b + 1) t).1))

    pub root_is : T (lt zero32 x) → T (is_finite x) → root_of x ≡ of_bits binary32 b
    root_is p f = root_at_lem x b p f is_reached not_passed
