-- The argument of the square root by its pattern: which patterns are above zero, what the definition answers
-- elsewhere, and the number of 24 digits whose root is taken, of a normal and of a subnormal argument.
-- Assumes nothing.
use mathlib.Core.Path.{◌≡◌, refl, sym, ap, ◌∙◌, subst}
use mathlib.Core.Bool.{Bool, true, false, cond, ◌&&◌, true≢false}
use Prim.Native.Nat.{ℕ, suc, ◌+◌, ◌-◌, ◌*◌, ◌/◌, ◌%◌, ◌^◌, ◌≤◌, ◌<◌}
use native.Mathlib.Nat.{le_trans, le_of_eq, lt_of_lt_of_le, lt_of_not-le, lt_irrefl}
use native.Mathlib.Nat.{mul_assoc, mul-one, mul-le-mul_right}
use native.Mathlib.Omega.{arith}
use lib.Dec.{T, ltb→lt}
use lib.Pow.{pow-add, pow_mono, shl_lt, shl_exact}
use lib.Count.{count_leading_zeros, leading_top}
use lib.Ieee.{Float, nan, inf, fin, binary32, up, down, lt, fits, of_bits, to_bits}
use lib.Ieee.Bits.{of_bits-to_bits}
use Rattle.number.specs.Number.{zero32, is_finite, inf_bits, units_of, root_at_least, last, root_of}
use Rattle.number.proofs.Units.{L, Is}
use Rattle.number.proofs.Patterns.{val, weight, bits_are}
use Rattle.number.proofs.Neighbours.{above_bits}
use Rattle.number.proofs.SquareRoot.Nearest.{units_bits}

-- ---- where the definition answers zero
pub not_above : (x : Float) → lt zero32 x ≡ false → zero32 ≡ root_of x
unfolding root_of
not_above x h =
    sym (ap (λ (c : Bool). cond (c && is_finite x) (of_bits binary32 (last (root_at_least x) 31 0)) zero32) h)

pub not_finite : (x : Float) → is_finite x ≡ false → zero32 ≡ root_of x
unfolding root_of
not_finite x h =
    sym (ap (λ (c : Bool). cond (lt zero32 x && c) (of_bits binary32 (last (root_at_least x) 31 0)) zero32) h
    ∙ none (lt zero32 x))
  where
    none : (a : Bool) → cond (a && false) (of_bits binary32 (last (root_at_least x) 31 0)) zero32 ≡ zero32
    none true = refl
    none false = refl

below_not_above : (x : Float) → lt x zero32 ≡ true → lt zero32 x ≡ false
unfolding lt of_bits
below_not_above nan h = refl
below_not_above (inf true) h = refl
below_not_above (inf false) h = absurd (true≢false (sym h))
below_not_above (fin true m e) h = refl
below_not_above (fin false m e) h =
    absurd (none (m * up e) (down e) (ltb→lt (m * up e * 1) (0 * 1 * down e) (subst T (sym h) tt)))
  where
    none : (k d : ℕ) → k * 1 < 0 * 1 * d → ⊥
    none k d h = omega arith

pub below : (x : Float) → lt x zero32 ≡ true → zero32 ≡ root_of x
below x h = not_above x (below_not_above x h)

-- ---- the patterns of numbers above zero
module _ (x : Float) (f : T (fits binary32 x)) (a : T (lt zero32 x)) where
  abbrev b : ℕ
  b = to_bits binary32 x

  own : of_bits binary32 b ≡ x
  own = of_bits-to_bits binary32 x f

  inf_not : is_finite (inf false) ≡ false
  unfolding is_finite
  inf_not = refl

  -- the field of ones is the infinity's
  pub at_top : 255 ≤ b / 8388608 → is_finite x ≡ false
  unfolding of_bits
  at_top h =
      let l = above_bits x f a in
      let e : b ≡ inf_bits = omega arith in
      sym (ap is_finite (sym (ap (of_bits binary32) e) ∙ own)) ∙ inf_not

  pub finite_bits : b < inf_bits → T (is_finite x)
  unfolding is_finite
  finite_bits h = go x (subst (λ (y : Float). Is y (val b)) own (bits_are b h))
    where
      go : (y : Float) → Is y (val b) → T (is_finite y)
      go nan i = elim i [ ]
      go (inf _) i = elim i [ ]
      go (fin s m e) i = tt

  units_own : b < inf_bits → units_of x ≡ val b
  units_own h = ap units_of (sym own) ∙ units_bits b h

  -- ---- a normal argument
  pub scale_normal : b < inf_bits → 0 < b / 8388608
      → units_of x * L ≡ (b - weight b * 8388608) * 2 ^ (b / 8388608 + 23 + 125)
  scale_normal h p =
      let q = b - weight b * 8388608 in
      ap (λ (n : ℕ). n * L) (units_own h)
      ∙ mul_assoc q (2 ^ weight b) L
      ∙ ap (λ (n : ℕ). q * n) (sym (pow-add 2 (weight b) 149))
      ∙ ap (λ (n : ℕ). q * 2 ^ n) (exponents (b / 8388608) p)
    where
      exponents : (f : ℕ) → 0 < f → f - 1 + 149 ≡ f + 23 + 125
      exponents f p = omega arith

-- ---- a subnormal argument: the shift that brings its highest digit to the place of a normal one's
abbrev pub lift : ℕ → ℕ
lift d = count_leading_zeros 32 d - 8

pub record Raised (d : ℕ) : Type 0 where
  pub enough : 8 ≤ count_leading_zeros 32 d
  pub within : lift d ≤ 23
  pub low : 2 ^ 23 ≤ d * 2 ^ lift d
  pub high : d * 2 ^ lift d < 2 ^ 24
  pub exact : d * 2 ^ lift d % 4294967296 ≡ d * 2 ^ lift d

pub raised : (d : ℕ) → 0 < d → d < 8388608 → Raised d
raised d p h =
    let t = leading_top 32 d p (omega arith) in
    let j = t.0 in
    let e = t.1 in
    let J : j < 23 = lt_of_not-le (λ (g : 23 ≤ j). lt_irrefl d (lt_of_lt_of_le h (le_trans (pow_mono g) t.2))) in
    let s : j + lift d ≡ 23 = omega arith in
    let s' : suc j + lift d ≡ 24 = omega arith in
    record {
      enough = omega arith;
      within = omega arith;
      low =
          le_trans (le_of_eq (ap (λ (n : ℕ). 2 ^ n) (sym s) ∙ pow-add 2 j (lift d)))
          (mul-le-mul_right (2 ^ lift d) t.2);
      high = subst (λ (n : ℕ). d * 2 ^ lift d < 2 ^ n) s' (shl_lt (suc j) (lift d) t.3);
      exact = shl_exact (suc j) (lift d) 32 t.3 (omega arith);
    }

pub scale_subnormal : (x : Float) → T (fits binary32 x) → T (lt zero32 x) → (i : ℕ) → i ≤ 23
    → to_bits binary32 x / 8388608 ≡ 0
    → units_of x * L ≡ to_bits binary32 x * 2 ^ i * 2 ^ (24 - i + 125)
scale_subnormal x f a i l z =
    let b = to_bits binary32 x in
    ap (λ (n : ℕ). n * L) (units_own x f a (omega arith) ∙ plain b z)
    ∙ ap (λ (n : ℕ). b * 2 ^ n) (back i l)
    ∙ ap (λ (n : ℕ). b * n) (pow-add 2 i (24 - i + 125))
    ∙ sym (mul_assoc b (2 ^ i) (2 ^ (24 - i + 125)))
  where
    plain : (b : ℕ) → b / 8388608 ≡ 0 → val b ≡ b
    plain b z = ap (λ (w : ℕ). (b - w * 8388608) * 2 ^ w) (none b z) ∙ mul-one (b - 0 * 8388608) ∙ same b
      where
        none : (b : ℕ) → b / 8388608 ≡ 0 → weight b ≡ 0
        none b z = omega arith

        same : (b : ℕ) → b - 0 * 8388608 ≡ b
        same b = omega arith

    back : (i : ℕ) → i ≤ 23 → 149 ≡ i + (24 - i + 125)
    back i l = omega arith
