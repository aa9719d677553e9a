-- The product of a scaling's factors is its first factor, bit for bit: eighths of a number above 8 and products by 8
-- are exact, so what is taken out comes back. Assumes nothing.
use Prim.Native.Nat.{ℕ, zero, suc, ◌+◌, ◌-◌, ◌*◌, ◌^◌, ◌≤◌, ◌<◌, zero-le}
use native.Mathlib.Nat.{mul-one, one-mul, mul_assoc, mul_comm, mul-pos, mul_right_comm, lt_of_lt_of_le, le_of_eq}
use native.Mathlib.Nat.{le_of_lt, not-le_of_lt, le_trans, lt_of_le_of_lt, mul-le-mul_left}
use native.Mathlib.Omega.{arith}
use native.Mathlib.Decide.{dec_le}
use mathlib.Core.Path.{◌≡◌, refl, sym, ap, ◌∙◌, subst}
use mathlib.Core.Bool.{Bool, true, false, not}
use lib.Dec.{T, lit<, lit≤}
use lib.Pow.{pow-add, pow_pos, pow_mono, pow-lt, shl_lt}
use lib.Ieee.{Float, fin, binary32, up, down, round, div, lt, fits, of_bits, inf, nan}
use lib.Ieee.Fits.{mul-fits, down_pos}
use Rattle.number.specs.Number.{◌⊗◌, ◌⊘◌, zero32, one32, is_finite}
use Rattle.number.proofs.Rounding.{rnd, Rep, rnd_fix}
use Rattle.number.proofs.Units.{Top, plus, of_float, same_float, zero_is, one_is}
use Rattle.number.proofs.Units.Compared.{L, Is, lt_says}
use Rattle.number.proofs.Sums.Rounded.{round_at, to_is, round_units}
use Rattle.number.proofs.Products.{mul_is}
use Rattle.number.proofs.Comparing.{lt_le}
use Rattle.number.proofs.Finite.{is_finite_lem}
use Rattle.motion.specs.declared.factors.Factors.{Factors}
use Rattle.motion.specs.Motion.{eight32, eighths, most_eights, factors_of}
use Rattle.motion.proofs.Eighths.{eighths_turn, eighths_stop}

-- a positive number of units has the sign plus
units_plus : (x : Float) (u : ℕ) → Is x u → 0 < u → T (plus x)
units_plus nan u i p = elim i [ ]
units_plus (inf _) u i p = elim i [ ]
units_plus (fin false m e) u i p = tt
units_plus (fin true m e) u i p = none u i.1 p
  where
    none : (u : ℕ) → u ≡ 0 → 0 < u → ⊥
    none u e p = omega arith

-- 8, and a power of two, in units
eight_is : Is eight32 (2 ^ 3 * L)
unfolding of_bits
eight_is = refl

power_rep : (a : ℕ) → Rep (2 ^ a * L)
power_rep a = (1, a + 149, lit< tt, sym (pow-add 2 a 149) ∙ sym (one-mul (2 ^ (a + 149))))

-- a number of 24 digits that is large enough is eight times such a number
rep_eighth : (v : ℕ) → Rep v → 2 ^ 26 ≤ v → (w : ℕ) × (v ≡ w * 8) × Rep w
rep_eighth v (q, j, small, e) h = go (dec_le 3 j)
  where
    back : (j : ℕ) → 3 ≤ j → j ≡ j - 3 + 3
    back j l = omega arith

    low : (j : ℕ) → (3 ≤ j → ⊥) → 24 + j ≤ 26
    low j l = omega arith

    go : Dec (3 ≤ j) → (w : ℕ) × (v ≡ w * 8) × Rep w
    go (yes l) = (
      q * 2 ^ (j - 3),
      e ∙ ap (λ (n : ℕ). q * 2 ^ n) (back j l) ∙ ap (λ (n : ℕ). q * n) (pow-add 2 (j - 3) 3)
          ∙ sym (mul_assoc q (2 ^ (j - 3)) 8),
      (q, j - 3, small, refl),
    )
    go (no l) =
        absurd (not-le_of_lt (lt_of_lt_of_le (subst (λ (n : ℕ). n < 2 ^ (24 + j)) (sym e) (shl_lt 24 j small))
        (pow_mono (low j l))) h)

-- an eighth that needs no rounding
eighth_is : (f : Float) (v w : ℕ) → Is f v → 0 < v → v ≡ w * 8 → Rep w → w < Top → Is (f ⊘ eight32) w
unfolding div of_bits
eighth_is nan v w i p h r t = elim i [ ]
eighth_is (inf _) v w i p h r t = elim i [ ]
eighth_is (fin true m e) v w i p h r t = absurd (units_plus (fin true m e) v i p)
eighth_is (fin false m e) v w i p h r t =
    let num = m * up e * 1 in
    let den = 8 * down e in
    let same : num * L ≡ w * den =
    ap (λ (n : ℕ). n * L) (mul-one (m * up e)) ∙ i ∙ ap (λ (n : ℕ). n * down e) h ∙ mul_assoc w 8 (down e)
    in
    let fixed : rnd (num * L) den ≡ w =
    round_units num den w (mul-pos (pow_pos 3) (down_pos e)) same
    ∙ ap (λ (n : ℕ). rnd n 1) (sym (mul-one w)) ∙ rnd_fix w 1 (pow_pos 0) r
    in
    subst (Is (round binary32 false num den)) fixed
    (to_is (round binary32 false num den) (rnd (num * L) den)
    (round_at false num den (subst (λ (n : ℕ). n < Top) (sym fixed) t)))

-- a product by a power of two that needs no rounding
power_is : (a : ℕ) (p f : Float) (v u : ℕ) → Is p (2 ^ a * L) → Is f v → v * 2 ^ a ≡ u → Rep u → u < Top
    → Is (p ⊗ f) u
power_is a p f v u i j h r t =
    let fixed : rnd (2 ^ a * L * v) L ≡ u =
    ap (λ (n : ℕ). rnd n L)
    (mul_right_comm (2 ^ a) L v ∙ ap (λ (n : ℕ). n * L) (mul_comm (2 ^ a) v ∙ h)) ∙ rnd_fix u L (pow_pos 149) r
    in
    subst (Is (p ⊗ f)) fixed (mul_is p f (2 ^ a * L) v i j (subst (λ (n : ℕ). n < Top) (sym fixed) t))

-- f is v units and p the product of n factors of 8: together they are u units, and so is the product at the end
pub record Whole (u n : ℕ) (f p : Float) : Type 0 where
  pub v : ℕ
  pub is : Is f v
  pub rep : Rep v
  pub product : Is p (2 ^ (3 * n) * L)
  pub all : v * 2 ^ (3 * n) ≡ u

-- 8 times 2 ^ (3 n)
next_power : (n : ℕ) → 2 ^ (3 * suc n) ≡ 8 * 2 ^ (3 * n)
next_power n = ap (λ (k : ℕ). 2 ^ k) (three n) ∙ pow-add 2 3 (3 * n)
  where
    three : (n : ℕ) → 3 * suc n ≡ 3 + 3 * n
    three n = omega arith

power_under : (n : ℕ) → n < most_eights → 2 ^ (3 * suc n) * L < Top
power_under n h =
    subst (λ (k : ℕ). k < Top) (pow-add 2 (3 * suc n) 149) (pow-lt {i = 3 * suc n + 149} {j = 277} (room n h))
  where
    room : (n : ℕ) → n < most_eights → 3 * suc n + 149 < 277
    room n h = omega arith

-- an f32 of u units
abbrev Are : ℕ → Float → Type 0
Are u y = Is y u × T (fits binary32 y)

module _ (u : ℕ) (r : Rep u) (t : u < Top) where
  -- an eighth of what is left is no more than all
  eighth_under : (n v w : ℕ) → v ≡ w * 8 → v * 2 ^ (3 * n) ≡ u → w < Top
  eighth_under n v w h k =
      lt_of_le_of_lt (le_trans (eightfold w) (le_of_eq (sym h)))
      (lt_of_le_of_lt (le_trans (le_of_eq (sym (mul-one v))) (mul-le-mul_left v (pow_pos (3 * n))))
      (lt_of_le_of_lt (le_of_eq k) t))
    where
      eightfold : (w : ℕ) → w ≤ w * 8
      eightfold w = omega arith

  whole_next : (n : ℕ) (f p : Float) → n < most_eights → Whole u n f p → T (lt eight32 f)
      → Whole u (suc n) (f ⊘ eight32) (p ⊗ eight32)
  whole_next n f p h k above =
      let v = k.v in
      let big = lt_says eight32 f (2 ^ 3 * L) v eight_is k.is above in
      let part = rep_eighth v k.rep (le_trans (lit≤ tt) (le_of_lt big)) in
      let w = part.0 in
      record {
        v = w;
        is = eighth_is f v w k.is (lt_of_le_of_lt zero-le big) part.1 part.2
            (eighth_under n v w part.1 k.all);
        rep = part.2;
        product =
            power_is (3 * n) p eight32 (2 ^ 3 * L) (2 ^ (3 * suc n) * L) k.product eight_is
            (mul_right_comm 8 L (2 ^ (3 * n)) ∙ ap (λ (m : ℕ). m * L) (sym (next_power n))) (power_rep (3 * suc n))
            (power_under n h);
        all =
            ap (λ (m : ℕ). w * m) (next_power n) ∙ sym (mul_assoc w 8 (2 ^ (3 * n)))
            ∙ ap (λ (m : ℕ). m * 2 ^ (3 * n)) (sym part.1) ∙ k.all;
      }

  ended : (n : ℕ) (f p : Float) → Whole u n f p → Are u (p ⊗ f)
  ended n f p k = (power_is (3 * n) p f k.v u k.product k.is k.all r t, mul-fits binary32 p f)

  product_are : (k n : ℕ) (f p : Float) → n + k ≡ most_eights → Whole u n f p → Are u (eighths k n f p).product
  unfolding eighths
  product_are zero n f p e h = ended n f p h
  product_are (suc k) n f p e h =
      go (lt eight32 f) (λ t. t) (λ t. t) (λ w. product_are k (suc n) (f ⊘ eight32) (p ⊗ eight32) (omega arith) w)
    where
      go : (b : Bool) → (T b → T (lt eight32 f)) → (T (not b) → T (not (lt eight32 f)))
          → (Whole u (suc n) (f ⊘ eight32) (p ⊗ eight32)
          → Are u (eighths k (suc n) (f ⊘ eight32) (p ⊗ eight32)).product)
          → Are u (eighths (suc k) n f p).product
      go true above stays rest =
          subst (λ (s : Factors). Are u s.product) (sym (eighths_turn k n f p (above tt)))
          (rest (whole_next n f p (omega arith) h (above tt)))
      go false above stays rest =
          subst (λ (s : Factors). Are u s.product) (sym (eighths_stop (suc k) n f p (stays tt))) (ended n f p h)

pub product_exact : (f : Float) → T (fits binary32 f) → T (is_finite f) → T (lt zero32 f) → (factors_of f).product ≡ f
unfolding factors_of
product_exact f h k a =
    let d = of_float f h (subst T (is_finite_lem f) k) (lt_le zero32 f a) in
    let u = d.0 in
    let some = lt_says zero32 f 0 u zero_is d.1.is a in
    let whole : Whole u 0 f one32 =
    record { v = u; is = d.1.is; rep = d.1.rep; product = one_is; all = mul-one u }
    in
    let r = product_are u d.1.rep d.1.under most_eights 0 f one32 refl whole in
    let p = (factors_of f).product in
    same_float p f u r.1 h (units_plus p u r.0 some) (units_plus f u d.1.is some) r.0 d.1.is
