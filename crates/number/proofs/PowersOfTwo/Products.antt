-- The product with 2 ^ k, for every whole number k: its sign and its units; and `Times` as a product. Assumes nothing.
use mathlib.Core.Path.{◌≡◌, refl, sym, ap, ◌∙◌, subst}
use mathlib.Core.Bool.{Bool, true, false}
use Prim.Native.Nat.{ℕ, suc, ◌+◌, ◌*◌, ◌^◌, ◌≤◌, ◌<◌}
use native.Mathlib.Nat.{le_trans, le_of_eq, le_of_lt, lt_of_not-le, not-le_of_lt, mul-one, mul_assoc, mul-pos}
use native.Mathlib.Nat.{mul-le-mul_right, eq_of_mul-eq-mul_right, zero-mul}
use native.Mathlib.Omega.{arith}
use lib.Dec.{T, lit<}
use lib.IntN.{ℤ, pos, negsuc}
use lib.Pow.{pow-add, pow_pos}
use lib.Ieee.{Float, fin, binary32, up, down, unlike, round, mul, fits, inf, nan}
use lib.Ieee.Exact.{HasValue}
use lib.Ieee.Fits.{down_pos}
use lib.Ieee.Scale.{finite, round_same}
use Rattle.number.specs.Number.{◌⊗◌}
use Rattle.number.proofs.Rounding.{rnd, Rep, rnd_mono, rnd_same, rnd_fix, rnd_own, rep_grid}
use Rattle.number.proofs.Units.{L}
use Rattle.number.proofs.Zeros.{Zero, round_none}
use Rattle.number.proofs.Signed.{round_value, value_own}
use Rattle.number.proofs.PowersOfTwo.Times.{Times, rnd_power}

abbrev power : ℤ → Float
power k = fin false 1 k

product_round : (k : ℤ) (x : Float) (s : Bool) (u : ℕ) → HasValue x s u L
    → x ⊗ power k ≡ round binary32 s (u * up k) (L * down k)
unfolding mul
product_round k nan s u p = elim p [ ]
product_round k (inf _) s u p = elim p [ ]
product_round k (fin r m e) s u p =
    ap (λ (b : Bool). round binary32 b (m * up e * (1 * up k)) (down e * down k)) (own r p.0)
    ∙ round_same binary32 s (m * up e * (1 * up k)) (down e * down k) (u * up k) (L * down k)
    (mul-pos (down_pos e) (down_pos k)) (mul-pos (pow_pos 149) (down_pos k))
    (regroup (m * up e) (up k) L u (down e) (down k) p.1)
  where
    own : (r : Bool) → r ≡ s → unlike r false ≡ s
    own true e = e
    own false e = e

    regroup : (a b l u d k : ℕ) → a * l ≡ u * d → a * (1 * b) * (l * k) ≡ u * b * (d * k)
    regroup a b l u d k p = omega (arith, ap (λ (x : ℕ). x * (b * k)) p)

-- the product has the number's sign, and its units are rounded
pub product_value : (k : ℤ) (x : Float) (s : Bool) (u : ℕ) → HasValue x s u L → T (finite (x ⊗ power k))
    → HasValue (x ⊗ power k) s (rnd (u * up k) (down k)) L
product_value k x s u p f =
    let e = product_round k x s u p in
    subst (λ (z : Float). HasValue z s (rnd (u * up k) (down k)) L) (sym e)
    (subst (λ (w : ℕ). HasValue (round binary32 s (u * up k) (L * down k)) s w L)
    (rnd_same (u * up k * L) (L * down k) (u * up k) (down k) (mul-pos (pow_pos 149) (down_pos k)) (down_pos k)
    (mul_assoc (u * up k) L (down k)))
    (round_value s (u * up k) (L * down k) (subst (λ (z : Float). T (finite z)) e f)))

pub product_zero : (k : ℤ) (x : Float) (s : Bool) → HasValue x s 0 L → Zero (x ⊗ power k)
product_zero k x s p =
    subst Zero (sym (product_round k x s 0 p))
    (round_none s (0 * up k) (L * down k) (zero-mul (up k)) (mul-pos (pow_pos 149) (down_pos k)))

-- a product of more than 2 ^ 23 units is not rounded
pub product_exact : (k : ℤ) (u : ℕ) → Rep u → 2 ^ 23 < rnd (u * up k) (down k)
    → rnd (u * up k) (down k) * down k ≡ u * up k
product_exact (pos t) u r l = mul-one (rnd (u * 2 ^ t) 1) ∙ rnd_power u t ∙ ap (λ (n : ℕ). n * 2 ^ t) (rnd_own u r)
product_exact (negsuc n) u r l = whole (rep_grid u (suc n) r (le_of_lt tall))
  where
    P : ℕ
    P = 2 ^ suc n

    tall : 2 ^ (23 + suc n) < u
    tall = lt_of_not-le (λ (g : u ≤ 2 ^ (23 + suc n)). not-le_of_lt l
        (le_trans (rnd_mono (u * 1) P (2 ^ 23 * P) P (pow_pos (suc n)) (pow_pos (suc n))
        (mul-le-mul_right P (le_trans (le_of_eq (mul-one u)) (le_trans g (le_of_eq (pow-add 2 23 (suc n)))))))
        (le_of_eq (rnd_fix (2 ^ 23) P (pow_pos (suc n)) (2 ^ 23, 0, lit< tt, refl)))))

    whole : (z : ℕ) × (u ≡ z * P) → rnd (u * 1) P * P ≡ u * 1
    whole (z, e) =
        ap (λ (m : ℕ). m * P)
        (rnd_same (u * 1) P z 1 (pow_pos (suc n)) (pow_pos 0) (mul-one (u * 1) ∙ mul-one u ∙ e)
        ∙ eq_of_mul-eq-mul_right P (pow_pos (suc n)) (rnd z 1) z
        (sym (rnd_power z (suc n)) ∙ ap (λ (m : ℕ). rnd m 1) (sym e) ∙ rnd_own u r ∙ e))
        ∙ sym (mul-one u ∙ e)

-- an f32 of w units, which are 2 ^ k times u, is the product
product_is : (k : ℤ) (x y : Float) (s : Bool) (u w : ℕ) → HasValue x s u L → HasValue y s w L → T (fits binary32 y)
    → w * down k ≡ u * up k → x ⊗ power k ≡ y
product_is k x y s u w p q f h =
    product_round k x s u p
    ∙ round_same binary32 s (u * up k) (L * down k) w L (mul-pos (pow_pos 149) (down_pos k)) (pow_pos 149)
    (regroup (u * up k) L w (down k) h)
    ∙ sym (value_own y s w f q)
  where
    regroup : (a l w k : ℕ) → w * k ≡ a → a * l ≡ w * (l * k)
    regroup a l w k h = omega (arith, ap (λ (x : ℕ). x * l) h)

pub times_up : (t : ℕ) (x y : Float) → Times t x y → T (fits binary32 y) → x ⊗ power (pos t) ≡ y
times_up t x y p f =
    product_is (pos t) x y p.sign p.units (p.units * 2 ^ t) p.small p.large f (mul-one (p.units * 2 ^ t))

pub times_down : (n : ℕ) (x y : Float) → Times (suc n) x y → T (fits binary32 x) → y ⊗ power (negsuc n) ≡ x
times_down n x y p f =
    product_is (negsuc n) y x p.sign (p.units * 2 ^ suc n) p.units p.large p.small f
    (sym (mul-one (p.units * 2 ^ suc n)))
