-- The product and the half in units of 2 ^ -149, that squares are in the order of what is squared, and what a correctly
-- rounded root is. Assumes nothing.
use mathlib.Core.Path.{◌≡◌, refl, sym, ap, ◌∙◌, subst}
use mathlib.Core.Bool.{Bool, true, false}
use Prim.Native.Nat.{ℕ, ◌+◌, ◌-◌, ◌*◌, ◌^◌, ◌≤◌, ◌<◌}
use native.Mathlib.Nat.{lt_of_le_of_lt, zero-mul, mul-zero, mul_assoc, mul-mul-mul_comm, mul-pos, mul-le-mul}
use native.Mathlib.Nat.{mul-le-mul_right}
use native.Mathlib.Omega.{arith}
use lib.IntN.{ℤ}
use lib.Dec.{T, lit<}
use lib.Pow.{pow_pos}
use lib.Ieee.{Float, fin, binary32, up, down, round, mul, le, unlike, of_bits, inf, nan}
use lib.Ieee.Fits.{down_pos}
use Rattle.number.specs.Number.{half32}
use Rattle.number.proofs.Rounding.{rnd, rnd_mono, rnd_same, rnd_fix}
use Rattle.number.proofs.Units.{L, Top, Is, size_is, says_le}
use Rattle.number.proofs.Sums.{round_at, to_is, to_is_minus}

mul_opens : (s : Bool) (m : ℕ) (e : ℤ) (t : Bool) (n : ℕ) (d : ℤ)
    → mul binary32 (fin s m e) (fin t n d) ≡ round binary32 (unlike s t) (m * up e * (n * up d)) (down e * down d)
unfolding mul
mul_opens s m e t n d = refl

in_units : (m : ℕ) (e : ℤ) (n : ℕ) (d : ℤ) (u v : ℕ) → m * up e * L ≡ u * down e → n * up d * L ≡ v * down d
    → rnd (m * up e * (n * up d) * L) (down e * down d) ≡ rnd (u * v) L
in_units m e n d u v p q =
    rnd_same (m * up e * (n * up d) * L) (down e * down d) (u * v) L (mul-pos (down_pos e) (down_pos d)) (pow_pos 149)
    (mul_assoc (m * up e * (n * up d)) L L ∙ mul-mul-mul_comm (m * up e) (n * up d) L L
    ∙ ap (λ (x : ℕ). x * (n * up d * L)) p ∙ ap (λ (x : ℕ). u * down e * x) q
    ∙ mul-mul-mul_comm u (down e) v (down d))

rnd_none : rnd 0 L ≡ 0
rnd_none = rnd_fix 0 L (pow_pos 149) (0, 0, lit< tt, refl)

pub mul_is : (x y : Float) (u v : ℕ) → Is x u → Is y v → rnd (u * v) L < Top → Is (mul binary32 x y) (rnd (u * v) L)
mul_is nan y u v p q h = elim p [ ]
mul_is (inf _) y u v p q h = elim p [ ]
mul_is (fin s m e) nan u v p q h = elim q [ ]
mul_is (fin s m e) (inf _) u v p q h = elim q [ ]
mul_is (fin s m e) (fin t n d) u v p q h =
    let k = in_units m e n d u v (size_is s m e u p) (size_is t n d v q) in
    subst (λ (z : ℕ). Is (mul binary32 (fin s m e) (fin t n d)) z) k
    (subst (λ (z : Float). Is z (rnd (num * L) den)) (sym (mul_opens s m e t n d)) (go s t p q k))
  where
    num : ℕ
    num = m * up e * (n * up d)

    den : ℕ
    den = down e * down d

    plain : rnd (num * L) den ≡ rnd (u * v) L → Is (round binary32 false num den) (rnd (num * L) den)
    plain k =
        to_is (round binary32 false num den) (rnd (num * L) den)
        (round_at false num den (subst (λ (z : ℕ). z < Top) (sym k) h))

    minus : rnd (num * L) den ≡ rnd (u * v) L → u * v ≡ 0 → Is (round binary32 true num den) (rnd (num * L) den)
    minus k z =
        to_is_minus (round binary32 true num den) (rnd (num * L) den) (k ∙ ap (λ (x : ℕ). rnd x L) z ∙ rnd_none)
        (round_at true num den (subst (λ (z : ℕ). z < Top) (sym k) h))

    go : (s t : Bool) → Is (fin s m e) u → Is (fin t n d) v → rnd (num * L) den ≡ rnd (u * v) L
        → Is (round binary32 (unlike s t) num den) (rnd (num * L) den)
    go false false p q k = plain k
    go true true p q k = plain k
    go false true p q k = minus k (ap (λ (x : ℕ). u * x) q.1 ∙ mul-zero u)
    go true false p q k = minus k (ap (λ (x : ℕ). x * v) p.1 ∙ zero-mul v)

-- ---- the half
half_units : Is half32 (2 ^ 148)
unfolding of_bits
half_units = refl

pub half_is : (y : Float) (v : ℕ) → Is y v → rnd v 2 < Top → Is (mul binary32 half32 y) (rnd v 2)
half_is y v q h =
    let e : rnd (2 ^ 148 * v) L ≡ rnd v 2 =
    rnd_same (2 ^ 148 * v) L v 2 (pow_pos 149) (pow_pos 1) (swap (2 ^ 148) v) in
    subst (λ (z : ℕ). Is (mul binary32 half32 y) z) e
    (mul_is half32 y (2 ^ 148) v half_units q (subst (λ (z : ℕ). z < Top) (sym e) h))
  where
    swap : (p v : ℕ) → p * v * 2 ≡ v * (p * 2)
    swap p v = omega arith

-- ---- squares are in the order of what is squared
pub square_le : (x y : Float) (u v : ℕ) → Is x u → Is y v → u ≤ v → rnd (v * v) L < Top
    → T (le (mul binary32 x x) (mul binary32 y y))
square_le x y u v p q h t =
    let k : rnd (u * u) L ≤ rnd (v * v) L =
    rnd_mono (u * u) L (v * v) L (pow_pos 149) (pow_pos 149) (mul-le-mul_right L (mul-le-mul h h)) in
    says_le (mul binary32 x x) (mul binary32 y y) (rnd (u * u) L) (rnd (v * v) L)
    (mul_is x x u u p p (lt_of_le_of_lt k t)) (mul_is y y v v q q t) k

-- ---- a correctly rounded root: R is q * 2 ^ k with q of 24 digits, and the exact root of n is off by at most a half
-- of 2 ^ k
pub record Root (n R : ℕ) : Type 0 where
  pub k : ℕ
  pub q : ℕ
  pub is : R ≡ q * 2 ^ k
  pub digits : 2 ^ 23 ≤ q
  pub low : n * 4 ≤ (R * 2 + 2 ^ k) * (R * 2 + 2 ^ k)
  pub high : (R * 2 - 2 ^ k) * (R * 2 - 2 ^ k) ≤ n * 4
