-- The square of a number multiplied by a power of two is multiplied by the power's square, where it is a normal f32,
-- 2 ^ -126 or more, or the number is zero; its product with another number, a normal f32, by the power. Assumes nothing.
use mathlib.Core.Path.{◌≡◌, refl, sym, ap, ◌∙◌, subst}
use mathlib.Core.Logic.{◌⊎◌, inl, inr}
use mathlib.Core.Bool.{Bool, true, false}
use Prim.Native.Nat.{ℕ, ◌+◌, ◌-◌, ◌*◌, ◌^◌, ◌≤◌, ◌<◌}
use native.Mathlib.Nat.{le_trans, le_of_eq, le_of_lt, le_of_suc-le-suc, lt_of_not-le, lt_of_lt_of_le, lt_of_le_of_lt}
use native.Mathlib.Nat.{not-le_of_lt, zero-mul, mul_assoc, mul-mul-mul_comm, mul-pos, mul-le-mul, mul-le-mul_right}
use native.Mathlib.Nat.{lt_of_mul-lt-mul_right, mul_right_comm}
use native.Mathlib.Decide.{dec_le}
use lib.Dec.{T, lit<, lit≤}
use lib.Pow.{pow-add, pow_pos}
use lib.Ieee.{Float, fin, binary32, up, down, unlike, size, round, mul, inf, nan}
use lib.Ieee.Exact.{HasValue}
use lib.Ieee.Fits.{down_pos}
use lib.Ieee.Scale.{finite, round_same, grid_scale, normal_of_fraction}
use Rattle.number.specs.Number.{◌⊗◌}
use Rattle.number.proofs.Numbers.{le_of_not_lt}
use Rattle.number.proofs.Rounding.{rnd, Rep, rnd_mono, rnd_same, rnd_fix, rep_grid}
use Rattle.number.proofs.Units.{L}
use Rattle.number.proofs.Signed.{round_value}
use Rattle.number.proofs.PowersOfTwo.Times.{Times, round_times}

-- u units are at least 2 ^ -63, or none
abbrev pub Squared : ℕ → Type 0
Squared u = (u ≡ 0) ⊎ (2 ^ 23 * L ≤ u * u)

-- what a product hands to `round`
mul_units : (x y : Float) (s r : Bool) (u v : ℕ) → HasValue x s u L → HasValue y r v L
    → x ⊗ y ≡ round binary32 (unlike s r) (u * v) (L * L)
unfolding mul
mul_units nan y s r u v p q = elim p [ ]
mul_units (inf _) y s r u v p q = elim p [ ]
mul_units (fin s' m e) nan s r u v p q = elim q [ ]
mul_units (fin s' m e) (inf _) s r u v p q = elim q [ ]
mul_units (fin s' m e) (fin r' n d) s r u v p q =
    ap (λ (b : Bool). round binary32 (unlike b r') (m * up e * (n * up d)) (down e * down d)) p.0
    ∙ ap (λ (b : Bool). round binary32 (unlike s b) (m * up e * (n * up d)) (down e * down d)) q.0
    ∙ round_same binary32 (unlike s r) (m * up e * (n * up d)) (down e * down d) (u * v) (L * L)
    (mul-pos (down_pos e) (down_pos d)) (mul-pos (pow_pos 149) (pow_pos 149))
    (mul-mul-mul_comm (m * up e) (n * up d) L L ∙ ap (λ (z : ℕ). z * (n * up d * L)) p.1
    ∙ ap (λ (z : ℕ). u * down e * z) q.1 ∙ mul-mul-mul_comm u (down e) v (down d))

square_units : (x : Float) (s : Bool) (u : ℕ) → HasValue x s u L → x ⊗ x ≡ round binary32 false (u * u) (L * L)
square_units x s u p = mul_units x x s s u u p p ∙ ap (λ (b : Bool). round binary32 b (u * u) (L * L)) (like s)
  where
    like : (s : Bool) → unlike s s ≡ false
    like true = refl
    like false = refl

-- the square's units
pub square_value : (x : Float) (s : Bool) (u : ℕ) → HasValue x s u L → T (finite (x ⊗ x))
    → HasValue (x ⊗ x) false (rnd (u * u) L) L
square_value x s u v f =
    let e = square_units x s u v in
    subst (λ (z : Float). HasValue z false (rnd (u * u) L) L) (sym e)
    (subst (λ (w : ℕ). HasValue (round binary32 false (u * u) (L * L)) false w L)
    (rnd_same (u * u * L) (L * L) (u * u) L (mul-pos (pow_pos 149) (pow_pos 149)) (pow_pos 149) (mul_assoc (u * u) L L))
    (round_value false (u * u) (L * L) (subst (λ (z : Float). T (finite z)) e f)))

-- A square that rounds to 2 ^ 23 units or more, a normal number, is not rounded up to that: the square of the largest
-- number below 2 ^ 86 units is nearer to 2 ^ 23 - 1.
pub square_large : (u : ℕ) → Rep u → 2 ^ 23 ≤ rnd (u * u) L → Squared u
unfolding size
square_large u r h = inr (le_of_not_lt (λ (l : u * u < 2 ^ 23 * L).
    not-le_of_lt (lit< {m = rnd (most * most) L} tt) (le_trans h (small (under l)))))
  where
    most : ℕ
    most = (2 ^ 24 - 1) * 2 ^ 62

    under : u * u < 2 ^ 23 * L → u ≤ most
    under l = go (dec_le (2 ^ 85) u)
      where
        below : u < 2 ^ 86
        below = lt_of_not-le (λ (g : 2 ^ 86 ≤ u). not-le_of_lt l (le_trans (lit≤ {m = 2 ^ 23 * L} tt) (mul-le-mul g g)))

        go : Dec (2 ^ 85 ≤ u) → u ≤ most
        go (yes g) =
            let (w, e) = rep_grid u 62 r g in
            let few : w < 2 ^ 24 =
            lt_of_mul-lt-mul_right (2 ^ 62)
            (lt_of_le_of_lt (le_of_eq (sym e)) (lt_of_lt_of_le below (lit≤ {m = 2 ^ 86} tt)))
            in
            le_trans (le_of_eq e) (mul-le-mul_right (2 ^ 62) (le_of_suc-le-suc few))
        go (no g) = le_trans (le_of_lt (lt_of_not-le g)) (lit≤ {m = 2 ^ 85} tt)

    small : u ≤ most → rnd (u * u) L ≤ rnd (most * most) L
    small g = rnd_mono (u * u) L (most * most) L (pow_pos 149) (pow_pos 149) (mul-le-mul_right L (mul-le-mul g g))

-- ---- multiplied
-- a product of n units squared is none, or at least 2 ^ -126
abbrev Normal : ℕ → Type 0
Normal n = (n ≡ 0) ⊎ (2 ^ 23 * L ≤ n)

round_scaled : (n t : ℕ) → Normal n → rnd (n * 2 ^ t * L) (L * L) ≡ rnd (n * L) (L * L) * 2 ^ t
round_scaled n t (inl z) =
    ap (λ (n : ℕ). rnd (n * 2 ^ t * L) (L * L)) z
    ∙ ap (λ (n : ℕ). rnd (n * L) (L * L)) (zero-mul (2 ^ t))
    ∙ rnd_none
    ∙ sym (ap (λ (n : ℕ). rnd (n * L) (L * L) * 2 ^ t) z ∙ ap (λ (n : ℕ). n * 2 ^ t) rnd_none ∙ zero-mul (2 ^ t))
  where
    rnd_none : rnd 0 (L * L) ≡ 0
    rnd_none = rnd_fix 0 (L * L) (mul-pos (pow_pos 149) (pow_pos 149)) (0, 0, lit< tt, refl)
round_scaled n t (inr l) =
    grid_scale binary32 n (L * L) t (mul-pos (pow_pos 149) (pow_pos 149))
    (normal_of_fraction binary32 n (L * L) (mul-pos (pow_pos 149) (pow_pos 149))
    (le_trans (le_of_eq (sym (mul_assoc (2 ^ 23) L L))) (mul-le-mul_right L l)))

pub square_times : (t : ℕ) (x y : Float) (p : Times t x y) → Squared p.units → T (finite (x ⊗ x))
    → T (finite (y ⊗ y)) → Times (t + t) (x ⊗ x) (y ⊗ y)
square_times t x y p h f g =
    let u = p.units in
    round_times (t + t) (x ⊗ x) (y ⊗ y) false (u * u) (L * L) (round_scaled (u * u) (t + t) (normal h))
    (square_units x p.sign u p.small)
    (square_units y p.sign (u * 2 ^ t) p.large
    ∙ ap (λ (w : ℕ). round binary32 false w (L * L))
    (mul-mul-mul_comm u (2 ^ t) u (2 ^ t) ∙ ap (λ (w : ℕ). u * u * w) (sym (pow-add 2 t t)))) f g
  where
    normal : Squared p.units → Normal (p.units * p.units)
    normal (inl z) = inl (ap (λ (u : ℕ). u * u) z)
    normal (inr l) = inr l

-- the product with one and the same number
pub factor_times : (t : ℕ) (x y c : Float) (r : Bool) (v : ℕ) (p : Times t x y) → HasValue c r v L
    → 2 ^ 23 * L ≤ p.units * v → T (finite (x ⊗ c)) → T (finite (y ⊗ c)) → Times t (x ⊗ c) (y ⊗ c)
factor_times t x y c r v p q l f g =
    let u = p.units in
    round_times t (x ⊗ c) (y ⊗ c) (unlike p.sign r) (u * v) (L * L) (round_scaled (u * v) t (inr l))
    (mul_units x c p.sign r u v p.small q)
    (mul_units y c p.sign r (u * 2 ^ t) v p.large q
    ∙ ap (λ (w : ℕ). round binary32 (unlike p.sign r) w (L * L)) (mul_right_comm u (2 ^ t) v)) f g
