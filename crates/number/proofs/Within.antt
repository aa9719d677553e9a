-- Finite f32 values by how large they can be: `Within a x` says that x is finite and at most 2 ^ a in size. Sums,
-- differences and products stay within the sum's and the product's bound, so no NaN and no infinity arises.
-- Assumes nothing.
use mathlib.Core.Path.{◌≡◌, sym, ap, ◌∙◌}
use mathlib.Core.Bool.{Bool, true, false, ◌&&◌, cond, beq}
use Prim.Native.Nat.{ℕ, suc, ◌+◌, ◌-◌, ◌*◌, ◌^◌, ◌≤◌, ◌<◌}
use native.Mathlib.Nat.{le_trans, le_of_eq, lt_of_le_of_lt, mul-one, one-mul, mul_assoc, mul_comm, mul_right_comm}
use native.Mathlib.Nat.{mul-mul-mul_comm, mul-pos, mul-le-mul, mul-le-mul_right, le_of_mul-le-mul_right, pow-suc}
use native.Mathlib.Omega.{arith}
use lib.Dec.{T, ltb, lit<}
use lib.Pow.{pow-add, pow_pos, pow_mono, pow-lt}
use lib.Ieee.{Float, nan, inf, fin, binary32, up, down, round, sum, add, sub, mul, neg, unlike}
use lib.Ieee.Fits.{down_pos}
use lib.Ieee.Exact.{HasValue}
use lib.Ieee.Scale.{finite}
pub use Rattle.number.proofs.Comparing.{or_l, or_r, or_cases, not_lt_le}
pub use Rattle.number.proofs.Choice.{clamp_in}
pub use Rattle.number.proofs.NoNan.{round_no_nan, div_no_nan}
use Rattle.number.proofs.Rounding.{rnd, Rep, rnd_mono, rnd_fix}
use Rattle.number.proofs.Units.{L, Top, Is, size_is}
use Rattle.number.proofs.Sums.{round_at}

abbrev pub Within : ℕ → Float → Type 0
Within a nan = ⊥
Within a (inf s) = ⊥
Within a (fin s m e) = m * up e ≤ 2 ^ a * down e

pub within_finite : (a : ℕ) (x : Float) → Within a x → T (finite x)
within_finite a nan h = elim h [ ]
within_finite a (inf _) h = elim h [ ]
within_finite a (fin s m e) h = tt

pub within_more : (a b : ℕ) (x : Float) → a ≤ b → Within a x → Within b x
within_more a b nan l h = elim h [ ]
within_more a b (inf _) l h = elim h [ ]
within_more a b (fin s m e) l h = le_trans h (mul-le-mul_right (down e) (pow_mono l))

rep_pow : (a : ℕ) → Rep (2 ^ a * L)
rep_pow a = (1, a + 149, lit< tt, sym (pow-add 2 a 149) ∙ sym (one-mul (2 ^ (a + 149))))

pub value_within : (a : ℕ) (s : Bool) (x : Float) (w : ℕ) → w ≤ 2 ^ a * L → HasValue x s w L → Within a x
value_within a s nan w h v = elim v [ ]
value_within a s (inf _) w h v = elim v [ ]
value_within a s (fin t m e) w h v =
    le_of_mul-le-mul_right (le_trans (le_of_eq v.1)
    (le_trans (mul-le-mul_right (down e) h) (le_of_eq (mul_right_comm (2 ^ a) L (down e))))) (pow_pos 149)

-- the bound in units
pub within_units : (a : ℕ) (x : Float) (u : ℕ) → Is x u → Within a x → u ≤ 2 ^ a * L
within_units a nan u i h = elim i [ ]
within_units a (inf _) u i h = elim i [ ]
within_units a (fin s m e) u i h =
    le_of_mul-le-mul_right
    (le_trans (le_of_eq (sym (size_is s m e u i)))
    (le_trans (mul-le-mul_right L h) (le_of_eq (mul_right_comm (2 ^ a) (down e) L)))) (down_pos e)

pub units_within : (a : ℕ) (x : Float) (u : ℕ) → Is x u → u ≤ 2 ^ a * L → Within a x
units_within a nan u i h = elim i [ ]
units_within a (inf _) u i h = elim i [ ]
units_within a (fin s m e) u i h =
    le_of_mul-le-mul_right
    (le_trans (le_of_eq (size_is s m e u i))
    (le_trans (mul-le-mul_right (down e) h) (le_of_eq (mul_right_comm (2 ^ a) L (down e))))) (pow_pos 149)

pub round_within : (a : ℕ) (s : Bool) (num den : ℕ) → 0 < den → a ≤ 127 → num ≤ 2 ^ a * den
    → Within a (round binary32 s num den)
round_within a s num den D l h =
    let r : rnd (num * L) den ≤ 2 ^ a * L =
    le_trans (rnd_mono (num * L) den (2 ^ a * L * 1) 1 D (pow_pos 0)
    (le_trans (le_of_eq (mul-one (num * L)))
    (le_trans (mul-le-mul_right L h)
    (le_of_eq (mul_right_comm (2 ^ a) den L ∙ ap (λ (x : ℕ). x * den) (sym (mul-one (2 ^ a * L))))))))
    (le_of_eq (rnd_fix (2 ^ a * L) 1 (pow_pos 0) (rep_pow a))) in
    let t : 2 ^ a * L < Top = lt_of_le_of_lt (le_of_eq (sym (pow-add 2 a 149))) (pow-lt (room a l)) in
    value_within a s (round binary32 s num den) (rnd (num * L) den) r (round_at s num den (lt_of_le_of_lt r t))
  where
    room : (a : ℕ) → a ≤ 127 → a + 149 < 277
    room a l = omega arith

-- ---- sums
sum_within : (a : ℕ) (s : Bool) (A : ℕ) (t : Bool) (B C : ℕ) → 0 < C → suc a ≤ 127 → A ≤ 2 ^ a * C → B ≤ 2 ^ a * C
    → Within (suc a) (sum binary32 s A t B C)
unfolding sum
sum_within a s A t B C K l h k = go (beq s t) (ltb A B) (s && ltb B A)
  where
    plus : (p q : ℕ) → q ≡ p * 2 → A ≤ p * C → B ≤ p * C → A + B ≤ q * C
    plus p q e h k = omega (arith, ap (λ (x : ℕ). x * C) e)

    minus : (p q x y : ℕ) → q ≡ p * 2 → x ≤ p * C → x - y ≤ q * C
    minus p q x y e h = omega (arith, ap (λ (x : ℕ). x * C) e)

    go : (b c r : Bool)
        → Within (suc a) (cond b (round binary32 s (A + B) C)
        (cond c (round binary32 t (B - A) C) (round binary32 r (A - B) C)))
    go true c r = round_within (suc a) s (A + B) C K l (plus (2 ^ a) (2 ^ suc a) (pow-suc 2 a) h k)
    go false true r = round_within (suc a) t (B - A) C K l (minus (2 ^ a) (2 ^ suc a) B A (pow-suc 2 a) k)
    go false false r = round_within (suc a) r (A - B) C K l (minus (2 ^ a) (2 ^ suc a) A B (pow-suc 2 a) h)

pub add_within : (a : ℕ) (x y : Float) → suc a ≤ 127 → Within a x → Within a y → Within (suc a) (add binary32 x y)
unfolding add
add_within a nan y l h k = elim h [ ]
add_within a (inf _) y l h k = elim h [ ]
add_within a (fin s m e) nan l h k = elim k [ ]
add_within a (fin s m e) (inf _) l h k = elim k [ ]
add_within a (fin s m e) (fin t n d) l h k =
    sum_within a s (m * up e * down d) t (n * up d * down e) (down e * down d) (mul-pos (down_pos e) (down_pos d)) l
    (le_trans (mul-le-mul_right (down d) h) (le_of_eq (mul_assoc (2 ^ a) (down e) (down d))))
    (le_trans (mul-le-mul_right (down e) k)
    (le_of_eq (mul_assoc (2 ^ a) (down d) (down e) ∙ ap (λ (x : ℕ). 2 ^ a * x) (mul_comm (down d) (down e)))))

pub neg_within : (a : ℕ) (x : Float) → Within a x → Within a (neg x)
unfolding neg
neg_within a nan h = elim h [ ]
neg_within a (inf _) h = elim h [ ]
neg_within a (fin s m e) h = h

pub sub_within : (a : ℕ) (x y : Float) → suc a ≤ 127 → Within a x → Within a y → Within (suc a) (sub binary32 x y)
unfolding sub
sub_within a x y l h k = add_within a x (neg y) l h (neg_within a y k)

-- ---- products
pub mul_within : (a b : ℕ) (x y : Float) → a + b ≤ 127 → Within a x → Within b y → Within (a + b) (mul binary32 x y)
unfolding mul
mul_within a b nan y l h k = elim h [ ]
mul_within a b (inf _) y l h k = elim h [ ]
mul_within a b (fin s m e) nan l h k = elim k [ ]
mul_within a b (fin s m e) (inf _) l h k = elim k [ ]
mul_within a b (fin s m e) (fin t n d) l h k =
    round_within (a + b) (unlike s t) (m * up e * (n * up d)) (down e * down d) (mul-pos (down_pos e) (down_pos d)) l
    (le_trans (mul-le-mul h k) (le_of_eq
    (mul-mul-mul_comm (2 ^ a) (down e) (2 ^ b) (down d)
    ∙ ap (λ (x : ℕ). x * (down e * down d)) (sym (pow-add 2 a b)))))

-- ---- a dot product
abbrev pub dot : Float → Float → Float → Float → Float → Float → Float
dot a b c x y z = add binary32 (add binary32 (mul binary32 a x) (mul binary32 b y)) (mul binary32 c z)

pub dot_within : (k : ℕ) (a b c x y z : Float) → suc (suc (k + k)) ≤ 127 → Within k a → Within k b → Within k c
    → Within k x → Within k y → Within k z → Within (suc (suc (k + k))) (dot a b c x y z)
dot_within k a b c x y z l A B C X Y Z =
    let p = mul binary32 a x in
    let q = mul binary32 b y in
    let r = mul binary32 c z in
    add_within (suc (k + k)) (add binary32 p q) r l
    (add_within (k + k) p q (one (k + k) l) (mul_within k k a x (two (k + k) l) A X)
    (mul_within k k b y (two (k + k) l) B Y))
    (within_more (k + k) (suc (k + k)) r (up_one (k + k)) (mul_within k k c z (two (k + k) l) C Z))
  where
    one : (n : ℕ) → suc (suc n) ≤ 127 → suc n ≤ 127
    one n h = omega arith

    two : (n : ℕ) → suc (suc n) ≤ 127 → n ≤ 127
    two n h = omega arith

    up_one : (n : ℕ) → n ≤ suc n
    up_one n = omega arith
