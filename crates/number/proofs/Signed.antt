-- A finite f32 of either sign as a sign and a whole number of units of 2 ^ -149 (`HasValue x s u L`), and what is rounded
-- to one. Assumes nothing.
pub mod Sums
use mathlib.Core.Path.{◌≡◌, refl, sym, ap, ◌∙◌, subst}
use mathlib.Core.Bool.{Bool, false, not, ◌||◌, beq}
use Prim.Native.Nat.{ℕ, ◌-◌, ◌*◌, ◌/◌, ◌^◌, ◌≤◌}
use native.Mathlib.Nat.{lt_of_not-le, mul-one}
use native.Mathlib.Nat.{zero-mul, mul-div_cancel, eq_of_mul-eq-mul_right}
use native.Mathlib.Omega.{arith}
use native.Mathlib.Decide.{dec_le}
use lib.Dec.{T, eqb, eqb→eq}
use lib.Pow.{pow_pos}
use lib.Ieee.{Float, fin, binary32, up, down, round, neg, eq, fits, of_bits, inf, nan}
use lib.Ieee.Exact.{HasValue}
use lib.Ieee.Fits.{down_pos, up_pos, and_i, and_l, eq→eqb}
use lib.Ieee.Scale.{finite, round_same}
use Rattle.number.specs.Number.{zero32, size, units_of, is_minus}
use Rattle.number.proofs.Rounding.{rnd, Rep, rnd_same}
use Rattle.number.proofs.Units.{L, Top, Is, plus, shift, fin_false, none_of}
use Rattle.number.proofs.Sums.{round_at, round_over}
use Rattle.number.proofs.Comparing.{or_r}
use Rattle.number.proofs.Sizes.{fits_plus}
use Rattle.number.proofs.Unmoved.{round_own}

-- ---- units
-- each finite f32 has its units
pub own_value : (x : Float) → T (fits binary32 x) → T (finite x) → (s : Bool) × (u : ℕ) × HasValue x s u L
own_value nan f h = elim h [ ]
own_value (inf _) f h = elim h [ ]
own_value (fin s m e) f h = (s, m * 2 ^ shift e, (refl, (fin_false m e (fits_plus s m e f)).is))

-- of 24 digits and zeros after them
pub value_rep : (x : Float) (s : Bool) (u : ℕ) → T (fits binary32 x) → HasValue x s u L → Rep u
value_rep nan s u f v = elim v [ ]
value_rep (inf _) s u f v = elim v [ ]
value_rep (fin r m e) s u f v =
    let i = fin_false m e (fits_plus r m e f) in
    subst Rep (eq_of_mul-eq-mul_right (down e) (down_pos e) (m * 2 ^ shift e) u (sym i.is ∙ v.1)) i.rep

pub value_finite : (x : Float) (s : Bool) (u : ℕ) → HasValue x s u L → T (finite x)
value_finite nan s u v = elim v [ ]
value_finite (inf _) s u v = elim v [ ]
value_finite (fin r m e) s u v = tt

pub value_units : (x : Float) (s : Bool) (u : ℕ) → HasValue x s u L → units_of x ≡ u
unfolding units_of
value_units nan s u v = elim v [ ]
value_units (inf _) s u v = elim v [ ]
value_units (fin r m e) s u v = ap (λ (n : ℕ). n / down e) v.1 ∙ mul-div_cancel u (down_pos e)

pub value_minus : (x : Float) (s : Bool) (u : ℕ) → HasValue x s u L → is_minus x ≡ s
unfolding is_minus
value_minus nan s u v = elim v [ ]
value_minus (inf _) s u v = elim v [ ]
value_minus (fin r m e) s u v = v.0

pub value_size : (x : Float) (s : Bool) (u : ℕ) → HasValue x s u L → Is (size x) u
unfolding size
value_size nan s u v = elim v [ ]
value_size (inf _) s u v = elim v [ ]
value_size (fin r m e) s u v = v.1

pub value_plus : (x : Float) (s : Bool) (u : ℕ) → T (plus x) → HasValue x s u L → Is x u
value_plus nan s u h v = elim h [ ]
value_plus (inf _) s u h v = elim v [ ]
value_plus (fin mathlib.Core.Bool.true m e) s u h v = elim h [ ]
value_plus (fin false m e) s u h v = v.1

pub value_neg : (x : Float) (s : Bool) (u : ℕ) → HasValue x s u L → HasValue (neg x) (not s) u L
unfolding neg
value_neg nan s u v = elim v [ ]
value_neg (inf _) s u v = elim v [ ]
value_neg (fin r m e) s u v = (ap not v.0, v.1)

-- a zero is one of no units
pub zero_value : (x : Float) → T (eq x zero32) → (s : Bool) × HasValue x s 0 L
unfolding eq of_bits
zero_value nan h = elim h [ ]
zero_value (inf _) h = elim h [ ]
zero_value (fin s m e) h =
    let z = eqb→eq (m * up e * 1) (0 * down e) (and_l (eqb (m * up e * 1) (0 * down e)) _ h) in
    (s, (refl, none m (up e) (down e) L z))
  where
    none : (m a d l : ℕ) → m * a * 1 ≡ 0 * d → m * a * l ≡ 0 * d
    none m a d l e = omega (arith, ap (λ (n : ℕ). n * l) e)

pub value_zero : (x : Float) (s : Bool) → HasValue x s 0 L → T (eq x zero32)
unfolding eq of_bits
value_zero nan s v = elim v [ ]
value_zero (inf _) s v = elim v [ ]
value_zero (fin r m e) s v =
    let z : m * up e * 1 ≡ 0 = none m (up e) (none_of m (up e) L (up_pos e) (pow_pos 149) (v.1 ∙ zero-mul (down e))) in
    and_i (eqb (m * up e * 1) (0 * down e)) (beq r false || eqb (m * up e * 1) 0)
    (eq→eqb (z ∙ sym (zero-mul (down e)))) (or_r (beq r false) (eqb (m * up e * 1) 0) (eq→eqb z))
  where
    none : (m a : ℕ) → m ≡ 0 → m * a * 1 ≡ 0
    none m a e = omega (arith, ap (λ (n : ℕ). n * a) e)

-- what is rounded and stays finite has the sign, and its units
pub round_value : (s : Bool) (a c : ℕ) → T (finite (round binary32 s a c))
    → HasValue (round binary32 s a c) s (rnd (a * L) c) L
round_value s a c f = go (dec_le Top (rnd (a * L) c))
  where
    go : Dec (Top ≤ rnd (a * L) c) → HasValue (round binary32 s a c) s (rnd (a * L) c) L
    go (yes h) = absurd (subst (λ (x : Float). T (finite x)) (round_over s a c h) f)
    go (no n) = round_at s a c (lt_of_not-le n)

-- so of a whole number of units
pub rnd_whole : (n : ℕ) → rnd (n * L) L ≡ rnd n 1
rnd_whole n = rnd_same (n * L) L n 1 (pow_pos 149) (pow_pos 0) (mul-one (n * L))

pub round_whole : (s : Bool) (n : ℕ) → T (finite (round binary32 s n L)) → HasValue (round binary32 s n L) s (rnd n 1) L
round_whole s n f =
    subst (λ (w : ℕ). HasValue (round binary32 s n L) s w L) (rnd_whole n) (round_value s n L f)

-- an f32 is what its units round to
pub value_own : (x : Float) (s : Bool) (u : ℕ) → T (fits binary32 x) → HasValue x s u L → x ≡ round binary32 s u L
value_own nan s u f v = elim v [ ]
value_own (inf _) s u f v = elim v [ ]
value_own (fin r m e) s u f v =
    sym (round_own r m e f) ∙ ap (λ (b : Bool). round binary32 b (m * up e) (down e)) v.0
    ∙ round_same binary32 s (m * up e) (down e) u L (down_pos e) (pow_pos 149) v.1
