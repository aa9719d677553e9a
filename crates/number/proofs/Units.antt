-- Every finite f32 that is not below zero is a number of units of 2 ^ -149 (`Is`, below), of 24 digits and zeros after
-- them; one of sign plus is told by its units. Assumes nothing.
pub mod Compared
pub use Compared.*
use mathlib.Core.Path.{◌≡◌, refl, sym, ap, ◌∙◌, subst}
use mathlib.Core.Logic.{inl, inr}
use mathlib.Core.Bool.{Bool, true, false, not, ◌&&◌}
use Prim.Native.Nat.{ℕ, zero, suc, ◌+◌, ◌-◌, ◌*◌, ◌/◌, ◌%◌, ◌^◌, ◌≤◌, ◌<◌}
use native.Mathlib.Nat.{le_trans, le_of_eq, lt_of_lt_of_le, lt_of_le_of_lt, lt_of_not-le, lt_irrefl, le_of_suc-le-suc}
use native.Mathlib.Nat.{eq-zero-or-pos, zero-mul, mul-one, mul_assoc, mul_right_comm, mul-pos}
use native.Mathlib.Nat.{mul-lt-mul_of_pos_right, lt_of_mul-lt-mul_right, mul-div_cancel}
use native.Mathlib.Omega.{arith}
use lib.IntN.{ℤ, pos, negsuc}
use lib.Dec.{T, leb, ltb, eqb, leb→le, ltb→lt, eqb→eq, lit<}
use lib.Pow.{pow-add, pow_pos, pow-lt}
use lib.Ieee.{Float, nan, inf, fin, binary32, up, down, le, fits, size, hid, to_bits, of_bits}
use lib.Ieee.Digits.{back}
use lib.Ieee.Fits.{up_pos, down_pos, and_l, and_r}
use lib.Ieee.Scale.{finite}
use lib.Ieee.Bits.{of_bits-to_bits}
use Rattle.number.specs.Number.{zero32, one32, bound}
use Rattle.number.proofs.Rounding.{Rep}

-- ---- a significand and an exponent in units
abbrev pub shift : ℤ → ℕ
shift (pos a) = a + 149
shift (negsuc a) = 149 - suc a

pub pow_le_back : (a l : ℕ) → 2 ^ a ≤ 2 ^ l → a ≤ l
pow_le_back a l h =
    le_of_suc-le-suc (lt_of_not-le (λ (g : suc l ≤ a). lt_irrefl (2 ^ l) (lt_of_lt_of_le (pow-lt g) h)))

shift_is : (m : ℕ) (e : ℤ) → down e ≤ L → m * up e * L ≡ m * 2 ^ shift e * down e
shift_is m (pos a) h =
    mul_assoc m (2 ^ a) L ∙ ap (λ (x : ℕ). m * x) (sym (pow-add 2 a 149)) ∙ sym (mul-one (m * 2 ^ (a + 149)))
shift_is m (negsuc a) h =
    let l : suc a ≤ 149 = pow_le_back (suc a) 149 h in
    ap (λ (x : ℕ). x * L) (mul-one m)
    ∙ ap (λ (x : ℕ). m * x) (ap (λ (x : ℕ). 2 ^ x) (sym (back 149 (suc a) l)) ∙ pow-add 2 (149 - suc a) (suc a))
    ∙ sym (mul_assoc m (2 ^ (149 - suc a)) (2 ^ suc a))

-- what it takes to fit
pub record Fit (m : ℕ) (e : ℤ) : Type 0 where
  pub digits : m < 2 ^ 24
  pub deep : down e ≤ L
  pub high : m * up e < 2 ^ 128 * down e

pub fit : (s : Bool) (m : ℕ) (e : ℤ) → T (fits binary32 (fin s m e)) → Fit m e
unfolding fits
fit s zero e t =
    record {
      digits = lit< tt;
      deep = flat e (eqb→eq (up e * down e) 1 t);
      high =
          subst (λ (x : ℕ). x < 2 ^ 128 * down e) (sym (zero-mul (up e))) (mul-pos (pow_pos 128) (down_pos e));
    }
  where
    one : (a b : ℕ) → 0 < a → a * b ≡ 1 → b ≤ 1
    one (suc a) b h e = omega arith
    one zero b h e = absurd (lt_irrefl 0 h)

    flat : (e : ℤ) → up e * down e ≡ 1 → down e ≤ L
    flat e h = le_trans (one (up e) (down e) (up_pos e) h) (pow_pos 149)
fit s (suc m) e t =
    let a : Bool = eqb (suc m % 2) 1 in
    let b : Bool = ltb (suc m) (2 ^ 24) in
    let c : Bool = leb (down e) L in
    let d : Bool = ltb (suc m * up e) (2 ^ 128 * down e) in
    record {
      digits = ltb→lt (suc m) (2 ^ 24) (and_r a b (and_l (a && b) c (and_l (a && b && c) d t)));
      deep = leb→le (down e) L (and_r (a && b) c (and_l (a && b && c) d t));
      high = ltb→lt (suc m * up e) (2 ^ 128 * down e) (and_r (a && b && c) d t);
    }

abbrev pub Top : ℕ
Top = 2 ^ 277

-- x is u units, which need no rounding
pub record Unit32 (x : Float) (u : ℕ) : Type 0 where
  pub is : Is x u
  pub rep : Rep u
  pub under : u < Top

pub fin_false : (m : ℕ) (e : ℤ) → T (fits binary32 (fin false m e)) → Unit32 (fin false m e) (m * 2 ^ shift e)
fin_false m e t =
    let k = fit false m e t in
    record {
      is = shift_is m e k.deep;
      rep = (m, shift e, k.digits, refl);
      under =
          lt_of_mul-lt-mul_right (down e)
          (lt_of_le_of_lt (le_of_eq (sym (shift_is m e k.deep)))
          (lt_of_lt_of_le (mul-lt-mul_of_pos_right k.high (pow_pos 149))
          (le_of_eq (mul_right_comm (2 ^ 128) (down e) L))));
    }

pub none_of : (m a b : ℕ) → 0 < a → 0 < b → m * a * b ≡ 0 → m ≡ 0
none_of m a b A B h =
    elim (eq-zero-or-pos m) [
      | inl z ↦ z
      | inr p ↦ absurd (lt_irrefl 0 (subst (λ (x : ℕ). 0 < x) h (mul-pos (mul-pos p A) B)))
    ]

pub of_float : (x : Float) → T (fits binary32 x) → T (finite x) → T (le zero32 x) → (u : ℕ) × Unit32 x u
unfolding le of_bits
of_float nan t f h = elim f [ ]
of_float (inf _) t f h = elim f [ ]
of_float (fin false m e) t f h = (m * 2 ^ shift e, fin_false m e t)
of_float (fin true m e) t f h =
    let z : 0 * down e ≡ m * up e * 1 =
    eqb→eq (0 * down e) (m * up e * 1) (and_l (eqb (0 * down e) (m * up e * 1)) (eqb (0 * down e) 0) h) in (
      0,
      record {
        is = (none_of m (up e) 1 (up_pos e) (pow_pos 0) (sym z ∙ zero-mul (down e)), refl);
        rep = (0, 0, lit< tt, refl);
        under = pow_pos 277;
      },
    )

-- constants, in units
pub zero_is : Is zero32 0
unfolding of_bits
zero_is = refl

pub one_is : Is one32 L
unfolding of_bits
one_is = refl

pub bound_is : Is bound (2 ^ 20 * L)
unfolding of_bits
bound_is = refl

-- ---- a float of which the sign is plus is told by its units
abbrev pub plus : Float → Bool
plus nan = false
plus (inf s) = not s
plus (fin s m e) = not s

abbrev pub pattern : ℕ → ℕ
pattern n = 0 + (size n - 24) * hid binary32 + n / 2 ^ (size n - 24)

pub pattern_is : (x : Float) (u : ℕ) → T (plus x) → Is x u → to_bits binary32 x ≡ pattern u
unfolding to_bits
pattern_is nan u p h = elim p [ ]
pattern_is (inf _) u p h = elim h [ ]
pattern_is (fin true m e) u p h = elim p [ ]
pattern_is (fin false m e) u p h = ap pattern (ap (λ (y : ℕ). y / down e) h ∙ mul-div_cancel u (down_pos e))

-- any float is told by its pattern
pub same_bits : (x y : Float) → T (fits binary32 x) → T (fits binary32 y) → to_bits binary32 x ≡ to_bits binary32 y → x ≡ y
same_bits x y f g e = sym (of_bits-to_bits binary32 x f) ∙ ap (of_bits binary32) e ∙ of_bits-to_bits binary32 y g

pub same_float : (x y : Float) (u : ℕ) → T (fits binary32 x) → T (fits binary32 y) → T (plus x) → T (plus y) → Is x u
    → Is y u → x ≡ y
same_float x y u f g p q a b = same_bits x y f g (pattern_is x u p a ∙ sym (pattern_is y u q b))

-- ---- what is not below zero and not above something finite is finite
pub of_range : (x y : Float) (v : ℕ) → T (fits binary32 x) → T (le zero32 x) → T (le x y) → Is y v
    → (u : ℕ) × Unit32 x u
unfolding le of_bits
of_range x y v t h k q = of_float x t (bounded x y h k q) h
  where
    bounded : (x y : Float) → T (le zero32 x) → T (le x y) → Is y v → T (finite x)
    bounded nan y h k q = elim h [ ]
    bounded (inf false) nan h k q = elim k [ ]
    bounded (inf false) (inf _) h k q = elim q [ ]
    bounded (inf true) y h k q = elim h [ ]
    bounded (inf false) (fin false n d) h k q = k
    bounded (inf false) (fin true n d) h k q = k
    bounded (fin s m e) y h k q = tt
