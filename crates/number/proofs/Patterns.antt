-- The bit patterns of f32: what number each stands for, in units of 2 ^ -149, and that the next pattern stands for
-- the next number. 8388608 is the weight of the exponent's field, `inf_bits` plus infinity, 2147483648 the sign.
-- Assumes nothing.
use mathlib.Core.Path.{◌≡◌, refl, sym, ap, ◌∙◌, subst}
use mathlib.Core.Logic.{◌⊎◌, inl, inr}
use mathlib.Core.Bool.{Bool, false, cond, not}
use Prim.Native.Nat.{ℕ, zero, suc, ◌+◌, ◌-◌, ◌*◌, ◌/◌, ◌%◌, ◌^◌, ◌≤◌, ◌<◌}
use native.Mathlib.Nat.{le_of_eq, le_of_lt, lt_irrefl, lt_of_lt_of_le, lt_of_not-le, eq-or-lt_of_le, mul_assoc}
use native.Mathlib.Nat.{add-mul, one-mul, pow-succ'}
use native.Mathlib.Numerals.{add-one}
use native.Mathlib.Omega.{arith}
use native.Mathlib.Decide.{le_ind}
use lib.Dec.{T, leb, ltb, eqb, leb→le, ltb→lt, eqb→eq, not_T}
use lib.Pow.{pow_pos}
use lib.Ieee.{Float, nan, inf, binary32, odd, of_fields, of_bits, to_bits, nan_bits}
use lib.Ieee.Bits.{is_false, cond_no, to_bits-of_bits, nan_bits_is, nan_bits_above}
use lib.Ieee.Exact.{HasValue, odd_sign}
use Rattle.number.specs.Number.{inf_bits}
use Rattle.number.proofs.Numbers.{le_of_not_lt}
use Rattle.number.proofs.Units.{L, Is}
use Rattle.number.proofs.Sums.{to_is}

of_bits_is : (b : ℕ)
    → of_bits binary32 b ≡ of_fields binary32 (leb 2147483648 b) (b % 2147483648 / 8388608) (b % 8388608)
unfolding of_bits
of_bits_is b = refl

-- ---- the number of an exponent's field x and digits t
abbrev field_size : ℕ → ℕ → ℕ
field_size zero t = t * 2 ^ 0
field_size (suc x) t = (8388608 + t) * 2 ^ x

fields_value : (s : Bool) (x t : ℕ) → x < 255 → HasValue (of_fields binary32 s x t) s (field_size x t) L
unfolding of_fields
fields_value s zero t h = odd_sign 24 s t 0 149
fields_value s (suc x) t h =
    let top = cond (eqb t 0) (inf s) nan in
    let number = odd 24 s (8388608 + t) x 149 in
    subst (λ (v : Float). HasValue v s ((8388608 + t) * 2 ^ x) L)
    (sym (cond_no (eqb (suc x) 255) top number
    (not_T (eqb (suc x) 255) (λ (u : T (eqb (suc x) 255)). differ x h (eqb→eq (suc x) 255 u)))))
    (odd_sign 24 s (8388608 + t) x 149)
  where
    differ : (x : ℕ) → suc x < 255 → suc x ≡ 255 → ⊥
    differ x h e = omega arith

-- ---- the number of a pattern of sign plus: (b - w * 2 ^ 23) * 2 ^ w, with w one less than the field, but 0 at field
-- 0
abbrev pub weight : ℕ → ℕ
weight b = b / 8388608 - 1

abbrev pub val : ℕ → ℕ
val b = (b - weight b * 8388608) * 2 ^ weight b

field_size_lem : (x t b : ℕ) → b / 8388608 ≡ x → b % 8388608 ≡ t → field_size x t ≡ val b
field_size_lem zero t b e f =
    ap (λ (n : ℕ). n * 2 ^ 0) (low e f) ∙ ap (λ (w : ℕ). (b - w * 8388608) * 2 ^ w) (none e)
  where
    low : b / 8388608 ≡ 0 → b % 8388608 ≡ t → t ≡ b - 0 * 8388608
    low e f = omega arith

    none : b / 8388608 ≡ 0 → 0 ≡ weight b
    none e = omega arith
field_size_lem (suc x) t b e f =
    ap (λ (n : ℕ). n * 2 ^ x) (high e f) ∙ ap (λ (w : ℕ). (b - w * 8388608) * 2 ^ w) (one e)
  where
    high : b / 8388608 ≡ suc x → b % 8388608 ≡ t → 8388608 + t ≡ b - x * 8388608
    high e f = omega arith

    one : b / 8388608 ≡ suc x → x ≡ weight b
    one e = omega arith

-- what any pattern but an infinity's or a NaN's stands for
bits_value : (b : ℕ) → b % 2147483648 / 8388608 < 255
    → HasValue (of_bits binary32 b) (leb 2147483648 b) (val (b % 2147483648)) L
bits_value b h =
    let x = b % 2147483648 / 8388608 in
    let s = leb 2147483648 b in
    subst (λ (n : ℕ). HasValue (of_bits binary32 b) s n L)
    (field_size_lem x (b % 8388608) (b % 2147483648) refl (digits b))
    (subst (λ (v : Float). HasValue v s (field_size x (b % 8388608)) L) (sym (of_bits_is b))
    (fields_value s x (b % 8388608) h))
  where
    digits : (b : ℕ) → b % 2147483648 % 8388608 ≡ b % 8388608
    digits b = omega arith

pub bits_plus : (b : ℕ) → b < inf_bits → HasValue (of_bits binary32 b) false (val b) L
bits_plus b h =
    let s = leb 2147483648 b in
    let no : s ≡ false = is_false s (not_T s (λ (u : T s). under b h (leb→le 2147483648 b u))) in
    subst (λ (n : ℕ). HasValue (of_bits binary32 b) false (val n) L) (plain b h)
    (subst (λ (t : Bool). HasValue (of_bits binary32 b) t (val (b % 2147483648)) L) no (bits_value b (field b h)))
  where
    plain : (b : ℕ) → b < inf_bits → b % 2147483648 ≡ b
    plain b h = omega arith

    under : (b : ℕ) → b < inf_bits → 2147483648 ≤ b → ⊥
    under b h l = omega arith

    field : (b : ℕ) → b < inf_bits → b % 2147483648 / 8388608 < 255
    field b h = omega arith

pub bits_are : (b : ℕ) → b < inf_bits → Is (of_bits binary32 b) (val b)
bits_are b h = to_is (of_bits binary32 b) (val b) (bits_plus b h)

-- ---- the next pattern's number is 2 ^ weight more
pub val_step : (b : ℕ) → val (b + 1) ≡ val b + 2 ^ weight b
val_step b = elim (same_or_next b) [
  | inl e ↦ at (b + 1) e ∙ ap (λ (n : ℕ). n * 2 ^ weight b) (plus b) ∙ one_more
  | inr e ↦
      at' e.0
      ∙ ap (λ (n : ℕ). n * 2 ^ suc (weight b)) e.1
      ∙ ap (λ (n : ℕ). 8388608 * n) (pow-succ' 2 (weight b))
      ∙ sym (mul_assoc 8388608 2 (2 ^ weight b))
      ∙ ap (λ (n : ℕ). n * 2 ^ weight b) (sym e.2)
      ∙ one_more
]
  where
    at : (c : ℕ) → weight c ≡ weight b → val c ≡ (c - weight b * 8388608) * 2 ^ weight b
    at c e = ap (λ (w : ℕ). (c - w * 8388608) * 2 ^ w) e

    at' : weight (b + 1) ≡ suc (weight b) → val (b + 1) ≡ (b + 1 - suc (weight b) * 8388608) * 2 ^ suc (weight b)
    at' e = ap (λ (w : ℕ). (b + 1 - w * 8388608) * 2 ^ w) e

    one_more : (b - weight b * 8388608 + 1) * 2 ^ weight b ≡ val b + 2 ^ weight b
    one_more =
        add-mul (b - weight b * 8388608) 1 (2 ^ weight b) ∙ ap (λ (n : ℕ). val b + n) (one-mul (2 ^ weight b))

    plus : (b : ℕ) → b + 1 - weight b * 8388608 ≡ b - weight b * 8388608 + 1
    plus b = omega arith

    same_or_next : (b : ℕ) → (weight (b + 1) ≡ weight b)
        ⊎ ((weight (b + 1) ≡ suc (weight b))
        × (b + 1 - suc (weight b) * 8388608 ≡ 8388608)
        × (b - weight b * 8388608 + 1 ≡ 16777216))
    same_or_next b = elim (eq-or-lt_of_le (grows b)) [
      | inl e ↦ inl (sym e)
      | inr l ↦ inr (omega arith, omega arith, omega arith)
    ]
      where
        grows : (b : ℕ) → weight b ≤ weight (b + 1)
        grows b = omega arith

pub val_next : (b : ℕ) → val b < val (suc b)
val_next b =
    subst (λ (n : ℕ). val b < val n) (add-one b) (let e = val_step b in let p = pow_pos (weight b) in omega arith)

pub val_lt : (b c : ℕ) → b < c → val b < val c
val_lt b c h = le_ind (λ (d : ℕ). val b < val d) (val_next b) (λ d k l. step d l) c h
  where
    step : (d : ℕ) → val b < val d → val b < val (suc d)
    step d l = let k = val_next d in lt_of_lt_of_le l (le_of_lt k)

pub val_le : (b c : ℕ) → b ≤ c → val b ≤ val c
val_le b c h = elim (eq-or-lt_of_le h) [ inl e ↦ le_of_eq (ap val e) | inr l ↦ le_of_lt (val_lt b c l) ]

pub val_back : (b c : ℕ) → val b < val c → b < c
val_back b c h = lt_of_not-le (λ (l : c ≤ b). lt_irrefl (val b) (lt_of_lt_of_le h (val_le c b l)))

pub val_le_back : (b c : ℕ) → val b ≤ val c → b ≤ c
val_le_back b c h = le_of_not_lt (λ (l : c < b). lt_irrefl (val c) (lt_of_lt_of_le (val_lt c b l) h))

-- ---- which patterns are a NaN's
pub no_nan_bits : (b : ℕ) → b % 2147483648 ≤ inf_bits → T (not (nan_bits binary32 b))
no_nan_bits b h =
    let t = ltb inf_bits (b % 2147483648) in
    subst (λ (t : Bool). T (not t)) (sym (nan_bits_above binary32 b))
    (not_T t (λ (u : T t). lt_irrefl inf_bits (lt_of_lt_of_le (ltb→lt inf_bits (b % 2147483648) u) h)))

-- a pattern below plus infinity's is that of its own value
pub bits_back : (b : ℕ) → b < inf_bits → to_bits binary32 (of_bits binary32 b) ≡ b
bits_back b h =
    to_bits-of_bits binary32 b (omega arith)
    (subst (λ (t : Bool). T (not t)) (nan_bits_is binary32 b) (no_nan_bits b (omega arith)))
