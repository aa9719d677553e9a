-- The bit patterns of the finite f32 values that are not below zero: a pattern's number of units, that a larger
-- pattern has more, and that of two neighbours the upper one has the next pattern. Assumes nothing.
use mathlib.Core.Path.{◌≡◌, sym, ap, ◌∙◌, subst}
use mathlib.Core.Logic.{inl, inr}
use mathlib.Core.Bool.{true, false}
use Prim.Native.Nat.{ℕ, suc, ◌+◌, ◌-◌, ◌*◌, ◌/◌, ◌^◌, ◌≤◌, ◌<◌}
use native.Mathlib.Nat.{le_of_eq, le_of_lt, lt_of_lt_of_le, lt_of_le_of_lt, lt_of_not-le, not-le_of_lt}
use native.Mathlib.Nat.{le_refl, eq_of_mul-eq-mul_right, eq-zero-or-pos, eq-or-lt_of_le}
use native.Mathlib.Omega.{arith}
use native.Mathlib.Decide.{dec_le}
use lib.Dec.{T, ltb→lt, lt→ltb}
use lib.Ieee.{Float, nan, inf, fin, binary32, up, down, size, of_bits, to_bits, fits, lt}
use lib.Ieee.Bits.{of_bits-to_bits, of_bits-fits}
use lib.Ieee.Digits.{size-le}
use lib.Ieee.Fits.{down_pos, kept-lt}
use lib.Ieee.Scale.{finite}
use Rattle.number.specs.Number.{zero32, inf_bits}
use Rattle.number.proofs.Units.{Top, Is, Unit32, plus, shift, fin_false, no_size, lt_is, pattern, pattern_is}
use Rattle.number.proofs.Patterns.{val, val_next, val_lt, bits_are}

-- ---- a value's own pattern
pattern_lt : (u : ℕ) → u < Top → pattern u < inf_bits
pattern_lt u h = fit (size u - 24) (u / 2 ^ (size u - 24)) (few (size u) (size-le u 277 h)) (kept-lt 24 u)
  where
    few : (z : ℕ) → z ≤ 277 → z - 24 ≤ 253
    few z l = omega arith

    fit : (k q : ℕ) → k ≤ 253 → q < 16777216 → 0 + k * 8388608 + q < inf_bits
    fit k q a b = omega arith

is_unique : (x : Float) (u v : ℕ) → Is x u → Is x v → u ≡ v
is_unique nan u v p q = elim p [ ]
is_unique (inf _) u v p q = elim p [ ]
is_unique (fin false m e) u v p q = eq_of_mul-eq-mul_right (down e) (down_pos e) u v (sym p ∙ q)
is_unique (fin true m e) u v p q = p.1 ∙ sym q.1

module _ (x : Float) (u : ℕ) (f : T (fits binary32 x)) (p : T (plus x)) (i : Unit32 x u) where
  pub bits_lt : to_bits binary32 x < inf_bits
  bits_lt = subst (λ (b : ℕ). b < inf_bits) (sym (pattern_is x u p i.is)) (pattern_lt u i.under)

  pub bits_val : val (to_bits binary32 x) ≡ u
  bits_val =
      is_unique x (val (to_bits binary32 x)) u
      (subst (λ (y : Float). Is y (val (to_bits binary32 x))) (of_bits-to_bits binary32 x f)
      (bits_are (to_bits binary32 x) bits_lt)) i.is

-- one above zero has a pattern above 0, and not above the infinity's
pub above_bits : (x : Float) → T (fits binary32 x) → T (lt zero32 x) → to_bits binary32 x ≤ inf_bits
unfolding lt of_bits
above_bits nan f h = elim h [ ]
above_bits (inf true) f h = elim h [ ]
above_bits (fin true m e) f h = elim h [ ]
above_bits (inf false) f h = unfold to_bits in le_refl inf_bits
above_bits (fin false m e) f h = le_of_lt (bits_lt (fin false m e) (m * 2 ^ shift e) f tt (fin_false m e f))

pub some_bits : (x : Float) → T (fits binary32 x) → T (lt zero32 x) → 0 < to_bits binary32 x
unfolding lt of_bits
some_bits x f a = elim (eq-zero-or-pos (to_bits binary32 x)) [
  | inl e ↦ absurd
      (subst (λ (y : Float). T (lt zero32 y)) (sym (of_bits-to_bits binary32 x f) ∙ ap (of_bits binary32) e) a)
  | inr l ↦ l
]

-- ---- what lies above, and between
-- what is finite and above some x that is not below zero has the sign plus
pub after : (x w : Float) (u : ℕ) → Is x u → T (fits binary32 w) → T (finite w) → T (lt x w)
    → T (plus w) × ((r : ℕ) × Unit32 w r)
unfolding lt
after nan w u p f k a = elim p [ ]
after (inf _) w u p f k a = elim p [ ]
after (fin false m e) nan u p f k a = elim k [ ]
after (fin false m e) (inf _) u p f k a = elim k [ ]
after (fin true m e) nan u p f k a = elim k [ ]
after (fin true m e) (inf _) u p f k a = elim k [ ]
after (fin false m e) (fin false n d) u p f k a = (tt, (n * 2 ^ shift d, fin_false n d f))
after (fin false m e) (fin true n d) u p f k a = absurd a
after (fin true m e) (fin false n d) u p f k a = (tt, (n * 2 ^ shift d, fin_false n d f))
after (fin true m e) (fin true n d) u p f k a =
    absurd (none (n * up d * down e) (m * up e * down d) (no_size m (up e) (down d) p.0)
    (ltb→lt (n * up d * down e) (m * up e * down d) a))
  where
    none : (a b : ℕ) → b ≡ 0 → a < b → ⊥
    none a b e h = omega arith

pub below_finite : (x w y : Float) (u v : ℕ) → Is x u → Is y v → T (lt x w) → T (lt w y) → T (finite w)
unfolding lt
below_finite nan w y u v p q a b = elim p [ ]
below_finite (inf _) w y u v p q a b = elim p [ ]
below_finite (fin s m e) (inf false) nan u v p q a b = elim q [ ]
below_finite (fin s m e) (inf false) (inf _) u v p q a b = elim q [ ]
below_finite (fin s m e) nan y u v p q a b = a
below_finite (fin s m e) (inf true) y u v p q a b = a
below_finite (fin s m e) (inf false) (fin t n d) u v p q a b = b
below_finite (fin s m e) (fin t n d) y u v p q a b = tt

-- x and y with nothing between: y has the next pattern
pub next_bits : (x y : Float) (u v : ℕ) → T (fits binary32 x) → T (fits binary32 y) → T (plus x) → T (plus y)
    → Unit32 x u → Unit32 y v → u < v
    → ((w : Float) → T (fits binary32 w) → T (lt x w) → T (lt w y) → ⊥) → to_bits binary32 y ≡ suc (to_bits binary32 x)
next_bits x y u v f g p q i j h none = go (dec_le c b)
  where
    b : ℕ
    b = to_bits binary32 x

    c : ℕ
    c = to_bits binary32 y

    val_le : c ≤ b → v ≤ u
    val_le l = elim (eq-or-lt_of_le l) [
      | inl e ↦ le_of_eq (sym (bits_val y v g q j) ∙ ap val e ∙ bits_val x u f p i)
      | inr k ↦ le_of_lt (lt_of_le_of_lt (le_of_eq (sym (bits_val y v g q j)))
          (lt_of_lt_of_le (val_lt c b k) (le_of_eq (bits_val x u f p i))))
    ]

    between : suc b < c → ⊥
    between l =
        let w = of_bits binary32 (suc b) in
        let k : Is w (val (suc b)) = bits_are (suc b) (lt_of_lt_of_le l (le_of_lt (bits_lt y v g q j))) in
        let a : u < val (suc b) = lt_of_le_of_lt (le_of_eq (sym (bits_val x u f p i))) (val_next b) in
        let d : val (suc b) < v = lt_of_lt_of_le (val_lt (suc b) c l) (le_of_eq (bits_val y v g q j)) in
        none w (of_bits-fits binary32 (suc b))
        (subst T (sym (lt_is x w u (val (suc b)) i.is k)) (lt→ltb u (val (suc b)) a))
        (subst T (sym (lt_is w y (val (suc b)) v k j.is)) (lt→ltb (val (suc b)) v d))

    go : Dec (c ≤ b) → c ≡ suc b
    go (yes l) = absurd (not-le_of_lt h (val_le l))
    go (no n) = elim (eq-or-lt_of_le (lt_of_not-le n)) [ inl e ↦ sym e | inr k ↦ absurd (between k) ]
