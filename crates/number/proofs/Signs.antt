-- Which values have the sign plus, and so are not below zero: squares, what is above such a value, and sums, products and
-- quotients of such values; and a quotient that is not below zero whatever the sign of a zero is. Assumes nothing.
pub use Rattle.number.proofs.Ranges.{power, minus_power, le_of_tests, within_tests}
pub use Rattle.number.proofs.Quotients.{AtLeast, div_within, eighth_within}
use mathlib.Core.Path.{◌≡◌, sym, ap, ◌∙◌, subst}
use mathlib.Core.Logic.{inl, inr}
use mathlib.Core.Bool.{Bool, true, false, not, ◌&&◌, cond}
use Prim.Native.Nat.{ℕ, zero, suc, ◌+◌, ◌*◌, ◌≤◌, ◌<◌}
use native.Mathlib.Nat.{zero-mul, eq-zero-or-pos, mul-pos}
use native.Mathlib.Omega.{arith}
use lib.Dec.{T, ltb, eqb, ltb→lt, lt→ltb, le→leb, nltb→le, eqb→eq}
use lib.Ieee.{Float, nan, inf, fin, binary32, up, down, round, add, mul, div, lt, le, is_nan, of_bits}
use lib.Ieee.Fits.{up_pos, down_pos, and_i, eq→eqb}
use lib.Ieee.Positive.{positive}
use lib.Ieee.Scale.{finite}
use Rattle.number.specs.Number.{zero32}
use Rattle.number.proofs.Units.{plus}
use Rattle.number.proofs.Plus.{round_plus}
use Rattle.number.proofs.Within.{or_l, or_r}
use Rattle.number.proofs.Zeros.{Zero, zero_of, round_none}

pub plus_up : (x : Float) → T (plus x) → T (le zero32 x)
unfolding le of_bits
plus_up nan p = elim p [ ]
plus_up (inf true) p = elim p [ ]
plus_up (fin true m e) p = elim p [ ]
plus_up (inf false) p = tt
plus_up (fin false m e) p = elim (eq-zero-or-pos (m * up e * 1)) [
  | inl z ↦ or_r (ltb (0 * down e) (m * up e * 1)) (eqb (0 * down e) (m * up e * 1) && true)
      (and_i (eqb (0 * down e) (m * up e * 1)) true (eq→eqb (zero-mul (down e) ∙ sym z)) tt)
  | inr l ↦ or_l (ltb (0 * down e) (m * up e * 1)) (eqb (0 * down e) (m * up e * 1) && true)
      (le→leb (suc (0 * down e)) (m * up e * 1) (subst (λ (x : ℕ). x < m * up e * 1) (sym (zero-mul (down e))) l))
]

-- what is above something with the sign plus has it too
pub above_plus : (x y : Float) → T (plus x) → T (lt x y) → T (plus y)
unfolding lt
above_plus nan y p h = elim p [ ]
above_plus (inf true) y p h = elim p [ ]
above_plus (fin true m e) y p h = elim p [ ]
above_plus (fin false m e) (inf false) p h = tt
above_plus (fin false m e) (inf true) p h = h
above_plus (fin false m e) (fin false n d) p h = tt
above_plus (fin false m e) (fin true n d) p h = h
above_plus (fin false m e) nan p h = h
above_plus (inf false) nan p h = h
above_plus (inf false) (inf true) p h = h
above_plus (inf false) (inf false) p h = tt
above_plus (inf false) (fin t n d) p h = absurd h

pub square_plus : (x : Float) → T (finite x) → T (plus (mul binary32 x x))
unfolding mul
square_plus nan f = elim f [ ]
square_plus (inf _) f = elim f [ ]
square_plus (fin true m e) f = round_plus (m * up e * (m * up e)) (down e * down e)
square_plus (fin false m e) f = round_plus (m * up e * (m * up e)) (down e * down e)

pub sum_plus : (x y : Float) → T (plus x) → T (plus y) → T (plus (add binary32 x y))
unfolding add
sum_plus nan y p q = elim p [ ]
sum_plus (inf false) nan p q = elim q [ ]
sum_plus (inf false) (inf true) p q = elim q [ ]
sum_plus (inf false) (fin true n d) p q = elim q [ ]
sum_plus (inf true) y p q = elim p [ ]
sum_plus (fin false m e) nan p q = elim q [ ]
sum_plus (fin false m e) (inf true) p q = elim q [ ]
sum_plus (fin false m e) (fin true n d) p q = elim q [ ]
sum_plus (fin true m e) y p q = elim p [ ]
sum_plus (inf false) (inf false) p q = tt
sum_plus (inf false) (fin false n d) p q = tt
sum_plus (fin false m e) (inf false) p q = tt
sum_plus (fin false m e) (fin false n d) p q = round_plus (m * up e * down d + n * up d * down e) (down e * down d)

-- a product and a quotient, where nothing is 0 times or over an infinity
pub product_plus : (x y : Float) → T (finite x) → T (finite y) → T (plus x) → T (plus y) → T (plus (mul binary32 x y))
unfolding mul
product_plus nan y f g p q = elim f [ ]
product_plus (inf _) y f g p q = elim f [ ]
product_plus (fin false m e) nan f g p q = elim g [ ]
product_plus (fin false m e) (inf _) f g p q = elim g [ ]
product_plus (fin false m e) (fin true n d) f g p q = elim q [ ]
product_plus (fin true m e) y f g p q = elim p [ ]
product_plus (fin false m e) (fin false n d) f g p q = round_plus (m * up e * (n * up d)) (down e * down d)

pub quotient_plus : (x y : Float) → T (finite x) → T (positive y) → T (plus x) → T (plus (div binary32 x y))
unfolding div
quotient_plus nan y f g p = elim f [ ]
quotient_plus (inf _) y f g p = elim f [ ]
quotient_plus (fin false m e) nan f g p = elim g [ ]
quotient_plus (fin false m e) (inf _) f g p = elim g [ ]
quotient_plus (fin false m e) (fin true n d) f g p = elim g [ ]
quotient_plus (fin true m e) y f g p = elim p [ ]
quotient_plus (fin false m e) (fin false n d) f g p = go (eqb n 0) (eqb→eq n 0)
  where
    no : (n : ℕ) → 0 < n → n ≡ 0 → ⊥
    no n h e = omega arith

    go : (b : Bool) → (T b → n ≡ 0)
        → T (plus (cond b (cond (eqb m 0) nan (inf false))
        (round binary32 false (m * up e * down d) (n * up d * down e))))
    go true z = absurd (no n (ltb→lt 0 n g) (z tt))
    go false z = round_plus (m * up e * down d) (n * up d * down e)

-- ---- not below zero
-- what is above zero has digits
pub positive_of : (x : Float) → T (lt zero32 x) → T (finite x) → T (positive x)
unfolding lt of_bits
positive_of nan h f = elim h [ ]
positive_of (inf _) h f = elim f [ ]
positive_of (fin false n d) h f = lt→ltb 0 n (some n (up d) (down d) (ltb→lt (0 * 1 * down d) (n * up d * 1) h))
  where
    some : (n u d : ℕ) → 0 * 1 * d < n * u * 1 → 0 < n
    some zero u d h = omega arith
    some (suc n) u d h = omega arith
positive_of (fin true n d) h f = absurd h

zero_up : (x : Float) → Zero x → T (le zero32 x)
unfolding le of_bits
zero_up x (zero_of {s = true}) = tt
zero_up x (zero_of {s = false}) = tt

-- what is not below zero over what is above it is not below zero, where it is no NaN
pub quotient_up : (x y : Float) → T (not (lt x zero32)) → T (lt zero32 y) → T (not (is_nan (div binary32 x y)))
    → T (le zero32 (div binary32 x y))
unfolding div lt le is_nan of_bits
quotient_up nan y h k n = absurd n
quotient_up (inf true) y h k n = absurd h
quotient_up (inf false) nan h k n = absurd n
quotient_up (inf false) (inf t) h k n = absurd n
quotient_up (inf false) (fin true b d) h k n = absurd k
quotient_up (inf false) (fin false b d) h k n = tt
quotient_up (fin s m e) nan h k n = absurd n
quotient_up (fin s m e) (inf true) h k n = absurd k
quotient_up (fin true m e) (inf false) h k n = tt
quotient_up (fin false m e) (inf false) h k n = tt
quotient_up (fin s m e) (fin true b d) h k n = absurd k
quotient_up (fin false m e) (fin false b d) h k n =
    plus_up (div binary32 (fin false m e) (fin false b d))
    (quotient_plus (fin false m e) (fin false b d) tt (positive_of (fin false b d) k tt) tt)
quotient_up (fin true m e) (fin false b d) h k n = go (eqb b 0) (eqb→eq b 0)
  where
    none : (a c : ℕ) → a * 1 + 0 * 1 * c ≤ 0 → a ≡ 0
    none a c h = omega arith

    no : (a : ℕ) → 0 < a → a ≡ 0 → ⊥
    no a h z = omega arith

    some : 0 < b
    some = ltb→lt 0 b (positive_of (fin false b d) k tt)

    empty : m * up e * down d ≡ 0
    empty =
        ap (λ (a : ℕ). a * down d) (none (m * up e) (down e) (nltb→le 0 (m * up e * 1 + 0 * 1 * down e) h))
        ∙ zero-mul (down d)

    go : (c : Bool) → (T c → b ≡ 0)
        → T (le zero32 (cond c (cond (eqb m 0) nan (inf true))
        (round binary32 true (m * up e * down d) (b * up d * down e))))
    go true z = absurd (no b some (z tt))
    go false z =
        zero_up (round binary32 true (m * up e * down d) (b * up d * down e))
        (round_none true (m * up e * down d) (b * up d * down e) empty (mul-pos (mul-pos some (up_pos d)) (down_pos e)))
