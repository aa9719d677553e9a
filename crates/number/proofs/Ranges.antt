-- What the range tests of specs/Number.antt tell: finite, of what size at most, of what size at least. And the size of
-- a constant by its bit pattern. Assumes nothing.
use mathlib.Core.Path.{◌≡◌, refl, sym, ap, ◌∙◌, subst}
use mathlib.Core.Logic.{inl, inr}
use mathlib.Core.Bool.{Bool, true, false, ◌&&◌, ◌||◌}
use Prim.Native.Nat.{ℕ, suc, ◌+◌, ◌-◌, ◌*◌, ◌^◌, ◌≤◌, ◌<◌}
use native.Mathlib.Nat.{le_trans, le_of_eq, lt_of_le_of_lt, eq-zero-or-pos, le_of_lt, mul-one}
use native.Mathlib.Omega.{arith}
use lib.Dec.{T, eqb, eqb→eq, lt→ltb, ltb, ltb→lt, lit<}
use lib.IntN.{pos, negsuc}
use lib.Pow.{pow-add}
use lib.Ieee.{Float, inf, fin, binary32, up, down, neg, lt, le, of_bits, nan}
use lib.Ieee.Fits.{and_i, and_l, and_r, down_pos}
use lib.Ieee.Order.{le_of_values}
use lib.Ieee.Scale.{finite}
use Rattle.number.specs.Number.{zero32, one32, bound, in_bound, zero_to_bound, zero_to_one, above_zero_to_one}
use Rattle.number.specs.Number.{speed_range, inf_bits}
use Rattle.number.proofs.Units.{L}
use Rattle.number.proofs.Within.{Within, within_finite, units_within}
use Rattle.number.proofs.Quotients.{AtLeast}
use Rattle.number.proofs.Comparing.{lt_le, minus_plus, turned}
use Rattle.number.proofs.Patterns.{val, weight, val_le, bits_are}

-- ---- a constant of sign plus: its pattern is at most that of 2 ^ a
pub bits_within : (a b : ℕ) → a ≤ 127 → b ≤ (127 + a) * 8388608 → Within a (of_bits binary32 b)
bits_within a b l h =
    let top = (127 + a) * 8388608 in
    units_within a (of_bits binary32 b) (val b) (bits_are b (lt_of_le_of_lt h (room a l)))
    (le_trans (val_le b top h) (le_of_eq (power_val a)))
  where
    room : (a : ℕ) → a ≤ 127 → (127 + a) * 8388608 < inf_bits
    room a l = omega arith

    field : (a : ℕ) → weight ((127 + a) * 8388608) ≡ 126 + a
    field a = omega arith

    one : (a : ℕ) → (127 + a) * 8388608 - (126 + a) * 8388608 ≡ 8388608
    one a = omega arith

    power_val : (a : ℕ) → val ((127 + a) * 8388608) ≡ 2 ^ a * L
    power_val a =
        ap (λ (w : ℕ). ((127 + a) * 8388608 - w * 8388608) * 2 ^ w) (field a)
        ∙ ap (λ (n : ℕ). n * 2 ^ (126 + a)) (one a)
        ∙ sym (pow-add 2 23 (126 + a))
        ∙ ap (λ (n : ℕ). 2 ^ n) (sum a)
        ∙ pow-add 2 a 149
      where
        sum : (a : ℕ) → 23 + (126 + a) ≡ a + 149
        sum a = omega arith

-- ---- `Within` from tests: -2 ^ a ≤ x and x ≤ 2 ^ a
abbrev pub power : ℕ → Float
power a = fin false 1 (pos a)

abbrev pub minus_power : ℕ → Float
minus_power a = fin true 1 (pos a)

pub le_of_tests : (A B : ℕ) (c : Bool) → (T c → A ≡ B) → T (ltb A B || (c && true)) → A ≤ B
le_of_tests A B c f t = go (ltb A B) c (ltb→lt A B) f t
  where
    go : (b c : Bool) → (T b → A < B) → (T c → A ≡ B) → T (b || (c && true)) → A ≤ B
    go true c g f t = le_of_lt (g tt)
    go false true g f t = le_of_eq (f tt)
    go false false g f t = absurd t

plain : (a m u d : ℕ) → m * u * 1 ≤ 1 * a * d → m * u ≤ a * d
plain a m u d h = omega arith

pub within_tests : (a : ℕ) (x : Float) → T (le (minus_power a) x) → T (le x (power a)) → Within a x
unfolding le
within_tests a nan h k = h
within_tests a (inf true) h k = h
within_tests a (inf false) h k = k
within_tests a (fin false m e) h k =
    plain (2 ^ a) m (up e) (down e)
    (le_of_tests (m * up e * 1) (1 * 2 ^ a * down e) (eqb (m * up e * 1) (1 * 2 ^ a * down e))
    (eqb→eq (m * up e * 1) (1 * 2 ^ a * down e)) k)
within_tests a (fin true m e) h k =
    plain (2 ^ a) m (up e) (down e)
    (le_of_tests (m * up e * 1) (1 * 2 ^ a * down e) (eqb (1 * 2 ^ a * down e) (m * up e * 1))
    (λ t. sym (eqb→eq (1 * 2 ^ a * down e) (m * up e * 1) t)) h)

-- ---- from zero to 2 ^ a
pub within_above : (a : ℕ) (x : Float) → T (le zero32 x) → T (le x (power a)) → Within a x
unfolding le of_bits
within_above a nan h k = elim h [ ]
within_above a (inf true) h k = elim h [ ]
within_above a (inf false) h k = absurd k
within_above a (fin false m e) h k = within_tests a (fin false m e) (minus_plus 1 (pos a) m e) k
within_above a (fin true m e) h k =
    let z = eqb→eq (0 * down e) (m * up e * 1) (and_l (eqb (0 * down e) (m * up e * 1)) (eqb (0 * down e) 0) h) in
    none (m * up e) (down e) (2 ^ a * down e) z
  where
    none : (k d p : ℕ) → 0 * d ≡ k * 1 → k ≤ p
    none k d p e = omega arith

-- ---- at least 2 ^ -b
pub at_least_tests : (b : ℕ) (x : Float) → T (finite x) → T (le (fin false 1 (negsuc b)) x) → AtLeast (suc b) x
unfolding le
at_least_tests b nan f h = elim f [ ]
at_least_tests b (inf _) f h = elim f [ ]
at_least_tests b (fin false m e) f h =
    let k = 1 * 1 * down e in
    let n = m * up e * 2 ^ suc b in
    le_trans (le_of_eq (sym (plain (down e)))) (le_of_tests k n (eqb k n) (eqb→eq k n) h)
  where
    plain : (d : ℕ) → 1 * 1 * d ≡ d
    plain d = omega arith
at_least_tests b (fin true m e) f h =
    let k = 1 * 1 * down e in
    let n = m * up e * 2 ^ suc b in
    absurd (some (down e) (down_pos e) (eqb→eq k 0 (and_r (eqb k n) (eqb k 0) h)))
  where
    some : (d : ℕ) → 0 < d → 1 * 1 * d ≡ 0 → ⊥
    some d h e = omega arith

-- what is not below a number above zero is above zero
-- the ends of the range of speeds
abbrev least_speed : Float
least_speed = of_bits binary32 0x2180_0000

abbrev most_speed : Float
most_speed = of_bits binary32 0x5d80_0000

above_least : (x : Float) → T (le least_speed x) → T (lt zero32 x)
unfolding le of_bits
above_least nan h = elim h [ ]
above_least (inf true) h = elim h [ ]
above_least (inf false) h = tt
above_least (fin false m e) h =
    let k = 1 * 1 * down e in
    let n = m * up e * 2 ^ 60 in
    lt→ltb (0 * down e) (m * up e * 1)
    (some (m * up e) (down e) (2 ^ 60) (down_pos e) (le_of_tests k n (eqb k n) (eqb→eq k n) h))
  where
    some : (k d p : ℕ) → 0 < d → 1 * 1 * d ≤ k * p → 0 * d < k * 1
    some k d p D h = elim (eq-zero-or-pos k) [
      | inl z ↦ absurd (no d p D (subst (λ (n : ℕ). 1 * 1 * d ≤ n * p) z h))
      | inr l ↦ (omega arith)
    ]
      where
        no : (d p : ℕ) → 0 < d → 1 * 1 * d ≤ 0 * p → ⊥
        no d p D h = omega arith
above_least (fin true m e) h =
    let k = 1 * 1 * down e in
    let n = m * up e * 2 ^ 60 in
    absurd (some (down e) (down_pos e) (eqb→eq k 0 (and_r (eqb k n) (eqb k 0) h)))
  where
    some : (d : ℕ) → 0 < d → 1 * 1 * d ≡ 0 → ⊥
    some d h e = omega arith

-- ---- the tests
pub in_bound_lem : (x : Float) → T (in_bound x) → Within 20 x
unfolding of_bits neg
in_bound_lem x h =
    within_tests 20 x (and_l (le (neg bound) x) (le x bound) h) (and_r (le (neg bound) x) (le x bound) h)

pub within_bound : (x : Float) → Within 20 x → T (in_bound x)
unfolding of_bits neg
within_bound nan h = elim h [ ]
within_bound (inf _) h = elim h [ ]
within_bound (fin s m e) h = go s
  where
    under : T (le (fin false m e) (power 20))
    under =
        le_of_values (fin false m e) (power 20) (m * up e) (down e) (2 ^ 20) 1 (down_pos e) (lit< tt) (refl, refl)
        (refl, refl) (le_trans (le_of_eq (mul-one (m * up e))) h)

    go : (s : Bool) → T (in_bound (fin s m e))
    go false =
        and_i (le (minus_power 20) (fin false m e)) (le (fin false m e) (power 20)) (minus_plus 1 (pos 20) m e) under
    go true =
        and_i (le (minus_power 20) (fin true m e)) (le (fin true m e) (power 20)) (turned m e 1 (pos 20) under)
        (minus_plus m e 1 (pos 20))

pub zero_to_bound_lem : (x : Float) → T (zero_to_bound x) → T (le zero32 x) × Within 20 x
unfolding of_bits
zero_to_bound_lem x h =
    let low = and_l (le zero32 x) (le x bound) h in
    (low, within_above 20 x low (and_r (le zero32 x) (le x bound) h))

pub zero_to_one_lem : (x : Float) → T (zero_to_one x) → T (le zero32 x) × T (le x one32) × Within 0 x
unfolding of_bits
zero_to_one_lem x h =
    let low = and_l (le zero32 x) (le x one32) h in
    let high = and_r (le zero32 x) (le x one32) h in
    (low, high, within_above 0 x low high)

pub above_zero_to_one_lem : (x : Float) → T (above_zero_to_one x) → T (lt zero32 x) × T (le x one32) × Within 0 x
unfolding of_bits
above_zero_to_one_lem x h =
    let low = and_l (lt zero32 x) (le x one32) h in
    let high = and_r (lt zero32 x) (le x one32) h in
    (low, high, within_above 0 x (lt_le zero32 x low) high)

pub speed_range_lem : (x : Float) → T (speed_range x) → T (lt zero32 x) × AtLeast 60 x × Within 60 x
unfolding of_bits
speed_range_lem x h =
    let low = and_l (le least_speed x) (le x most_speed) h in
    let high = and_r (le least_speed x) (le x most_speed) h in
    let a = above_least x low in
    let w = within_above 60 x (lt_le zero32 x a) high in
    (a, at_least_tests 59 x (within_finite 60 x w) low, w)
