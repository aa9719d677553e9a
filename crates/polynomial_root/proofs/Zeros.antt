-- A zero of either sign, by its digits and by the tests against plus zero. Assumes nothing.
use Prim.Native.Nat.{ℕ, ◌*◌, ◌≤◌}
use native.Mathlib.Nat.{zero-mul}
use native.Mathlib.Omega.{arith}
use mathlib.Core.Path.{◌≡◌, sym, ap, ◌∙◌}
use mathlib.Core.Bool.{Bool, true, false, ◌||◌, beq}
use lib.IntN.{ℤ}
use lib.Dec.{T, eqb, eqb→eq}
use lib.Pow.{pow_pos}
use lib.Ieee.{fin, up, down, lt, le, eq, of_bits}
use lib.Ieee.Fits.{up_pos, and_i, and_l, eq→eqb}
use Rattle.number.specs.Number.{zero32}
use Rattle.number.proofs.Units.Compared.{no_size}
use Rattle.number.proofs.Units.{none_of}
use Rattle.number.proofs.Comparing.{or_r}
use Rattle.number.proofs.Signs.{le_of_tests, plus_up}

-- ---- no digits: equal to zero, not above and not below it
pub zero_eq : (s : Bool) (m : ℕ) (e : ℤ) → m ≡ 0 → T (eq (fin s m e) zero32)
unfolding eq of_bits
zero_eq s m e z =
    let a : m * up e * 1 ≡ 0 = omega (arith, ap (λ (x : ℕ). x * up e) z) in
    let b : m * up e * 1 ≡ 0 * down e = omega arith in
    and_i (eqb (m * up e * 1) (0 * down e)) (beq s false || eqb (m * up e * 1) 0) (eq→eqb b)
    (or_r (beq s false) (eqb (m * up e * 1) 0) (eq→eqb a))

pub zero_high : (s : Bool) (n : ℕ) (d : ℤ) → n ≡ 0 → T (le zero32 (fin s n d))
unfolding le lt eq of_bits
zero_high false n d z = plus_up (fin false n d) tt
zero_high true n d z =
    and_i (eqb (0 * down d) (n * up d * 1)) (eqb (0 * down d) 0)
    (eq→eqb (zero-mul (down d) ∙ sym (no_size n (up d) 1 z))) (eq→eqb (zero-mul (down d)))

pub zero_low : (s : Bool) (m : ℕ) (e : ℤ) → m ≡ 0 → T (le (fin s m e) zero32)
unfolding le
zero_low s m e z = or_r (lt (fin s m e) zero32) (eq (fin s m e) zero32) (zero_eq s m e z)

-- ---- and back: equal to zero, of sign plus and not above zero, of sign minus and not below it
pub eq_zero : (s : Bool) (m : ℕ) (e : ℤ) → T (eq (fin s m e) zero32) → m ≡ 0
unfolding eq of_bits
eq_zero s m e h =
    none_of m (up e) 1 (up_pos e) (pow_pos 0)
    (eqb→eq (m * up e * 1) (0 * down e)
    (and_l (eqb (m * up e * 1) (0 * down e)) (beq s false || eqb (m * up e * 1) 0) h)
    ∙ zero-mul (down e))

pub low_zero : (m : ℕ) (e : ℤ) → T (le (fin false m e) zero32) → m ≡ 0
unfolding le lt eq of_bits
low_zero m e h =
    none_of m (up e) 1 (up_pos e) (pow_pos 0)
    (least (m * up e * 1) (down e) (le_of_tests (m * up e * 1) (0 * down e) (eqb (m * up e * 1) (0 * down e))
    (eqb→eq (m * up e * 1) (0 * down e)) h))
  where
    least : (a b : ℕ) → a ≤ 0 * b → a ≡ 0
    least a b l = omega arith

pub high_zero : (m : ℕ) (e : ℤ) → T (le zero32 (fin true m e)) → m ≡ 0
unfolding le lt eq of_bits
high_zero m e h =
    none_of m (up e) 1 (up_pos e) (pow_pos 0)
    (sym (eqb→eq (0 * down e) (m * up e * 1) (and_l (eqb (0 * down e) (m * up e * 1)) (eqb (0 * down e) 0) h))
    ∙ zero-mul (down e))
