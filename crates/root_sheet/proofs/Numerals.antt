-- A numeral by its whole part and its fraction, and a number of binary places taken apart into them. Assumes nothing.
use mathlib.Core.Path.{◌≡◌, sym, ap, ◌∙◌}
use mathlib.Core.Bool.{true, false}
use mathlib.Core.List.{◌++◌, append-nil}
use Prim.Native.Nat.{ℕ, ◌+◌, ◌-◌, ◌*◌, ◌/◌, ◌%◌, ◌^◌, ◌≤◌, ◌<◌}
use native.Mathlib.Nat.{lt_of_le_of_lt, div-le_self, div-add-mod', mod-lt, mul_assoc, add-mul, mul-lt-mul_of_pos_right}
use native.Mathlib.Omega.{arith}
use borrow.Author.Tests.{eq-eqb, ne_eqb}
use lib.Pow.{pow-add, pow_pos, shl_exact}
use Rattle.std.proofs.lemmas.Bool.Decides.{nat_tests}
use Rattle.text.specs.Text.{codes, decimal}
use Rattle.number.specs.declared.by_hand.Argument.{Argument}
use Rattle.root_sheet.specs.RootSheet.{places, numeral, difference, is_plain, value}

module _ (whole fraction : ℕ) (h : fraction < 2 ^ 60) where
  above : (whole * 2 ^ 60 + fraction) / 2 ^ 60 ≡ whole
  above = omega arith

  below : (whole * 2 ^ 60 + fraction) % 2 ^ 60 ≡ fraction
  below = omega arith

  pub numeral_whole : fraction ≡ 0 → decimal whole ≡ numeral (whole * 2 ^ 60 + fraction)
  unfolding numeral
  numeral_whole e = rw (above, below, eq-eqb fraction 0 e, append-nil)

  pub numeral_part : (fraction ≡ 0 → ⊥)
      → decimal whole ++ (codes "." ++ places 60 fraction) ≡ numeral (whole * 2 ^ 60 + fraction)
  unfolding numeral
  numeral_part n = rw (above, below, ne_eqb fraction 0 n)

-- ---- digits / 2 ^ k, as the code takes it apart
module _ (digits k : ℕ) (h : digits < 2 ^ 24) (l : k ≤ 60) where
  abbrev whole : ℕ
  whole = digits / 2 ^ k

  abbrev rest : ℕ
  rest = digits % 2 ^ k

  split : whole * 2 ^ k + rest ≡ digits
  split = div-add-mod' digits (2 ^ k)

  pub back_is : whole * 2 ^ k % 18446744073709551616 ≡ whole * 2 ^ k
  back_is = let e = split in omega arith

  pub back_le : whole * 2 ^ k % 18446744073709551616 ≤ digits
  back_le = let e = split in omega (arith, back_is)

  rest_is : digits - whole * 2 ^ k % 18446744073709551616 ≡ rest
  rest_is = let e = split in omega (arith, back_is)

  scale : 2 ^ k * 2 ^ (60 - k) ≡ 2 ^ 60
  scale = sym (pow-add 2 k (60 - k)) ∙ ap (λ (j : ℕ). 2 ^ j) (let e : k + (60 - k) ≡ 60 = omega arith in e)

  part_lt : rest * 2 ^ (60 - k) < 2 ^ 60
  part_lt =
      let m = mul-lt-mul_of_pos_right {k = 2 ^ (60 - k)} (mod-lt digits (pow_pos k)) (pow_pos (60 - k)) in
      omega (arith, scale)

  part_is : (digits - whole * 2 ^ k % 18446744073709551616) * 2 ^ (60 - k) % 18446744073709551616 ≡ rest * 2 ^ (60 - k)
  part_is =
      ap (λ (r : ℕ). r * 2 ^ (60 - k) % 18446744073709551616) rest_is ∙ (let p = part_lt in omega arith)

  pub part_short : (digits - whole * 2 ^ k % 18446744073709551616) * 2 ^ (60 - k) % 18446744073709551616 < 2 ^ 60
  part_short = let p = part_lt in omega (arith, part_is)

  pub whole_short : whole < 2 ^ 24
  whole_short = lt_of_le_of_lt (div-le_self digits (2 ^ k)) h

  pub joined : whole * 2 ^ 60 + (digits - whole * 2 ^ k % 18446744073709551616) * 2 ^ (60 - k) % 18446744073709551616
      ≡ digits * 2 ^ (60 - k)
  joined =
      ap (λ (p : ℕ). whole * 2 ^ 60 + p) part_is
      ∙ ap (λ (q : ℕ). whole * q + rest * 2 ^ (60 - k)) (sym scale)
      ∙ ap (λ (q : ℕ). q + rest * 2 ^ (60 - k)) (sym (mul_assoc whole (2 ^ k) (2 ^ (60 - k))))
      ∙ sym (add-mul (whole * 2 ^ k) rest (2 ^ (60 - k)))
      ∙ ap (λ (d : ℕ). d * 2 ^ (60 - k)) split

-- ---- a number as it is, or with a power of two
pub plain_range : (e : ℕ) → is_plain e ≡ true → (113 ≤ e) × (e ≤ 181)
unfolding is_plain
plain_range e h = grind (arith, nat_tests)

pub value_plain : (a : Argument) → is_plain a.exponent ≡ true
    → numeral (a.digits * 2 ^ (a.exponent - 113)) ≡ value a
unfolding value
value_plain a h = rw h

pub value_scaled : (a : Argument) → is_plain a.exponent ≡ false
    → numeral (a.digits * 2 ^ 37) ++ codes " * 2^" ++ difference a.exponent 150 ≡ value a
unfolding value
value_scaled a h = rw h

-- a whole number, as the code makes it
pub raised : (d k : ℕ) → d < 2 ^ 24 → 173 ≤ k → k ≤ 181
    → d * 2 ^ (k - 173) % 4294967296 * 2 ^ 60 + 0 ≡ d * 2 ^ (k - 113)
raised d k h l u =
    let e : d * 2 ^ (k - 173) % 4294967296 ≡ d * 2 ^ (k - 173) = shl_exact 24 (k - 173) 32 h (omega arith) in
    let j : k - 173 + 60 ≡ k - 113 = omega arith in
    let p : d * 2 ^ (k - 113) ≡ d * 2 ^ (k - 173) * 2 ^ 60 =
    ap (λ (i : ℕ). d * 2 ^ i) (sym j)
    ∙ ap (λ (q : ℕ). d * q) (pow-add 2 (k - 173) 60)
    ∙ sym (mul_assoc d (2 ^ (k - 173)) (2 ^ 60)) in
    omega arith
