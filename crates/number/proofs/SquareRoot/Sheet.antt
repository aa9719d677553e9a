-- The sheet of a number: one digit more keeps it a sheet of that number, and it is the one that the definition says.
-- Assumes nothing.
use mathlib.Core.Path.{◌≡◌, sym, ap, ◌∙◌}
use Prim.Native.Nat.{ℕ, ◌+◌, ◌-◌, ◌*◌, ◌/◌, ◌^◌, ◌≤◌, ◌<◌, zero-le}
use native.Mathlib.Nat.{le_trans, le_of_eq, lt_of_lt_of_le, lt_of_le_of_lt, lt_of_not-le, lt_irrefl, mul-le-mul}
use native.Mathlib.Nat.{mul-one, mul-le-mul_left, mul-le-mul_right, mul-div_cancel}
use native.Mathlib.Omega.{arith}
use lib.Dec.{T, leb, le→leb, leb→le, not_T}
use Rattle.number.specs.declared.by_hand.Sheet.{Sheet}
use Rattle.number.specs.ByHand.{digits_to, sheet_at}
use Rattle.number.specs.Inner.{OnSheet}
use Rattle.number.proofs.SquareRoot.Nearest.{search_finds}

-- ---- one digit more: the digits are doubled, and what is left is counted in half the place
module _ (n place : ℕ) (s : Sheet) (o : OnSheet n (2 * place) s) where
  -- the trial does not fit
  pub digit_zero : (left : ℕ) → s.left * 2 ≡ left → left < s.twice + place
      → OnSheet n place (record { twice = s.twice; left = left })
  digit_zero left e l =
      let d = o.double in
      let r = o.remains in
      record {
        digits = 2 * o.digits;
        double = omega arith;
        remains = omega (arith, ap (λ (y : ℕ). y * place) e);
        small = omega arith;
      }

  -- it fits, and so much is left
  pub digit_one : (left : ℕ) → s.left * 2 ≡ s.twice + place + left
      → OnSheet n place (record { twice = s.twice + place + place; left = left })
  digit_one left e =
      let d = o.double in
      let r = o.remains in
      let t = o.small in
      record {
        digits = 2 * o.digits + 1;
        double = omega arith;
        remains = omega (arith, ap (λ (y : ℕ). y * place) e, ap (λ (y : ℕ). y * place) d);
        small = omega arith;
      }

-- nothing is written yet
pub sheet_blank : (n place : ℕ) → n < place → OnSheet (n * place) place (record { twice = 0; left = n })
sheet_blank n place h = record {
  digits = 0;
  double = omega arith;
  remains = omega arith;
  small = omega arith;
}

module _ (n place : ℕ) (short : n < 2 ^ 50) (s : Sheet) (o : OnSheet n place s) where
  root_short : o.digits * place < 2 ^ 25
  root_short = lt_of_not-le (λ (g : 2 ^ 25 ≤ o.digits * place).
      let r = o.remains in
      lt_irrefl (2 ^ 50) (lt_of_le_of_lt (le_trans (mul-le-mul g g) (omega arith)) short))

  -- there is room for it
  pub twice_short : s.twice < 2 ^ 26
  twice_short = let d = o.double in omega (arith, root_short)

  pub left_short : s.left < 2 ^ 26 + place
  left_short = let l = o.small in omega (arith, root_short)

-- ---- the sheet is the one that the definition says
module _ (n place : ℕ) (some : 0 < place) (short : n < 2 ^ 50) (s : Sheet) (o : OnSheet n place s) where
  abbrev d : ℕ
  d = o.digits

  fits : (c : ℕ) → c ≤ d → T (leb (c * place * (c * place)) n)
  fits c h =
      let m = mul-le-mul_right place h in
      le→leb (c * place * (c * place)) n (le_trans (mul-le-mul m m) (let r = o.remains in omega arith))

  over : (c : ℕ) → d < c → n < c * place * (c * place)
  over c h =
      let g : d + 1 ≤ c = omega arith in
      let m : (d + 1) * place ≤ c * place = mul-le-mul_right place g in
      lt_of_lt_of_le under (mul-le-mul m m)
    where
      under : n < (d + 1) * place * ((d + 1) * place)
      under =
          let r = o.remains in
          let u = o.small in
          let t : s.left + 1 ≤ 2 * (d * place) + place = omega arith in
          omega (arith, mul-le-mul_right place t)

  count_short : d < 2 ^ 25
  count_short =
      lt_of_le_of_lt (le_trans (le_of_eq (sym (mul-one d))) (mul-le-mul_left d some)) (root_short n place short s o)

  digits_are : digits_to n place ≡ d
  unfolding digits_to
  digits_are =
      search_finds (λ (r : ℕ). leb (r * place * (r * place)) n) d fits
      (λ c h. not_T (leb (c * place * (c * place)) n) (λ (t : T (leb (c * place * (c * place)) n)).
      lt_irrefl n (lt_of_lt_of_le (over c h) (leb→le (c * place * (c * place)) n t))))
      25 0 zero-le count_short

  left_is : (n - d * place * (d * place)) / place ≡ s.left
  left_is =
      let e : n - d * place * (d * place) ≡ s.left * place = let r = o.remains in omega arith in
      ap (λ (y : ℕ). y / place) e ∙ mul-div_cancel s.left some

  pub sheet_is : s ≡ sheet_at n place
  unfolding sheet_at
  sheet_is =
      let f : digits_to n place * place ≡ d * place = ap (λ (y : ℕ). y * place) digits_are in
      sym (ap (λ (y : ℕ). record { twice = 2 * y; left = (n - y * y) / place }) f
      ∙ ap (λ (y : ℕ). record { twice = y; left = (n - d * place * (d * place)) / place }) (sym o.double)
      ∙ ap (λ (y : ℕ). record { twice = s.twice; left = y }) left_is)
