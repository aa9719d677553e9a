-- The sheets of an argument follow each other by the rule of the digit, and the last one ends at its root.
-- Assumes nothing.
use mathlib.Core.Path.{◌≡◌, refl, sym, ap, ◌∙◌, subst}
use Prim.Native.Nat.{ℕ, zero, suc, ◌+◌, ◌-◌, ◌*◌, ◌/◌, ◌%◌, ◌^◌, ◌≤◌, ◌<◌}
use native.Mathlib.Nat.{lt_of_not-le}
use native.Mathlib.Numerals.{add-one}
use native.Mathlib.Omega.{arith}
use native.Mathlib.Decide.{dec_le}
use lib.Dec.{T}
use lib.Ieee.{Float, binary32, fits, of_bits}
use lib.Pow.{pow-add, pow_mono, pow_pos}
use Rattle.number.specs.declared.by_hand.Sheet.{Sheet}
use Rattle.number.specs.Number.{root_of}
use Rattle.number.specs.ByHand.{argument_of, number_of, sheet_at, sheet_after}
use Rattle.number.specs.Inner.{OnSheet}
use Rattle.number.proofs.SquareRoot.Digits.{number_short, sheet_rounded}
use Rattle.number.proofs.SquareRoot.Bits.{root_is}
use Rattle.number.proofs.SquareRoot.Sheet.{digit_zero, digit_one, sheet_blank, sheet_is, twice_short, left_short}
use Rattle.number.proofs.SquareRoot.Taken.{Taken, digits_short}

-- half a place is the next one
pub halved : (done : ℕ) → done < 25 → 2 ^ (25 - done) ≡ 2 * 2 ^ (25 - (done + 1))
halved done h = ap (λ (j : ℕ). 2 ^ j) (back done h) ∙ pow-add 2 1 (25 - (done + 1))
  where
    back : (done : ℕ) → done < 25 → 25 - done ≡ 1 + (25 - (done + 1))
    back done h = omega arith

-- ---- by the rule of the digit: the trial fits into what is left, doubled, or it does not
module _ (n place : ℕ) (s : Sheet) (o : OnSheet n (2 * place) s) where
  next : (r : Sheet) × OnSheet n place r
  next = go (dec_le (s.twice + place) (s.left * 2))
    where
      go : Dec (s.twice + place ≤ s.left * 2) → (r : Sheet) × OnSheet n place r
      go (yes h) = (_, digit_one n place s o (s.left * 2 - (s.twice + place)) (omega arith))
      go (no h) = (_, digit_zero n place s o (s.left * 2) refl (lt_of_not-le h))

module _ (n : ℕ) (h : n < 2 ^ 25) where
  on_some : (j : ℕ) → j ≤ 25 → (s : Sheet) × OnSheet (n * 2 ^ 25) (2 ^ (25 - j)) s
  on_some zero l = (_, sheet_blank n (2 ^ 25) h)
  on_some (suc j) l =
      let b = on_some j (omega arith) in
      let e = halved j (omega arith) in
      rw add-one at
      (next (n * 2 ^ 25) (2 ^ (25 - (j + 1))) b.0 (subst (λ (q : ℕ). OnSheet (n * 2 ^ 25) q b.0) e b.1))

  on_sheet : (j : ℕ) → j ≤ 25 → OnSheet (n * 2 ^ 25) (2 ^ (25 - j)) (sheet_at (n * 2 ^ 25) (2 ^ (25 - j)))
  on_sheet j l =
      let b = on_some j l in
      subst (OnSheet (n * 2 ^ 25) (2 ^ (25 - j)))
      (sheet_is (n * 2 ^ 25) (2 ^ (25 - j)) (pow_pos (25 - j)) (omega arith) b.0 b.1) b.1

module _ (x : Float) (f : T (fits binary32 x)) where
  abbrev n : ℕ
  n = (argument_of x).digits * 2 ^ ((argument_of x).exponent % 2)

  pub short : n < 2 ^ 25
  short = number_short (argument_of x).digits (argument_of x).exponent (digits_short x f)

  after : (j : ℕ) → j ≤ 25 → OnSheet (n * 2 ^ 25) (2 ^ (25 - j)) (sheet_after x j)
  unfolding sheet_after number_of
  after j l = on_sheet n short j l

  pub is_after : (j : ℕ) (r : Sheet) → OnSheet (n * 2 ^ 25) (2 ^ (25 - j)) r → r ≡ sheet_after x j
  unfolding sheet_after number_of
  is_after j r o =
      sheet_is (n * 2 ^ 25) (2 ^ (25 - j)) (pow_pos (25 - j)) (let h = short in omega arith) r o

  -- there are no more than 25 digits
  pub no_more : (j : ℕ) → 25 ≤ j → sheet_after x 25 ≡ sheet_after x j
  unfolding sheet_after
  no_more j h =
      let e : 0 ≡ 25 - j = omega arith in ap (λ (k : ℕ). sheet_at (number_of (argument_of x)) (2 ^ k)) e

  pub sheet_room : (j : ℕ) → j ≤ 25 → ((sheet_after x j).twice < 2 ^ 26) × ((sheet_after x j).left < 2 ^ 27)
  sheet_room j l =
      let s = sheet_after x j in
      let h : n * 2 ^ 25 < 2 ^ 50 = let h = short in omega arith in
      let p = pow_mono {i = 25 - j} {j = 25} (omega arith) in (
        twice_short (n * 2 ^ 25) (2 ^ (25 - j)) h s (after j l),
        omega (arith, left_short (n * 2 ^ 25) (2 ^ (25 - j)) h s (after j l)),
      )

  module _ (j : ℕ) (l : j < 25) where
    abbrev place : ℕ
    place = 2 ^ (25 - (j + 1))

    abbrev s : Sheet
    s = sheet_after x j

    before : OnSheet (n * 2 ^ 25) (2 * place) s
    before = subst (λ (q : ℕ). OnSheet (n * 2 ^ 25) q s) (halved j l) (after j (omega arith))

    -- the trial does not fit: what is left is counted in half the place
    pub sheet_none : s.left * 2 < s.twice + place
        → sheet_after x (j + 1) ≡ record { twice = s.twice; left = s.left * 2 }
    sheet_none h = sym (is_after (j + 1) _ (digit_zero (n * 2 ^ 25) place s before (s.left * 2) refl h))

    -- it fits: it is taken away, and the digit is written
    pub sheet_one : s.twice + place ≤ s.left * 2
        → sheet_after x (j + 1)
        ≡ record { twice = s.twice + place + place; left = s.left * 2 - (s.twice + place) }
    sheet_one h =
        sym (is_after (j + 1) _
        (digit_one (n * 2 ^ 25) place s before (s.left * 2 - (s.twice + place)) (omega arith)))

  -- the digits after the rounding, with half the exponent, are the root's
  pub sheet_root : Taken x (argument_of x)
      → root_of x
      ≡ of_bits binary32 (((argument_of x).exponent / 2 + 51) * 2 ^ 23 + ((sheet_after x 25).twice + 2) / 4)
  sheet_root t =
      let p = (argument_of x).digits in
      let k = (argument_of x).exponent in
      root_is p k _ t.low t.high t.short
      (sheet_rounded p k t.low t.high (sheet_after x 25) (after 25 (omega arith)) _ refl) x t.scale t.above
      t.finite
