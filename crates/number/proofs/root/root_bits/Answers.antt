-- `root_bits`: the digits are those of the root, rounded by one more.
use Rattle.std.proofs.Common.{◌≡◌, ℕ, ◌+◌, ◌*◌, ◌%◌, ◌^◌, ◌≤◌, ◌<◌, subst, arith}
use Rattle.number.specs.declared.by_hand.Argument.{Argument}
use Rattle.number.specs.declared.by_hand.Sheet.{Sheet}
use Rattle.number.specs.Inner.{OnSheet}
use Rattle.number.proofs.SquareRoot.Digits.{number_short, sheet_short, sheet_rounded}
use Rattle.number.proofs.SquareRoot.Sheet.{twice_short, left_short}
use Rattle.number.proofs.root.root_bits.Goals as goal

-- of the argument a and its number n: 24 digits are on the sheet s, and r has the one that rounds
module _ (a : Argument) (low : 2 ^ 23 ≤ a.digits) (high : a.digits < 2 ^ 24) (n : ℕ)
    (e : n ≡ a.digits * 2 ^ (a.exponent % 2)) (s : Sheet) (o : OnSheet (n * 2 ^ 25) 2 s) where
  written : OnSheet (a.digits * 2 ^ (a.exponent % 2) * 2 ^ 25) 2 s
  written = subst (λ (m : ℕ). OnSheet (m * 2 ^ 25) 2 s) e o

  room : (s.left < 2 ^ 31) × (s.twice + 2 < 2 ^ 32)
  room =
      let m = a.digits * 2 ^ (a.exponent % 2) in
      let l : m * 2 ^ 25 < 2 ^ 50 = let h = number_short a.digits a.exponent high in omega arith in (
        omega (arith, left_short (m * 2 ^ 25) 2 l s written),
        omega (arith, twice_short (m * 2 ^ 25) 2 l s written),
      )

  rounds : (r : Sheet) → ((m : ℕ) → OnSheet m 2 s → OnSheet m 1 r)
      → OnSheet (a.digits * 2 ^ (a.exponent % 2) * 2 ^ 25) 1 r
  rounds r f = f (a.digits * 2 ^ (a.exponent % 2) * 2 ^ 25) written

  rounded_short : (r : Sheet) → ((m : ℕ) → OnSheet m 2 s → OnSheet m 1 r) → r.twice < 2 ^ 26
  rounded_short r f = sheet_short a.digits a.exponent low high r (rounds r f)

pub worked-requires : goal.worked-requires
worked-requires c =
    let e = c.even.ensures in
    (omega (arith, number_short c.args.a.digits c.args.a.exponent c.requires.1), omega arith)

pub digit-s-requires : goal.digit-s-requires
digit-s-requires c =
    let l = room c.args.a c.requires.0 c.requires.1 _ c.even.ensures c.worked.result c.worked.ensures in
    (l.0, omega (arith, l.1))

pub overflow_add-result-2 : goal.overflow_add-result-2
overflow_add-result-2 c =
    omega (
      arith,
      rounded_short c.args.a c.requires.0 c.requires.1 _ c.even.ensures c.worked.result c.worked.ensures
          c.digit-s.result c.digit-s.ensures,
    )

pub overflow_add-result-3 : goal.overflow_add-result-3
overflow_add-result-3 c =
    omega (
      arith,
      rounded_short c.args.a c.requires.0 c.requires.1 _ c.even.ensures c.worked.result c.worked.ensures
          c.digit-s.result c.digit-s.ensures,
    )

pub returns : goal.returns
returns c =
    let a = c.args.a in
    let h = c.requires.2 in
    sheet_rounded a.digits a.exponent c.requires.0 c.requires.1 c.digit-s.result
    (rounds a c.requires.0 c.requires.1 _ c.even.ensures c.worked.result c.worked.ensures c.digit-s.result
    c.digit-s.ensures)
    _ (omega arith)
