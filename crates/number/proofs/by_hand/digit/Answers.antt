-- `digit`: whether the trial fits or not.
use Rattle.std.proofs.Common.{◌≡◌, ℕ, ◌*◌, ◌%◌, ◌^◌, ◌<◌, sym, arith}
use Rattle.number.proofs.SquareRoot.Sheet.{digit_zero, digit_one}
use Rattle.number.proofs.by_hand.digit.Goals as goal

-- what is left has room to be doubled
doubled : (left : ℕ) → left < 2 ^ 31 → left * 2 % 4294967296 ≡ left * 2
doubled left h = omega arith

pub returns-then-left-trial : goal.returns-then-left-trial
returns-then-left-trial c n o =
    digit_zero n c.args.place c.args.s o _ (sym (doubled c.args.s.left c.requires.0)) c.if-left-trial.true

pub returns-else-left-trial : goal.returns-else-left-trial
returns-else-left-trial c n o =
    let e = doubled c.args.s.left c.requires.0 in
    digit_one n c.args.place c.args.s o _ (omega (arith, c.if-left-trial.false))
