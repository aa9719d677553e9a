-- `even`: the last digit of the exponent says whether it is odd.
use Rattle.std.proofs.Common.{ℕ, ◌*◌, ◌%◌, ◌^◌, ap, ◌∙◌, arith}
use lib.Bits.{and_mask}
use lib.Pow.{shl_exact}
use Rattle.number.proofs.by_hand.even.Goals as goal

pub returns : goal.returns
returns c =
    let a = c.args.a in
    ap (λ (j : ℕ). a.digits * 2 ^ j % 4294967296) (and_mask a.exponent 1)
    ∙ shl_exact 24 (a.exponent % 2) 32 c.requires (omega arith)
