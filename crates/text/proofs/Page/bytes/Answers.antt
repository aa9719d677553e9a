-- What stands before the end is written.
use Rattle.std.proofs.Common.{refl, arith}
use Rattle.text.proofs.Sets.{sets_shown}
use Rattle.text.proofs.Page.bytes.Goals as goal

pub returns : goal.returns
returns c =
    let copied = c.copy_from_slice.ensures.after in
    record {
      same_buffer = refl;
      fits = omega arith;
      wrote = sets_shown _ _ _ _ _ _ _ c.min-start.ensures c.min-shown.ensures copied (omega arith);
      moved = omega arith;
    }
