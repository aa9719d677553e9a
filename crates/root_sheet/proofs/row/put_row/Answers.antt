-- Text after text.
use Rattle.std.proofs.Common.{◌≡◌, ℕ, ◌*◌, ◌%◌, ◌^◌, ◌<◌, arith}
use Rattle.text.proofs.Puts.{and_then}
use Rattle.root_sheet.specs.RootSheet.{row}
use Rattle.root_sheet.proofs.row.put_row.Goals as goal

-- what is left has room to be doubled
doubled : (left : ℕ) → left < 2 ^ 27 → left * 2 % 4294967296 ≡ left * 2
doubled left h = omega arith

pub returns : goal.returns
unfolding row
returns c =
    let first = rw (doubled c.args.s.left c.requires.2) at c.put_tried.ensures in
    and_then (and_then (and_then first c.put_cell.ensures) c.hex.ensures.written) c.bytes.ensures
