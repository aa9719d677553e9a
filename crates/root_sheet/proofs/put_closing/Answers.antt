-- Text after text.
use Rattle.text.proofs.Puts.{and_then}
use Rattle.root_sheet.specs.RootSheet.{closing}
use Rattle.root_sheet.proofs.put_closing.Goals as goal

pub returns : goal.returns
unfolding closing
returns c =
    let line = rw (c.sheet_after-s.ensures.sheet, c.sheet_after-t.ensures.sheet) at c.put_row.ensures in
    let last = rw c.sheet_after-t.ensures.sheet at c.hex.ensures.written in
    and_then (and_then (and_then (and_then c.bytes.ensures line) c.bytes-2.ensures) last) c.bytes-3.ensures
