-- What is written on the page is put into the buffer.
use Rattle.std.proofs.Common.{rules, arith}
use Rattle.text.proofs.Puts.{put, no_longer, whole_text}
use Rattle.root_sheet.proofs.Lengths.{sheet_short}
use Rattle.root_sheet.proofs.sheet.Goals as goal

pub returns : goal.returns
returns c =
    let few = sheet_short c.args.bits in
    let text = put c.new-page.ensures c.put_sheet.ensures (omega arith) (search rules) c.next_place.ensures in
    record { text = text; short = no_longer text few; whole = whole_text text }
