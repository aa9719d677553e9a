-- After i turns the first i lines are written.
use Rattle.text.specs.Text.{Written}
use Rattle.root_sheet.specs.RootSheet.{rows}
use Rattle.root_sheet.proofs.row.put_rows.Given as goal

abbrev pub invariant-loop-i : goal.invariant-loop-i
invariant-loop-i l = Written l.initial.page (rows l.x l.i) l.page
