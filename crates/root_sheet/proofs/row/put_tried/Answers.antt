-- Text after text, the last by whether the trial fits.
use Rattle.std.proofs.Common.{lt-ltb, le-ltb}
use Rattle.text.proofs.Puts.{and_then}
use Rattle.root_sheet.specs.RootSheet.{tried}
use Rattle.root_sheet.proofs.row.put_tried.Goals as goal
use Rattle.root_sheet.proofs.row.put_tried.Goals.{then-left-trial, else-left-trial}

pub returns : goal.returns
unfolding tried
returns c =
    let cells = and_then (and_then c.put_cell.ensures c.put_cell-2.ensures) c.put_cell-3.ensures in
    elim c.if-left-trial.branch [
      | then-left-trial w ↦ rw (lt-ltb _ _ w.if-left-trial.true) (and_then cells (rw w.bytes-is at c.bytes.ensures))
      | else-left-trial w ↦ rw (le-ltb _ _ w.if-left-trial.false) (and_then cells (rw w.bytes-is at c.bytes.ensures))
    ]
