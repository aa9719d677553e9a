use Rattle.std.proofs.Common.{rules, ◌∙◌, arith}
use Rattle.std.proofs.lemmas.Iterator.{YieldsList-from_slice, YieldsList-from_zip}
use Rattle.std.proofs.lemmas.Iterator.Consumers.{YieldsList-at, fold_from_yields_List}
use Rattle.number.specs.Number.{zero32}
use Rattle.motion.proofs.Columns.{column_step, entries_folded}
use Rattle.motion.proofs.factors.max_entry.Goals as goal

pub returns : goal.returns
returns c =
    fold_from_yields_List _ (column_step c.args.max_t) zero32 c.fold.result c.fold.ensures.ran
    (YieldsList-from_zip (YieldsList-at c.zip.ensures.first (YieldsList-from_slice c.args.x (cc)))
    (YieldsList-from_slice c.args.dx (cc)))
    (λ a x b q k. search rules)
    ∙ entries_folded c.args.max_t c.args.x c.args.dx (omega arith) (omega arith)
