use Rattle.std.proofs.Common.{rules, ◌∙◌, arith}
use Rattle.std.proofs.lemmas.Iterator.{YieldsList-from_slice, YieldsList-from_zip}
use Rattle.std.proofs.lemmas.Iterator.Consumers.{YieldsList-at, fold_from_yields_List}
use Rattle.motion.proofs.Columns.{entry_step, column_folded}
use Rattle.motion.proofs.factors.larger_column.Goals as goal

pub returns : goal.returns
returns c =
    fold_from_yields_List _ (entry_step c.args.max_t) c.args.most c.fold.result c.fold.ensures.ran
    (YieldsList-from_zip (YieldsList-at c.zip.ensures.first (YieldsList-from_slice c.args.v (cc)))
    (YieldsList-from_slice c.args.d (cc)))
    (λ a x b q k. search rules)
    ∙ column_folded c.args.max_t c.args.most c.args.v c.args.d (omega arith) (omega arith)
