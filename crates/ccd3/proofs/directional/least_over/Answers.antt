use mathlib.Core.Path.{◌∙◌}
use Rattle.ccd3.proofs.Tables.{split_tables}
use Rattle.ccd3.proofs.directional.least_over.Goals as goal

pub returns : goal.returns
returns g c =
    c.over_sides.ensures
    ∙ split_tables c.args.x c.args.dx c.args.a _ g.row.SPLIT c.requires.least c.requires.most c.gap-r02.ensures
    c.gap-r03.ensures c.gap-r12.ensures c.gap-r13.ensures c.gap-r23.ensures c.time-t02.ensures c.time-t03.ensures
    c.time-t12.ensures c.time-t13.ensures c.time-t23.ensures
