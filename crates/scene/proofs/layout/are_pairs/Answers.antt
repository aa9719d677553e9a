-- Each pair is tested once.
use Rattle.std.proofs.Common.{◌∙◌, refl, rules, arith}
use borrow.Author.Tests.{tests}
use Rattle.std.proofs.lemmas.Iterator.{YieldsList-from_range}
use Rattle.std.proofs.lemmas.Iterator.Search.{all_from_yields_List}
use Rattle.scene.specs.Inner.{pair_part}
use Rattle.scene.specs.Scene.{is_pair}
use Rattle.scene.proofs.Parts.{each_pair}
use Rattle.scene.proofs.layout.are_pairs.Goals as goal

pub returns : goal.returns
returns c =
    let file = c.args.file in
    let s = file.bytes.now in
    all_from_yields_List (λ i. is_pair (pair_part s i) 0 file.point_count) _ _ _ c.all.ensures.ran
    (YieldsList-from_range 0 file.pair_count file.pair_count refl (omega arith)) (λ x b q k. search (rules, tests))
    ∙ each_pair s file.point_count file.points_said file.pair_count
