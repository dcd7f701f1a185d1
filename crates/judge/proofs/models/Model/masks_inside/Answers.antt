-- `masks_inside` tests the mask of each domain element.
use Rattle.std.proofs.Common.{arith, refl, ◌∙◌, rules, tests, ◌^◌, ltb, get_or}
use Rattle.std.proofs.lemmas.Iterator.{YieldsList-from_range}
use Rattle.std.proofs.lemmas.Iterator.Search.{all_from_yields_List}
use Rattle.judge.specs.Models.{masks_inside}
use Rattle.judge.proofs.WalkLaws.{each_below}
use Rattle.judge.proofs.models.Model.masks_inside.Goals as goal

pub returns : goal.returns
unfolding masks_inside
returns c =
    let m = c.args.self.now in
    all_from_yields_List (λ d. ltb (get_or m.masks d 0) (2 ^ c.args.sets)) _ _ _ c.all.ensures.ran (YieldsList-from_range 0 m.size m.size refl (omega arith)) (λ x b q k. search (rules, tests))
    ∙ each_below _ m.size
