-- `elements_inside` tests name after name.
use Rattle.std.proofs.Common.{arith, refl, ◌∙◌, rules, tests, ltb, get_or}
use Rattle.std.proofs.lemmas.Iterator.{YieldsList-from_range}
use Rattle.std.proofs.lemmas.Iterator.Search.{all_from_yields_List}
use Rattle.judge.specs.Models.{elements_inside}
use Rattle.judge.proofs.WalkLaws.{each_below}
use Rattle.judge.proofs.models.Model.elements_inside.Goals as goal

pub returns : goal.returns
unfolding elements_inside
returns c =
    let m = c.args.self.now in
    all_from_yields_List (λ a. ltb (get_or m.elements a 0) m.size) _ _ _ c.all.ensures.ran (YieldsList-from_range 0 c.args.names c.args.names refl (omega arith)) (λ x b q k. search (rules, tests))
    ∙ each_below _ c.args.names
