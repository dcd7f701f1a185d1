-- `at_each_element` tests each domain element in turn.
use Rattle.std.proofs.Common.{arith, refl, ◌∙◌, rules, tests}
use Rattle.std.proofs.lemmas.Iterator.{YieldsList-from_range}
use Rattle.std.proofs.lemmas.Iterator.Search.{all_from_yields_List}
use Rattle.judge.specs.Models.{assigned}
use Rattle.judge.specs.Elements.{at_element}
use Rattle.judge.proofs.WalkLaws.{each_below}
use Rattle.judge.proofs.models.Model.at_each_element.Goals as goal

pub returns : goal.returns
returns c =
    let m = c.args.self.now in
    all_from_yields_List (at_element (assigned m) c.args.s) _ _ _ c.all.ensures.ran (YieldsList-from_range 0 m.size m.size refl (omega arith)) (λ x b q k. search (rules, tests))
    ∙ each_below _ m.size
