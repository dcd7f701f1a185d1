-- The test of all numbers of the range.
use Rattle.std.proofs.Common.{rules, tests, ℕ, Bool, ◌∙◌}
use Rattle.std.proofs.lemmas.Iterator.Search.{all_from_yields_List}
use Rattle.lines.specs.Values.{value_of, is_said}
use Rattle.lines.proofs.NumberedLaws.{numbers_up, all_numbers}
use Rattle.lines.proofs.readings.Reading.all_said.Goals as goal

pub returns : goal.returns
returns c =
    let a = c.args in
    let here : ℕ → Bool = λ v. is_said (value_of a.self.now.values v) in
    let range = c.new.ensures in
    all_from_yields_List here _ _ c.all.result c.all.ensures.ran (numbers_up a.most range.start range.end range.exhausted) (λ x b q k. search (rules, tests)) ∙ all_numbers here a.most
