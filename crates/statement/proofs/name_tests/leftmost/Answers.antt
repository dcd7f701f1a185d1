-- `leftmost` is what `position` finds: the definition walks the tests from a place on, as `position_from` does.
use Rattle.std.proofs.Common.{◌≡◌, ℕ, Bool, true, false, not, List, [], ◌∷◌, Option, Some, None, Result, Ok, Err, refl, ap, ◌∙◌, rules, tests, add-one}
use Rattle.std.specs.List.{position_from}
use Rattle.std.proofs.lemmas.Iterator.{YieldsList-from_slice}
use Rattle.std.proofs.lemmas.Iterator.Search.{position_from_yields_List}
use Rattle.std.proofs.lemmas.Iterator.Adapters.{position_from-zero}
use Rattle.statement.specs.NameTests.{leftmost}
use Rattle.statement.proofs.name_tests.leftmost.Goals as goal

abbrev or_none : Option ℕ → Result (Unit {0}) ℕ
or_none (Some at) = Err at
or_none None = Ok tt

leftmost_position : (at : ℕ) (ts : List Bool) → or_none (position_from not at ts) ≡ leftmost at ts
leftmost_position at [] = refl
leftmost_position at (true ∷ ts) = rw add-one (leftmost_position _ ts)
leftmost_position at (false ∷ ts) = refl

pub returns-in-Some : goal.returns-in-Some
returns-in-Some c =
    let ts = c.args.tests.now in
    let e = position_from_yields_List not _ _ _ c.in-Some.ensures.ran (YieldsList-from_slice ts cc) (λ x b q k. search (rules, tests)) in
    ap or_none (e ∙ position_from-zero not ts) ∙ leftmost_position 0 ts

pub returns-in-None : goal.returns-in-None
returns-in-None c =
    let ts = c.args.tests.now in
    let e = position_from_yields_List not _ _ _ c.in-None.ensures.ran (YieldsList-from_slice ts cc) (λ x b q k. search (rules, tests)) in
    ap or_none (e ∙ position_from-zero not ts) ∙ leftmost_position 0 ts
