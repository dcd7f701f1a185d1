-- The place of the first separator, as the iterator finds it.
use Rattle.std.proofs.Common.{rules, tests, eqb, length, ap, unwrap_or, sym, ◌∙◌}
use Rattle.std.proofs.lemmas.Iterator.{YieldsList-from_slice}
use Rattle.std.proofs.lemmas.Iterator.Search.{position_from_yields_List}
use Rattle.text.proofs.UntilLaws.{until_found}
use Rattle.text.proofs.pieces.piece_length.Goals as goal

pub returns-in-Some : goal.returns-in-Some
returns-in-Some c =
    let a = c.args in
    let found = position_from_yields_List (λ b. eqb b a.separator) _ _ c.position.result c.position.ensures.ran (YieldsList-from_slice a.bytes.now cc) (λ x b q k. search (rules, tests)) in
    ap (λ o. unwrap_or o (length a.bytes.now)) (sym c.in-Some.is ∙ found) ∙ until_found a.separator a.bytes.now

pub returns-in-None : goal.returns-in-None
returns-in-None c =
    let a = c.args in
    let found = position_from_yields_List (λ b. eqb b a.separator) _ _ c.position.result c.position.ensures.ran (YieldsList-from_slice a.bytes.now cc) (λ x b q k. search (rules, tests)) in
    ap (λ o. unwrap_or o (length a.bytes.now)) (sym c.in-None.is ∙ found) ∙ until_found a.separator a.bytes.now
