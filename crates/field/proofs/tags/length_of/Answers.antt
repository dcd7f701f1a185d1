-- `length_of` finds the entry of the tag, and asks what the file knows of it.
use Rattle.std.proofs.Common.{eqb, rules, tests, sym, ap, ◌∙◌}
use Rattle.std.specs.Option.{option_and_then, option_map}
use Rattle.std.proofs.lemmas.Iterator.{YieldsList-from_slice}
use Rattle.std.proofs.lemmas.Iterator.Search.{find_from_yields_List}
use Rattle.field.specs.declared.tags.Entry.{Entry}
use Rattle.field.specs.Tags.{field_table, known_of}
use Rattle.field.proofs.TagLaws.{rule}
use Rattle.field.proofs.tags.length_of.Goals as goal

pub returns-in_err-e : goal.returns-in_err-e
returns-in_err-e c =
    let a = c.args in
    let entry = find_from_yields_List (λ (e : Entry). eqb e.0 a.tag) _ _ c.find.result c.find.ensures.ran (YieldsList-from_slice field_table cc) (λ x b q k. search (rules, tests)) in
    c.from_residual.ensures
    ∙ sym (rule a.file a.tag ∙ ap (option_and_then (known_of a.file)) (sym entry ∙ ap (option_map (λ e. e.now)) c.in_err-e.was))

pub returns : goal.returns
returns c =
    let a = c.args in
    let entry = find_from_yields_List (λ (e : Entry). eqb e.0 a.tag) _ _ c.find.result c.find.ensures.ran (YieldsList-from_slice field_table cc) (λ x b q k. search (rules, tests)) in
    c.known_of.ensures
    ∙ sym (rule a.file a.tag ∙ ap (option_and_then (known_of a.file)) (sym entry ∙ ap (option_map (λ e. e.now)) c.in_ok-e.was))
