-- `search_entries` starts with no term placed and nothing noted: what is found there is the first model.
use Rattle.std.proofs.Common.{ap, ◌∙◌}
use Rattle.cut.proofs.AskedLaws.{asked_before}
use Rattle.cut.proofs.SetLaws.{set_tests, declared_within}
use Rattle.mask.specs.Entries.{rows_of_entries}
use Rattle.search.specs.Answers.{shown}
use Rattle.search.specs.Tasks.{Task}
use Rattle.search.proofs.MemoLaws.{memo_start}
use Rattle.search.proofs.SearchedLaws.{found_first}
use Rattle.search.proofs.searches.search_entries.Goals as goal

pub invariant_of-finder : goal.invariant_of-finder
invariant_of-finder c =
    let a = c.args in
    record {
      few_terms = c.requires.few.0;
      few_sets = c.requires.few.1;
      declared = c.requires.declared;
      asked_are = asked_before set_tests a.terms c.terms_asked.result (rows_of_entries a.entries.now) (declared_within a.terms a.sets (rows_of_entries a.entries.now) c.requires.declared) c.terms_asked.ensures;
      remembered = memo_start a.entries.now a.sets;
    }

pub returns : goal.returns
returns c =
    let a = c.args in
    let task : Task = record { entries = a.entries.now; terms = a.terms; sets = a.sets; asked = c.terms_asked.result } in
    c.place.ensures.value ∙ ap shown (rw (c.none.ensures.arrangement, c.none.ensures.terms) (found_first task))
