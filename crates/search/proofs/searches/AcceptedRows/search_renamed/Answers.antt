-- `search_renamed` searches entries that say the renamed rows: they have the same first model.
use Rattle.std.proofs.Common.{sym, ap, subst, ◌∙◌, ◌^◌, map, T, arith}
use Rattle.theory.specs.Sets.{fits, row_declared}
use Rattle.theory.proofs.SameRowLaws.{first_model_same}
use Rattle.theory.proofs.RenamingLaws.{rows_declared_too}
use Rattle.row.specs.Rows.{row_of}
use Rattle.row.proofs.AcceptedRows.{rows_keep, all_declared}
use Rattle.search.specs.Answers.{shown}
use Rattle.search.specs.Renamings.{new_name}
use Rattle.search.proofs.searches.AcceptedRows.search_renamed.Goals as goal

pub gather-count-requires : goal.gather-count-requires
gather-count-requires c = let r = c.args.self.now in omega (arith, (rows_keep r.terms r.sets r.rows.now r.accepted).few_rows)

pub search_entries-requires-clause-few : goal.search_entries-requires-clause-few
search_entries-requires-clause-few c =
    let r = c.args.self.now in
    let kept = rows_keep r.terms r.sets r.rows.now r.accepted in
    (kept.few_terms, kept.few_sets)

pub search_entries-requires-clause-declared : goal.search_entries-requires-clause-declared
search_entries-requires-clause-declared c =
    let r = c.args.self.now in
    let kept = rows_keep r.terms r.sets r.rows.now r.accepted in
    let declared = rows_declared_too r.terms r.sets (new_name c.args.to) c.requires (map row_of r.rows.now) (all_declared r.terms r.sets r.rows.now kept.all_good) in
    subst T (sym (c.gather-count.ensures.gathered.says (row_declared r.terms r.sets))) declared

pub returns : goal.returns
returns c =
    let r = c.args.self.now in
    c.search_entries.ensures ∙ ap shown (first_model_same fits (2 ^ r.sets) _ _ c.gather-count.ensures.gathered.says r.terms)
