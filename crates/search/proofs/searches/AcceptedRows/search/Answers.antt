-- `search` searches the renamed rows. Where they have no model, there is none; else the first model has the same arrangement.
use Rattle.std.proofs.Common.{sym, ap, ◌∙◌}
use Rattle.row.proofs.AcceptedRows.{RowsAccepted, rows_keep, all_declared}
use Rattle.search.specs.declared.searches.AcceptedRows.{AcceptedRows}
use Rattle.search.specs.Answers.{shown}
use Rattle.search.proofs.RenamedLaws.{first_plain, none_found, found_placing, found_again}
use Rattle.search.proofs.searches.AcceptedRows.search.Goals as goal

kept : (r : AcceptedRows) → RowsAccepted r.terms r.sets r.rows.now
kept r = rows_keep r.terms r.sets r.rows.now r.accepted

pub by_weight-to-requires : goal.by_weight-to-requires
by_weight-to-requires c = (kept c.args.self.now).few_sets

pub back_from-back-requires : goal.back_from-back-requires
back_from-back-requires c = (kept c.args.self.now).few_sets

pub is_renaming-requires : goal.is_renaming-requires
is_renaming-requires c = (kept c.args.self.now).few_sets

pub returns-then-not-is_renaming : goal.returns-then-not-is_renaming
returns-then-not-is_renaming c =
    let r = c.args.self.now in
    c.search_renamed.ensures ∙ ap shown (first_plain r.terms r.sets r.rows.now (all_declared r.terms r.sets r.rows.now (kept r).all_good) (kept r).few_sets)

pub returns-in_err-found : goal.returns-in_err-found
returns-in_err-found c =
    let r = c.args.self.now in
    c.from_residual.ensures ∙ none_found r.terms r.sets r.rows.now (all_declared r.terms r.sets r.rows.now (kept r).all_good) c.by_weight-to.result c.back_from-back.result (c.is_renaming.ensures c.if-not-is_renaming.false) (sym c.in_err-found.was ∙ c.search_renamed-2.ensures)

pub model_again-requires : goal.model_again-requires
model_again-requires c =
    let r = c.args.self.now in
    found_placing r.terms r.sets r.rows.now (all_declared r.terms r.sets r.rows.now (kept r).all_good) c.by_weight-to.result c.back_from-back.result (c.is_renaming.ensures c.if-not-is_renaming.false) c.in_ok-found.found (sym c.in_ok-found.was ∙ c.search_renamed-2.ensures) (kept r).few_terms

pub returns : goal.returns
returns c =
    let r = c.args.self.now in
    c.model_again.ensures ∙ ap shown (found_again r.terms r.sets r.rows.now (all_declared r.terms r.sets r.rows.now (kept r).all_good) c.by_weight-to.result c.back_from-back.result (c.is_renaming.ensures c.if-not-is_renaming.false) c.in_ok-found.found (sym c.in_ok-found.was ∙ c.search_renamed-2.ensures) (kept r).few_terms)
