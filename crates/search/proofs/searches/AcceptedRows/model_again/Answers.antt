-- `model_again` takes the smallest masks under the plain numbers.
use Rattle.std.proofs.Common.{sym, ap, subst, ◌∙◌, T, arith}
use Rattle.theory.specs.Sets.{row_declared}
use Rattle.row.proofs.AcceptedRows.{rows_keep, all_declared}
use Rattle.search.specs.Answers.{shown}
use Rattle.search.proofs.RenamedLaws.{plain_says, model_plain}
use Rattle.search.proofs.searches.AcceptedRows.model_again.Goals as goal

pub gather-count-requires : goal.gather-count-requires
gather-count-requires c = let r = c.args.self.now in omega (arith, (rows_keep r.terms r.sets r.rows.now r.accepted).few_rows)

pub model-requires-clause-sets_le_max_sets : goal.model-requires-clause-sets_le_max_sets
model-requires-clause-sets_le_max_sets c = let r = c.args.self.now in (rows_keep r.terms r.sets r.rows.now r.accepted).few_sets

pub model-requires-clause-declared : goal.model-requires-clause-declared
model-requires-clause-declared c =
    let r = c.args.self.now in
    let kept = rows_keep r.terms r.sets r.rows.now r.accepted in
    let declared = all_declared r.terms r.sets r.rows.now kept.all_good in
    rw c.all-placed.ensures.terms (subst T (sym (plain_says r.terms r.sets r.rows.now declared kept.few_sets _ _ c.gather-count.ensures.gathered (row_declared r.terms r.sets))) declared)

pub returns : goal.returns
returns c =
    let r = c.args.self.now in
    let kept = rows_keep r.terms r.sets r.rows.now r.accepted in
    let declared = all_declared r.terms r.sets r.rows.now kept.all_good in
    rw (← c.all-placed.ensures.terms, ← c.all-placed.ensures.arrangement) (c.model.ensures ∙ ap shown (model_plain r.terms r.sets r.rows.now declared kept.few_sets _ _ c.gather-count.ensures.gathered _))
