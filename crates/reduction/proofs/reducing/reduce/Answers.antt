-- `reduce` passes the table's refusal on, and else writes the rows of the table.
use Rattle.std.proofs.Common.{sym, ◌∙◌}
use Rattle.std.proofs.lemmas.Result.{err_from_is_err_and}
use Rattle.reduction.proofs.TableRows.{refused, as_table}
use Rattle.reduction.proofs.reducing.reduce.Goals as goal

pub returns-in_err-check : goal.returns-in_err-check
returns-in_err-check c =
    let p = err_from_is_err_and c.from_residual.result c.from_residual.ensures.1 in
    let left = refused c.args.q c.args.rows.now _ (sym c.check.ensures ∙ c.in_err-check.was) in
    rw (p.1, p.2) (sym left.0, sym left.1)

pub returns : goal.returns
returns c =
    let a = c.args in
    let w = c.write_rows.ensures in
    let same = as_table a.q a.rows.now (sym c.check.ensures ∙ c.in_ok-check.was) in
    (w.0 ∙ sym same.0, w.1 ∙ sym same.1)
