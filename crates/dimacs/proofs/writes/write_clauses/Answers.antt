-- `write_clauses` reduces the question; a refusal is the table's, and the rows of an accepted one make its text.
use mathlib.Core.Path.{sym, ap, ◌∙◌}
use Rattle.std.proofs.lemmas.Result.{err_from_is_err_and}
use native.Mathlib.Omega.{arith}
use lib.ListN.{length, replicate}
use lib.Seq.{length-take-le}
use Rattle.outcome.specs.Writes.{fitted, fitted_over}
use Rattle.question.proofs.AcceptedLaws.{accepted}
use Rattle.reduction.proofs.WrittenRows.{rows_told, rows_stand}
use Rattle.clauses.proofs.CountLaws.{text_short}
use Rattle.dimacs.proofs.WriterLaws.{refused_writes, accepted_writes, rows_text, rows_refused}
use Rattle.dimacs.proofs.writes.write_clauses.Goals as goal

pub overflow_cast-shape : goal.overflow_cast-shape
overflow_cast-shape c =
    let q = c.args.q in
    let told = rows_told q 768 _ (sym c.reduce.ensures.0 ∙ c.in_ok-count.was) in
    omega (arith, c.terms.ensures, told.0.few_terms)

pub slice_bounds-rows-end : goal.slice_bounds-rows-end
slice_bounds-rows-end c = (rows_stand c.args.q (replicate 768 0) c.reduce.new.rows _ c.reduce.ensures.1 (sym c.reduce.ensures.0 ∙ c.in_ok-count.was)).0

pub slice_bounds-write_table-end : goal.slice_bounds-write_table-end
slice_bounds-write_table-end c = sym (length-take-le _ _ (rows_stand c.args.q (replicate 768 0) c.reduce.new.rows _ c.reduce.ensures.1 (sym c.reduce.ensures.0 ∙ c.in_ok-count.was)).0)

pub write_table-requires : goal.write_table-requires
write_table-requires c =
    let q = c.args.q in
    let told = rows_told q 768 _ (sym c.reduce.ensures.0 ∙ c.in_ok-count.was) in
    let stand = rows_stand q (replicate 768 0) c.reduce.new.rows _ c.reduce.ensures.1 (sym c.reduce.ensures.0 ∙ c.in_ok-count.was) in
    omega (arith, ap length (rows_text q told.0 c.terms.ensures stand.1), text_short q told.0)

pub returns-in_err-count : goal.returns-in_err-count
returns-in_err-count c =
    let a = c.args in
    let p = err_from_is_err_and c.from_residual.result c.from_residual.ensures.1 in
    let left = refused_writes a.q a.buf.now _ (rows_refused a.q _ (sym c.reduce.ensures.0 ∙ c.in_err-count.was)) in
    rw (p.1, p.2) (sym left.0, sym left.1)

pub returns : goal.returns
returns c =
    let a = c.args in
    let q = a.q in
    let told = rows_told q 768 _ (sym c.reduce.ensures.0 ∙ c.in_ok-count.was) in
    let stand = rows_stand q (replicate 768 0) c.reduce.new.rows _ c.reduce.ensures.1 (sym c.reduce.ensures.0 ∙ c.in_ok-count.was) in
    let text = rows_text q told.0 c.terms.ensures stand.1 in
    let left = accepted_writes q a.buf.now ((accepted q).1 told.0) in
    (c.write_table.ensures.value ∙ ap (λ t. fitted t (length a.buf.now)) text ∙ sym left.0, c.write_table.ensures.buf_after ∙ ap (λ t. fitted_over t a.buf.now) text ∙ sym left.1)
