-- `put_rows` goes from row to row, with the clauses of those that are left behind it.
use Rattle.std.proofs.Common.{sym, ap, subst, ◌∙◌, arith}
use Rattle.row.specs.Rows.{row_of_parts, row_of}
use Rattle.clauses.specs.Clauses.{row_clauses}
use Rattle.dimacs.specs.Walks.{wrote, Room}
use Rattle.dimacs.proofs.WroteLaws.{rows_room, rows_turn, rows_end}
use Rattle.dimacs.proofs.writers.Writer.put_rows.Goals as goal

pub put_row-requires : goal.put_row-requires
unfolding row_of
put_row-requires c =
    let a = c.args in
    let l = c.loop-row in
    let f = row_clauses a.shape.terms a.shape.sets in
    subst (λ r. Room l.self (f r)) (sym (ap row_of_parts c.unpack.ensures)) (rows_room f a.rows.now l.row-index l.invariant (omega arith))

pub loop-row-preserved : goal.loop-row-preserved
unfolding row_of
loop-row-preserved c =
    let a = c.args in
    let l = c.loop-row in
    let f = row_clauses a.shape.terms a.shape.sets in
    rows_turn f a.rows.now l.row-index l.invariant (omega arith) (c.put_row.ensures ∙ ap (λ p. wrote l.self (f (row_of_parts p))) c.unpack.ensures)

pub returns : goal.returns
returns c =
    let a = c.args in
    let l = c.loop-row in
    rows_end (row_clauses a.shape.terms a.shape.sets) a.rows.now l.row-index l.invariant (omega arith)
