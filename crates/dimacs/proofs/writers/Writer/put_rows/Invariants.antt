use Rattle.std.proofs.Common.{map}
use Rattle.row.specs.Rows.{row_of}
use Rattle.clauses.specs.Clauses.{for_each, row_clauses}
use Rattle.dimacs.proofs.WroteLaws.{Left, rows_from}
use Rattle.dimacs.proofs.writers.Writer.put_rows.Given as goal

abbrev pub invariant-loop-row : goal.invariant-loop-row
invariant-loop-row l =
    let T = l.shape.terms in
    let S = l.shape.sets in
    Left l.initial.self (for_each (map row_of l.rows) (row_clauses T S)) l.self (rows_from (row_clauses T S) l.rows l.row-index)
