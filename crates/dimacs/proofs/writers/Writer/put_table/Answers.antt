-- `put_table` writes the three parts of the clauses one behind the other.
use Rattle.std.proofs.Common.{◌++◌, map, ◌∙◌}
use Rattle.row.specs.Rows.{row_of}
use Rattle.clauses.specs.Clauses.{for_each, triples, pairs, row_clauses, table_clauses}
use Rattle.dimacs.proofs.WroteLaws.{left_start, left_room, left_turn}
use Rattle.dimacs.proofs.writers.Writer.put_table.Goals as goal

pub put_triples-requires : goal.put_triples-requires
unfolding table_clauses
put_triples-requires c =
    let a = c.args in
    let T = a.shape.terms in
    let S = a.shape.sets in
    let rows = for_each (map row_of a.rows.now) (row_clauses T S) in
    left_room (triples T S) (pairs T S ++ rows) (left_start a.self.now (table_clauses T S (map row_of a.rows.now)) c.requires)

pub put_pairs-requires : goal.put_pairs-requires
unfolding table_clauses
put_pairs-requires c =
    let a = c.args in
    let T = a.shape.terms in
    let S = a.shape.sets in
    let rows = for_each (map row_of a.rows.now) (row_clauses T S) in
    let start = left_start a.self.now (table_clauses T S (map row_of a.rows.now)) c.requires in
    left_room (pairs T S) rows (left_turn (triples T S) (pairs T S ++ rows) start c.put_triples.ensures)

pub put_rows-requires : goal.put_rows-requires
unfolding table_clauses
put_rows-requires c =
    let a = c.args in
    let T = a.shape.terms in
    let S = a.shape.sets in
    let rows = for_each (map row_of a.rows.now) (row_clauses T S) in
    let start = left_start a.self.now (table_clauses T S (map row_of a.rows.now)) c.requires in
    (left_turn (pairs T S) rows (left_turn (triples T S) (pairs T S ++ rows) start c.put_triples.ensures) c.put_pairs.ensures).room

pub returns : goal.returns
unfolding table_clauses
returns c =
    let a = c.args in
    let T = a.shape.terms in
    let S = a.shape.sets in
    let rows = for_each (map row_of a.rows.now) (row_clauses T S) in
    let start = left_start a.self.now (table_clauses T S (map row_of a.rows.now)) c.requires in
    let last = left_turn (pairs T S) rows (left_turn (triples T S) (pairs T S ++ rows) start c.put_triples.ensures) c.put_pairs.ensures in
    c.put_rows.ensures ∙ last.same
