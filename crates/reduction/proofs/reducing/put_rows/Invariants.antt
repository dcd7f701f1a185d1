-- `put_rows` writes the rows of one statement behind those of the one before: some are written, and the rows of the statements left are still to come.
use Rattle.std.proofs.Common.{◌+◌, ◌≤◌}
use Rattle.outcome.proofs.OverLaws.{Run}
use Rattle.reduction.specs.Reducing.{packed_rows}
use Rattle.reduction.proofs.ReducingLaws.{rows_from}
use Rattle.reduction.proofs.reducing.put_rows.Given as goal

abbrev pub invariant-loop-i : goal.invariant-loop-i
invariant-loop-i l = record {
  few : l.witness ≤ l.q.elements + l.i;
  run : Run (packed_rows l.q) l.fn.rows (rows_from l.q l.terms l.i l.witness) l.rows l.at;
}
