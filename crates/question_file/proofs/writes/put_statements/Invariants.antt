-- A run of writes, of which the fields of the statements from here on are still to come.
use Rattle.question.specs.Questions.{statements}
use Rattle.outcome.proofs.OverLaws.{Run}
use Rattle.question_file.specs.Bytes.{statements_bytes}
use Rattle.question_file.proofs.StatementBytesLaws.{bytes_from}
use Rattle.question_file.proofs.writes.put_statements.Given as goal

abbrev pub invariant-loop-entry : goal.invariant-loop-entry
invariant-loop-entry l = Run (statements_bytes (statements l.fn.q)) l.fn.buf (bytes_from l.fn.q l.entry-index) l.buf l.at
