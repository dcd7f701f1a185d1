-- The length of the file is the total so far and the bytes of the statements from here on.
use Rattle.std.proofs.Common.{◌≡◌, ◌+◌, ◌*◌, ◌≤◌, length}
use Rattle.question_file.specs.Bytes.{question_bytes}
use Rattle.question_file.proofs.StatementBytesLaws.{bytes_from}
use Rattle.question_file.proofs.writes.file_length.Given as goal

abbrev pub invariant-loop-entry : goal.invariant-loop-entry
invariant-loop-entry l =
    (l.total ≤ 8 + 6 * l.entry-index) × (length (question_bytes l.fn.q) ≡ l.total + length (bytes_from l.fn.q l.entry-index))
