-- The writer of question files: what it answers, and the lent buffer after the call.
use Rattle.std.specs.Prelude.{ℕ, List}
use Rattle.question.specs.declared.questions.Question.{Question}
use Rattle.outcome.specs.Writes.{fitted, fitted_over, checked_then, checked_over}
use Rattle.question.specs.Checks.{checked}
use Rattle.outcome.specs.Writes.{Written}
use Rattle.question_file.specs.Bytes.{question_bytes}

-- the answer of the writer to a question, where the buffer has so many bytes: the refusals of the table, then 10
unfoldable pub written : Question → ℕ → Written
written q room = checked_then (checked q) (fitted (question_bytes q) room)

-- the buffer after the call: the file over what was there, or what was there
unfoldable pub written_over : Question → List ℕ → List ℕ
written_over q old = checked_over (checked q) (fitted_over (question_bytes q) old) old
