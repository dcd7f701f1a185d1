-- What the writers of clauses answer, and the lent buffer after the call.
use Rattle.std.specs.Prelude.{ℕ, List}
use Rattle.outcome.specs.Writes.{Written}
use Rattle.outcome.specs.Writes.{fitted, fitted_over, checked_then, checked_over}
use Rattle.outcome.specs.Checks.{outcome_of}
use Rattle.question.specs.declared.questions.Question.{Question}
use Rattle.question.specs.Checks.{checked}
use Rattle.question_file.specs.Reads.{read_question, asked}
use Rattle.clauses.specs.Texts.{clause_text}

-- of a question, where there is room for so many bytes: the refusals of the table, then 10
unfoldable pub clauses_written : Question → ℕ → Written
clauses_written q room = checked_then (checked q) (fitted (clause_text q) room)

unfoldable pub clauses_written_over : Question → List ℕ → List ℕ
clauses_written_over q old = checked_over (checked q) (fitted_over (clause_text q) old) old

-- of a question file: the file's refusals, then 10
unfoldable pub file_clauses : List ℕ → ℕ → Written
file_clauses bytes room = checked_then (outcome_of (read_question bytes)) (fitted (clause_text (asked (read_question bytes))) room)

unfoldable pub file_clauses_over : List ℕ → List ℕ → List ℕ
file_clauses_over bytes old = checked_over (outcome_of (read_question bytes)) (fitted_over (clause_text (asked (read_question bytes))) old) old
