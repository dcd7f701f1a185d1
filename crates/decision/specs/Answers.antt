-- The answer to a question, written: what the call answers, and the lent buffer after it.
use Rattle.std.specs.Prelude.{ℕ, List}
use Rattle.outcome.specs.Writes.{Written}
use Rattle.outcome.specs.Writes.{fitted, fitted_over, checked_then, checked_over}
use Rattle.question.specs.declared.questions.Question.{Question}
use Rattle.question.specs.Checks.{checked}
use Rattle.theory.specs.Answers.{answer}
use Rattle.answer.specs.Bytes.{file_of}

-- where there is room for so many bytes: the refusals of the table, then 10, which compares with this answer's length
unfoldable pub question_answered : Question → ℕ → Written
question_answered q room = checked_then (checked q) (fitted (file_of (answer q)) room)

-- the buffer after the call: the answer over what was there, or what was there
unfoldable pub question_answered_over : Question → List ℕ → List ℕ
question_answered_over q old = checked_over (checked q) (fitted_over (file_of (answer q)) old) old
