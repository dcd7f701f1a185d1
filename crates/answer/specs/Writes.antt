-- The writer of answer files: what it answers, and the lent buffer after the call.
use Rattle.std.specs.Prelude.{ℕ, cond, List, Err}
use Rattle.std.proofs.Math.Option.{Option}
use Rattle.question.specs.declared.questions.Question.{Question}
use Rattle.outcome.specs.Refusals.{refusal, bad_model}
use Rattle.question.specs.Questions.{terms_of}
use Rattle.outcome.specs.Writes.{fitted, fitted_over, checked_then, checked_over}
use Rattle.question.specs.Checks.{checked}
use Rattle.theory.specs.Solutions.{Solution}
use Rattle.theory.specs.Answers.{mask_bound}
use Rattle.answer.specs.declared.answers.Answer.{Answer}
use Rattle.outcome.specs.Writes.{Written}
use Rattle.answer.specs.Answers.{said}
use Rattle.answer.specs.Bytes.{file_of}
use Rattle.answer.specs.Checks.{is_good}

-- 11 for an answer that is not good, then 10
unfoldable pub good_written : ℕ → Option Solution → ℕ → Written
good_written bound s room = cond (is_good bound s) (fitted (file_of s) room) (Err (refusal bad_model 0))

unfoldable pub good_over : ℕ → Option Solution → List ℕ → List ℕ
good_over bound s old = cond (is_good bound s) (fitted_over (file_of s) old) old

-- what the writer answers to a question with an answer, where there is room for so many bytes: before them the refusals of the table
unfoldable pub written : Question → Answer → ℕ → Written
written q a room = checked_then (checked q) (good_written (mask_bound q) (said (terms_of q) a) room)

-- the buffer after the call: the file over what was there, or what was there
unfoldable pub written_over : Question → Answer → List ℕ → List ℕ
written_over q a old = checked_over (checked q) (good_over (mask_bound q) (said (terms_of q) a) old) old
