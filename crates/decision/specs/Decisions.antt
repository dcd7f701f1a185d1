-- The decision of a question: its answer, or why the table is refused.
use Rattle.std.specs.Prelude.{Option, Some, None, Result, Ok, Err}
use Rattle.outcome.specs.declared.refusals.Refusal.{Refusal}
use Rattle.outcome.specs.declared.verdicts.Verdict.TheVariants.{Possible}
use Rattle.outcome.specs.Checks.{accepted_then}
use Rattle.question.specs.declared.questions.Question.{Question}
use Rattle.question.specs.Questions.{terms_of}
use Rattle.question.specs.Checks.{checked}
use Rattle.theory.specs.Answers.{answer}
use Rattle.reduction.specs.Reducing.{packed_rows}
use Rattle.search.specs.declared.answers.Found.{Found}
use Rattle.search.specs.Answers.{searched}
use Rattle.answer.specs.declared.answers.Answer.{Answer}
use Rattle.answer.specs.Answers.{as_answer, impossible_answer}

-- what the search says of the rows of a table as it stands
unfoldable pub table_searched : Question → Result (Option Found) Refusal
table_searched q = searched (terms_of q) q.sets (packed_rows q)

-- what a question is decided to: the refusals of the table, else its first model, or impossible where it has none
unfoldable pub decided : Question → Result Answer Refusal
decided q = accepted_then (checked q) Err (Ok (as_answer (answer q)))

-- what the search found, as an answer
unfoldable pub shown : Option Found → Answer
shown None = impossible_answer
shown (Some f) = record { verdict = Possible; arrangement = f.arrangement; masks = f.masks }
