-- What the judge says of a question and a model.
use Rattle.std.specs.Prelude.{ℕ, Bool, not, cond, List, Option, Result, Ok, Err, position}
use Rattle.statement.specs.declared.statements.Statement.{Statement}
use Rattle.question.specs.declared.questions.Question.{Question}
use Rattle.outcome.specs.declared.refusals.Refusal.{Refusal}
use Rattle.outcome.specs.Refusals.{refusal, bad_model}
use Rattle.outcome.specs.Checks.{accepted_then}
use Rattle.question.specs.Questions.{statements}
use Rattle.question.specs.Checks.{checked}
use Rattle.statement.specs.Meaning.{holds}
use Rattle.judge.specs.declared.models.Model.{Model}
use Rattle.judge.specs.Models.{assigned, is_model}

-- a refusal, or the index of the first statement that fails: none if every statement holds
abbrev pub Judgement : Type 0
Judgement = Result (Option ℕ) Refusal

-- document 02's number for yes, beside the index of the first statement that fails: every index is below it
abbrev pub all_hold : ℕ
all_hold = 64

-- the index of the first statement of which f does not hold, if there is one
unfoldable pub first_failing : (Statement → Bool) → List Statement → Option ℕ
first_failing f ss = position (λ s. not (f s)) ss

-- the judgement of a table as it stands: 11 at place 0 for a bad model, then statement by statement
unfoldable pub model_judged : Question → Model → Judgement
model_judged q m = cond (is_model q.elements q.sets m) (Ok (first_failing (holds (assigned m)) (statements q))) (Err (refusal bad_model 0))

-- the table's refusals, then the judgement of the model
unfoldable pub judged : Question → Model → Judgement
judged q m = accepted_then (checked q) Err (model_judged q m)
