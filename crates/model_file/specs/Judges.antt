-- The judge over bytes: what it says of a question file and the bytes of a model.
use Rattle.std.specs.Prelude.{ℕ, List, Err}
use Rattle.outcome.specs.Checks.{answer_then}
use Rattle.question.specs.declared.questions.Question.{Question}
use Rattle.question_file.specs.Reads.{read_question}
use Rattle.judge.specs.Judgements.{Judgement, model_judged}
use Rattle.model_file.specs.Reads.{model_read}

-- of a table as it stands: 11 at place 0 for bytes that say no model, then the judgement of the one they say
unfoldable pub bytes_judged : Question → List ℕ → Judgement
bytes_judged q bytes = answer_then (model_read q.elements bytes) Err (model_judged q)

-- of a question file: its refusals come first
unfoldable pub file_judged : List ℕ → List ℕ → Judgement
file_judged question model = answer_then (read_question question) Err (λ q. bytes_judged q model)
