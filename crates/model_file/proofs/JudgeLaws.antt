-- The judge over bytes, by whether the file is accepted and whether the bytes have the length of their n.
use Rattle.std.proofs.Common.{◌≡◌, List, ℕ, Err, Ok, ap}
use Rattle.outcome.specs.declared.refusals.Refusal.{Refusal}
use Rattle.outcome.specs.Checks.{answer_then}
use Rattle.question.specs.declared.questions.Question.{Question}
use Rattle.question_file.specs.Reads.{read_question}
use Rattle.judge.specs.declared.models.Model.{Model}
use Rattle.judge.specs.Judgements.{model_judged}
use Rattle.model_file.specs.Reads.{model_read}
use Rattle.model_file.specs.Judges.{bytes_judged, file_judged}

-- what was read of the model
module _ (q : Question) (bytes : List ℕ) where
  pub bytes_refused : {r : Refusal} → model_read q.elements bytes ≡ Err r → bytes_judged q bytes ≡ Err r
  unfolding bytes_judged
  bytes_refused e = ap (λ m. answer_then m Err (model_judged q)) e

  pub bytes_said : {m : Model} → model_read q.elements bytes ≡ Ok m → bytes_judged q bytes ≡ model_judged q m
  unfolding bytes_judged
  bytes_said e = ap (λ m. answer_then m Err (model_judged q)) e

-- what was read of the file
module _ (question model : List ℕ) where
  pub file_refused : {r : Refusal} → read_question question ≡ Err r → file_judged question model ≡ Err r
  unfolding file_judged
  file_refused e = ap (λ q. answer_then q Err (λ q. bytes_judged q model)) e

  pub file_accepted : {q : Question} → read_question question ≡ Ok q → file_judged question model ≡ bytes_judged q model
  unfolding file_judged
  file_accepted e = ap (λ q. answer_then q Err (λ q. bytes_judged q model)) e
