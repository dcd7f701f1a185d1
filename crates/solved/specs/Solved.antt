-- A solver's lines beside a question: what the call answers, and the lent buffer after it.
use Rattle.std.specs.Prelude.{ℕ, Bool, true, false, cond, List, Option, Some, None, Result, Ok, Err}
use Rattle.std.proofs.Math.Option.{some}
use Rattle.outcome.specs.declared.refusals.Refusal.{Refusal}
use Rattle.outcome.specs.Refusals.{refusal, model_fails}
use Rattle.outcome.specs.Checks.{accepted_then, answer_then}
use Rattle.outcome.specs.Writes.{Written, fitted, fitted_over, checked_over}
use Rattle.question.specs.declared.questions.Question.{Question}
use Rattle.question.specs.Questions.{terms_of}
use Rattle.question.specs.Checks.{checked}
use Rattle.question_file.specs.Reads.{read_question}
use Rattle.theory.specs.Solutions.{Solution}
use Rattle.answer.specs.Bytes.{file_of}
use Rattle.judge.specs.Judgements.{Judgement, judged}
use Rattle.judge.specs.Shown.{model_shown}
use Rattle.clauses.specs.Variables.{spare_variable}
use Rattle.clauses.specs.Models.{model_said}
use Rattle.lines.specs.declared.readings.Stage.TheVariants.{Start, Values, Valued, Refuted, Fault}
use Rattle.lines.specs.declared.readings.Reading.{Reading}
use Rattle.lines.specs.Values.{truth_of}
use Rattle.lines.specs.Reads.{lines_read}

-- what a call answers: how many bytes of the answer were written; or none, the solver's word that there is no model; or a refusal. Only an answer is written
abbrev pub Solved : Type 0
Solved = Result (Option ℕ) Refusal

-- is the judgement yes
abbrev pub is_yes : Judgement → Bool
is_yes (Ok None) = true
is_yes (Ok (Some i)) = false
is_yes (Err r) = false

-- a written answer, or why there is none
abbrev pub as_solved : Written → Solved
as_solved (Ok n) = Ok (Some n)
as_solved (Err r) = Err r

-- 14, of which the place is 0
abbrev pub failed : Solved
failed = Err (refusal model_fails 0)

module _ (q : Question) where
  -- how many variables the clauses of the question have
  abbrev pub variables_of : ℕ
  variables_of = spare_variable (terms_of q) q.sets

  -- the model that values say
  abbrev pub model_of : List (Option Bool) → Solution
  model_of values = model_said (terms_of q) q.sets (truth_of values)

  -- does the judge pass it
  abbrev pub passed : Solution → Bool
  passed sol = is_yes (judged q (model_shown sol))

  -- a model: 14 where the judge fails it, then 10
  abbrev pub model_solved : Solution → ℕ → Solved
  model_solved sol room = cond (passed sol) (as_solved (fitted (file_of (some sol)) room)) failed

  abbrev pub model_over : Solution → List ℕ → List ℕ
  model_over sol old = cond (passed sol) (fitted_over (file_of (some sol)) old) old

  -- lines that were read: the solver's word, or the model of its values; no accepted lines end at another stage (accepted_says in lines/proofs/SentenceLaws.antt)
  abbrev pub reading_solved : Reading → ℕ → Solved
  reading_solved r room = elim r.stage [ Start ↦ Ok None | Values ↦ Ok None | Valued ↦ model_solved (model_of r.values) room | Refuted ↦ Ok None | Fault ↦ Ok None ]

  abbrev pub reading_over : Reading → List ℕ → List ℕ
  reading_over r old = elim r.stage [ Start ↦ old | Values ↦ old | Valued ↦ model_over (model_of r.values) old | Refuted ↦ old | Fault ↦ old ]

  -- the lines: 13 first
  unfoldable pub lines_solved : List ℕ → ℕ → Solved
  lines_solved lines room = answer_then (lines_read variables_of lines) Err (λ r. reading_solved r room)

  unfoldable pub lines_over : List ℕ → List ℕ → List ℕ
  lines_over lines old = answer_then (lines_read variables_of lines) (λ r. old) (λ r. reading_over r old)

-- of a question: the refusals of the table come first
unfoldable pub question_solved : Question → List ℕ → ℕ → Solved
question_solved q lines room = accepted_then (checked q) Err (lines_solved q lines room)

unfoldable pub question_solved_over : Question → List ℕ → List ℕ → List ℕ
question_solved_over q lines old = checked_over (checked q) (lines_over q lines old) old

-- of a question file: its refusals come first
unfoldable pub file_solved : List ℕ → List ℕ → ℕ → Solved
file_solved bytes lines room = answer_then (read_question bytes) Err (λ q. lines_solved q lines room)

unfoldable pub file_solved_over : List ℕ → List ℕ → List ℕ → List ℕ
file_solved_over bytes lines old = answer_then (read_question bytes) (λ r. old) (λ q. lines_over q lines old)
