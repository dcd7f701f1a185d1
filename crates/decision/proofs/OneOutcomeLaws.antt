-- Each public contract of this crate leaves one outcome: one result, and of the call that writes one buffer.
use Rattle.std.proofs.Common.{Result, Err}
use mathlib.Core.Path.{◌≡◌, sym, ◌∙◌}
use Rattle.outcome.specs.declared.refusals.Refusal.{Refusal}
use Rattle.outcome.specs.OneResult.{OneResult}
use Rattle.outcome.specs.OneOutcome.{OneOutcome}
use Rattle.outcome.proofs.OneLaw.{both}
use Rattle.question.specs.declared.questions.Question.{Question}
use Rattle.question.specs.Checks.{checked}
use Rattle.answer.specs.declared.answers.Answer.{Answer}
use Rattle.decision.specs.Decisions.{decided}
use Rattle.decision.proofs.DecisionLaws.{decided_refused}
use Rattle.decision.proofs.decisions.search_table.Reads as search_table
use Rattle.decision.proofs.decisions.decide.Reads as decide
use Rattle.decision.proofs.answers.answer_question.Reads as answer_question

-- a refused table has one decision: the refusal, and no answer beside it
refused_one : (q : Question) (r : Refusal) (x y : Result Answer Refusal) → checked q ≡ Err r → x ≡ decided q → y ≡ decided q → (x ≡ Err r) × (x ≡ y)
refused_one q r x y e s t = (s ∙ decided_refused q r e, s ∙ sym t)

search_table_one : OneResult search_table.Learnt
search_table_one κs given x y s t = both

decide_one : OneResult decide.Learnt
decide_one κs given x y s t = both

answer_question_one : OneOutcome answer_question.Learnt (λ κs s. s.1.0.now)
answer_question_one κs given x y s t p q = (both p.0 q.0, both p.1 q.1)
