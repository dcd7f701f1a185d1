-- `answer_question` passes on why there is no answer, and else writes the one that was decided: it is good, so only the room matters.
use Rattle.std.proofs.Common.{◌≡◌, List, ℕ, length, sym, ap, ◌∙◌, Ok}
use Rattle.std.proofs.lemmas.Result.{err_from_is_err_and}
use Rattle.question.specs.declared.questions.Question.{Question}
use Rattle.answer.specs.declared.answers.Answer.{Answer}
use Rattle.answer.specs.Writes.{written, written_over}
use Rattle.decision.specs.Decisions.{decided}
use Rattle.decision.specs.Answers.{question_answered, question_answered_over}
use Rattle.decision.proofs.DecisionLaws.{decided_err, decided_ok}
use Rattle.decision.proofs.AnsweredLaws.{answer_written_lem, answer_over, answered_accepted, answered_refused}
use Rattle.decision.proofs.answers.answer_question.Goals as goal

-- the answer that was decided, written
decided_written : (q : Question) (a : Answer) (old : List ℕ) → decided q ≡ Ok a → (written q a (length old) ≡ question_answered q (length old)) × (written_over q a old ≡ question_answered_over q old)
decided_written q a old e =
    let d = decided_ok q a e in
    let w = answered_accepted q old d.0 in
    (ap (λ x. written q x (length old)) d.1 ∙ answer_written_lem q d.0 (length old) ∙ sym w.0, ap (λ x. written_over q x old) d.1 ∙ answer_over q d.0 old ∙ sym w.1)

pub returns-in_err-decide : goal.returns-in_err-decide
returns-in_err-decide c =
    let a = c.args in
    let p = err_from_is_err_and c.from_residual.result c.from_residual.ensures.1 in
    let w = answered_refused a.q a.buf.now _ (decided_err a.q _ (sym c.decide.ensures ∙ c.in_err-decide.was)) in
    rw (p.1, p.2) (sym w.0, sym w.1)

pub returns : goal.returns
returns c =
    let a = c.args in
    let w = decided_written a.q _ a.buf.now (sym c.decide.ensures ∙ c.in_ok-decide.was) in
    (c.write_answer.ensures.0 ∙ w.0, c.write_answer.ensures.1 ∙ w.1)
