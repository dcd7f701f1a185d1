-- A solver that is right is never refused: the lines that satisfying truth values write are read back as their model, which the judge passes; those of a solution give back that solution.
-- So a question is possible exactly if some text is answered.
use Rattle.std.proofs.Common.{Ok, Err, Some}
use Prim.Native.Nat.{ℕ, ◌≤◌, ◌<◌}
use mathlib.Core.Path.{◌≡◌, sym, ap, ◌∙◌}
use mathlib.Core.Bool.{cond}
use mathlib.Core.List.{List}
use mathlib.Core.Logic.{◌↔◌}
use mathlib.Core.Option.{some}
use native.Mathlib.Omega.{arith}
use borrow.Author.Tests.{le-ltb}
use lib.ListN.{length}
use Rattle.outcome.specs.declared.refusals.Refusal.{Refusal}
use Rattle.outcome.specs.Refusals.{refusal, buffer_too_short}
use Rattle.outcome.specs.Writes.{fitted, fitted_over}
use Rattle.outcome.specs.Checks.{outcome_of}
use Rattle.question.specs.declared.questions.Question.{Question}
use Rattle.question.specs.Questions.{statements, terms_of}
use Rattle.question.specs.Checks.{IsAccepted}
use Rattle.question.proofs.AcceptedLaws.{accepted}
use Rattle.question_file.specs.Reads.{read_question, asked}
use Rattle.question_file.proofs.RoundTrips.{read_checked}
use Rattle.statement.specs.Meaning.{CanHold}
use Rattle.theory.specs.Solutions.{Solution}
use Rattle.theory.specs.Answers.{mask_bound, Solves}
use Rattle.answer.specs.Answers.{IsArranged}
use Rattle.answer.specs.Bytes.{file_of, longest_answer}
use Rattle.answer.proofs.AnswerLaws.{some_length}
use Rattle.answer.proofs.MayLaws.{may_few}
use Rattle.lines.specs.Sentences.{truth_in, own_literals, own_lines}
use Rattle.lines.proofs.OwnLaws.{own_truth, own_says}
use Rattle.clauses.specs.Clauses.{clauses_of}
use Rattle.clauses.specs.Meaning.{Truth, Satisfies}
use Rattle.clauses.specs.Models.{model_said, truth_said}
use Rattle.clauses.proofs.LocalLaws.{Agree, model_local, satisfies_local}
use Rattle.clauses.proofs.PlacedLaws.{model_placed}
use Rattle.clauses.proofs.Satisfiable.{solution_satisfies, possible_exactly}
use Rattle.clauses.proofs.RoundTrips.{solution_again}
use Rattle.solved.specs.Solved.{as_solved, variables_of, question_solved, question_solved_over, file_solved, file_solved_over}
use Rattle.solved.proofs.SolvingLaws.{file_as_question}
use Rattle.solved.proofs.Solvers.{only_ten, answered_possible}
use Rattle.solved.proofs.Sentences.{model_says}

module _ (q : Question) (ok : IsAccepted q) (old : List ℕ) where
  -- the lines are answered with the file of the solution
  abbrev pub AnsweredBy : List ℕ → Solution → Type 0
  AnsweredBy lines sol = (question_solved q lines (length old) ≡ as_solved (fitted (file_of (some sol)) (length old))) × (question_solved_over q lines old ≡ fitted_over (file_of (some sol)) old)

  pub own_read : (truth : Truth) → Satisfies truth (clauses_of q) → AnsweredBy (own_lines (variables_of q) truth) (model_said (terms_of q) q.sets truth)
  own_read truth right =
      let said = own_literals (variables_of q) truth in
      let agree : Agree (terms_of q) q.sets truth (truth_in said) = λ v n. sym (own_truth truth (variables_of q) v n.0 n.1) in
      let same : model_said (terms_of q) q.sets (truth_in said) ≡ model_said (terms_of q) q.sets truth = sym (model_local (terms_of q) q.sets truth (truth_in said) agree) in
      let m = model_says q ok (own_lines (variables_of q) truth) old said (own_says truth (variables_of q)) (satisfies_local q ok truth (truth_in said) agree right) in
      (m.0 ∙ ap (λ s. as_solved (fitted (file_of (some s)) (length old))) same, m.1 ∙ ap (λ s. fitted_over (file_of (some s)) old) same)

  pub own_solution : (sol : Solution) → Solves q sol → AnsweredBy (own_lines (variables_of q) (truth_said (terms_of q) q.sets sol)) sol
  own_solution sol s =
      let r = own_read (truth_said (terms_of q) q.sets sol) (solution_satisfies q ok sol s) in
      let same = solution_again q sol s in
      (r.0 ∙ ap (λ x. as_solved (fitted (file_of (some x)) (length old))) same, r.1 ∙ ap (λ x. fitted_over (file_of (some x)) old) same)

  -- they are refused by 10 alone
  pub own_refused : (truth : Truth) → Satisfies truth (clauses_of q) → (r : Refusal) → question_solved q (own_lines (variables_of q) truth) (length old) ≡ Err r →
      (length old < length (file_of (some (model_said (terms_of q) q.sets truth)))) × (r ≡ refusal buffer_too_short 0)
  own_refused truth right r e = only_ten (file_of (some (model_said (terms_of q) q.sets truth))) (length old) r (sym (own_read truth right).0 ∙ e)

  -- and answered where there is room for the longest answer
  module _ (room : longest_answer ≤ length old) where
    pub own_answered : (truth : Truth) → Satisfies truth (clauses_of q) → question_solved q (own_lines (variables_of q) truth) (length old) ≡ Ok (Some (length (file_of (some (model_said (terms_of q) q.sets truth)))))
    own_answered truth right = (own_read truth right).0 ∙ ap (λ b. as_solved (cond b (Err (refusal buffer_too_short 0)) (Ok (length (file_of (some sol)))))) (le-ltb (length old) (length (file_of (some sol))) fits)
      where
        sol : Solution
        sol = model_said (terms_of q) q.sets truth

        placed : IsArranged (terms_of q) (mask_bound q) sol
        placed = let p = model_placed (terms_of q) q.sets truth in record { arranged = p.arranged; each_term = p.long; each_class = p.each_class; masks_below = p.masks_below }

        fits : length (file_of (some sol)) ≤ length old
        fits = omega (arith, room, some_length sol, placed.each_term, placed.each_class, may_few (terms_of q) (mask_bound q) sol placed, ok.few_terms)

    -- a question is possible exactly if some text is answered
    pub answerable_exactly : ((text : List ℕ) × (n : ℕ) × (question_solved q text (length old) ≡ Ok (Some n))) ↔ CanHold q.elements (statements q)
    answerable_exactly = (to, from)
      where
        to : (text : List ℕ) × (n : ℕ) × (question_solved q text (length old) ≡ Ok (Some n)) → CanHold q.elements (statements q)
        to (text, n, e) = answered_possible q text old n e

        from : CanHold q.elements (statements q) → (text : List ℕ) × (n : ℕ) × (question_solved q text (length old) ≡ Ok (Some n))
        from c =
            let s = (possible_exactly q ok).1 c in
            (own_lines (variables_of q) s.by, length (file_of (some (model_said (terms_of q) q.sets s.by))), own_answered s.by s.satisfies)

-- the same of a question file that is accepted
pub own_file : (bytes old : List ℕ) → outcome_of (read_question bytes) ≡ Ok tt →
    let q = asked (read_question bytes) in (truth : Truth) → Satisfies truth (clauses_of q) →
    let lines = own_lines (variables_of q) truth in
    let file = file_of (some (model_said (terms_of q) q.sets truth)) in (file_solved bytes lines (length old) ≡ as_solved (fitted file (length old))) × (file_solved_over bytes lines old ≡ fitted_over file old)
own_file bytes old e truth right =
    let q = asked (read_question bytes) in
    let f = file_as_question bytes (own_lines (variables_of q) truth) old e in
    let r = own_read q ((accepted q).0 (read_checked bytes e)) old truth right in
    (f.0 ∙ r.0, f.1 ∙ r.1)
