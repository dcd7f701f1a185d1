-- What a call answers, and the buffer after it, by whether the lines, the table or the file are accepted.
use Rattle.std.proofs.Common.{Ok, Err}
use Prim.Native.Nat.{ℕ, ◌^◌, ◌<◌}
use mathlib.Core.Path.{◌≡◌, sym, ap, ◌∙◌}
use mathlib.Core.List.{List}
use native.Mathlib.Omega.{arith}
use lib.ListN.{length}
use Rattle.outcome.specs.declared.refusals.Refusal.{Refusal}
use Rattle.outcome.specs.Checks.{accepted_then, outcome_of, answer_then}
use Rattle.outcome.proofs.CheckLaws.{answered, refused_is}
use Rattle.question.specs.declared.questions.Question.{Question}
use Rattle.question.specs.Questions.{terms_of}
use Rattle.question.specs.Checks.{checked}
use Rattle.question_file.specs.Reads.{read_question, asked}
use Rattle.question_file.proofs.RoundTrips.{read_ok, read_checked}
use Rattle.lines.specs.Steps.{start}
use Rattle.lines.specs.Reads.{reading_of, lines_read}
use Rattle.clauses.proofs.NumberingLaws.{pair_count_most, product_most}
use Rattle.solved.specs.Solved.{variables_of, reading_solved, reading_over, lines_solved, lines_over, question_solved, question_solved_over, file_solved, file_solved_over}
use Rattle.solved.proofs.JudgingLaws.{few}

-- the number of variables fits
pub variables_few : (q : Question) → checked q ≡ Ok tt → variables_of q < 2 ^ 32
variables_few q e =
    let f = few q e in
    omega (arith, pair_count_most (terms_of q) (omega (arith, f.0)), product_most (terms_of q) q.sets (omega (arith, f.0)) (omega (arith, f.1)), f.0)

-- the lines
module _ (q : Question) (lines old : List ℕ) where
  pub lines_refused : {r : Refusal} → outcome_of (lines_read (variables_of q) lines) ≡ Err r → (lines_solved q lines (length old) ≡ Err r) × (lines_over q lines old ≡ old)
  unfolding lines_solved lines_over
  lines_refused e =
      let told = refused_is (lines_read (variables_of q) lines) e in
      (ap (λ x. answer_then x Err (λ r. reading_solved q r (length old))) told, ap (λ x. answer_then x (λ r. old) (λ r. reading_over q r old)) told)

  pub lines_accepted : outcome_of (lines_read (variables_of q) lines) ≡ Ok tt →
      let said = reading_of (lines_read (variables_of q) lines) in (lines_solved q lines (length old) ≡ reading_solved q said (length old)) × (lines_over q lines old ≡ reading_over q said old)
  unfolding lines_solved lines_over
  lines_accepted e =
      let told = answered start (lines_read (variables_of q) lines) e in
      (ap (λ x. answer_then x Err (λ r. reading_solved q r (length old))) told, ap (λ x. answer_then x (λ r. old) (λ r. reading_over q r old)) told)

-- the table
module _ (q : Question) (lines old : List ℕ) where
  pub table_refused : {r : Refusal} → checked q ≡ Err r → (question_solved q lines (length old) ≡ Err r) × (question_solved_over q lines old ≡ old)
  unfolding question_solved question_solved_over
  table_refused e = (ap (λ o. accepted_then o Err (lines_solved q lines (length old))) e, ap (λ o. accepted_then o (λ r. old) (lines_over q lines old)) e)

  pub table_accepted : checked q ≡ Ok tt → (question_solved q lines (length old) ≡ lines_solved q lines (length old)) × (question_solved_over q lines old ≡ lines_over q lines old)
  unfolding question_solved question_solved_over
  table_accepted e = (ap (λ o. accepted_then o Err (lines_solved q lines (length old))) e, ap (λ o. accepted_then o (λ r. old) (lines_over q lines old)) e)

-- the file
module _ (bytes lines old : List ℕ) where
  pub file_refused : {r : Refusal} → outcome_of (read_question bytes) ≡ Err r → (file_solved bytes lines (length old) ≡ Err r) × (file_solved_over bytes lines old ≡ old)
  unfolding file_solved file_solved_over
  file_refused e =
      let told = refused_is (read_question bytes) e in
      (ap (λ x. answer_then x Err (λ q. lines_solved q lines (length old))) told, ap (λ x. answer_then x (λ r. old) (λ q. lines_over q lines old)) told)

  pub file_accepted : outcome_of (read_question bytes) ≡ Ok tt →
      let q = asked (read_question bytes) in (file_solved bytes lines (length old) ≡ lines_solved q lines (length old)) × (file_solved_over bytes lines old ≡ lines_over q lines old)
  unfolding file_solved file_solved_over
  file_accepted e =
      let told = read_ok bytes e in
      (ap (λ x. answer_then x Err (λ q. lines_solved q lines (length old))) told, ap (λ x. answer_then x (λ r. old) (λ q. lines_over q lines old)) told)

-- an accepted file is solved as its question is
pub file_as_question : (bytes lines old : List ℕ) → outcome_of (read_question bytes) ≡ Ok tt →
    let q = asked (read_question bytes) in (file_solved bytes lines (length old) ≡ question_solved q lines (length old)) × (file_solved_over bytes lines old ≡ question_solved_over q lines old)
file_as_question bytes lines old e =
    let f = file_accepted bytes lines old e in
    let t = table_accepted (asked (read_question bytes)) lines old (read_checked bytes e) in
    (f.0 ∙ sym t.0, f.1 ∙ sym t.1)
