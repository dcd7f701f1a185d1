-- The answer to an accepted question is one that may be said: written, it is the file of the answer, which is never longer than the longest.
use Rattle.std.proofs.Common.{Ok, Err}
use Prim.Native.Nat.{ℕ, ◌≤◌}
use mathlib.Core.Path.{◌≡◌, refl}
use mathlib.Core.Bool.{true}
use mathlib.Core.List.{List}
use mathlib.Core.Option.{Option, none, some}
use native.Mathlib.Omega.{arith}
use lib.ListN.{length}
use Rattle.question.specs.declared.questions.Question.{Question}
use Rattle.outcome.specs.declared.refusals.Refusal.{Refusal}
use Rattle.decision.specs.Answers.{question_answered, question_answered_over}
use Rattle.question.specs.Questions.{terms_of}
use Rattle.question.specs.Checks.{checked}
use Rattle.question.proofs.AcceptedLaws.{accepted}
use Rattle.theory.specs.Solutions.{Solution}
use Rattle.theory.specs.Answers.{mask_bound, answer}
use Rattle.theory.proofs.AnswerLaws.{answer_solution}
use Rattle.answer.specs.Answers.{said, as_answer, MaySay}
use Rattle.answer.specs.Bytes.{file_of, longest_answer}
use Rattle.answer.specs.Checks.{is_good}
use Rattle.outcome.specs.Writes.{fitted_over, fitted}
use Rattle.answer.specs.Writes.{good_written, good_over, written, written_over}
use Rattle.answer.proofs.AnswerLaws.{none_length, some_length}
use Rattle.answer.proofs.MayLaws.{may_good, may_few, as_said}

module _ (q : Question) (e : checked q ≡ Ok tt) where
  pub answer_may : MaySay (terms_of q) (mask_bound q) (answer q)
  answer_may = go (answer q) refl
    where
      go : (o : Option Solution) → answer q ≡ o → MaySay (terms_of q) (mask_bound q) o
      go none p = tt
      go (some sol) p =
          let s = answer_solution q ((accepted q).0 e) sol p in
          record { arranged = s.arranged; each_term = s.each_term; each_class = s.each_class; masks_below = s.masks_below }

  -- its file
  pub file_short : length (file_of (answer q)) ≤ longest_answer
  file_short = go (answer q) answer_may
    where
      go : (o : Option Solution) → MaySay (terms_of q) (mask_bound q) o → length (file_of o) ≤ longest_answer
      go none w = omega (arith, none_length)
      go (some sol) w = omega (arith, some_length sol, w.each_term, w.each_class, may_few (terms_of q) (mask_bound q) sol w, ((accepted q).0 e).few_terms)

  says : said (terms_of q) (as_answer (answer q)) ≡ answer q
  says = as_said (terms_of q) (mask_bound q) (answer q) answer_may

  good : is_good (mask_bound q) (answer q) ≡ true
  good = may_good (terms_of q) (mask_bound q) (answer q) answer_may

  pub answer_written_lem : (room : ℕ) → written q (as_answer (answer q)) room ≡ fitted (file_of (answer q)) room
  unfolding written good_written
  answer_written_lem room = rw (e, says, good)

  pub answer_over : (old : List ℕ) → written_over q (as_answer (answer q)) old ≡ fitted_over (file_of (answer q)) old
  unfolding written_over good_over
  answer_over old = rw (e, says, good)

-- what is answered to a question, and the buffer, by whether its table is accepted
module _ (q : Question) where
  pub answered_accepted : (old : List ℕ) → checked q ≡ Ok tt → (question_answered q (length old) ≡ fitted (file_of (answer q)) (length old)) × (question_answered_over q old ≡ fitted_over (file_of (answer q)) old)
  unfolding question_answered question_answered_over
  answered_accepted old e = rw e (refl, refl)

  pub answered_refused : (old : List ℕ) (r : Refusal) → checked q ≡ Err r → (question_answered q (length old) ≡ Err r) × (question_answered_over q old ≡ old)
  unfolding question_answered question_answered_over
  answered_refused old r e = rw e (refl, refl)
