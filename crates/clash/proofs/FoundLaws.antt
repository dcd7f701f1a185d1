-- What was found: its part is accepted, its indexes stand in front of the array, and its answer, written into a buffer of the longest length, at the front of that.
use Rattle.std.proofs.Common.{Ok, Err}
use Prim.Native.Nat.{ℕ, ◌-◌, ◌≤◌}
use mathlib.Core.Path.{◌≡◌, sym, ap, ◌∙◌}
use mathlib.Core.List.{List}
use native.Mathlib.Omega.{arith}
use lib.ListN.{length, take, replicate}
use lib.Seq.{take_at}
use Rattle.outcome.specs.declared.refusals.Refusal.{Refusal}
use Rattle.outcome.specs.Writes.{Written}
use Rattle.outcome.specs.Writes.{fitted, fitted_over}
use Rattle.outcome.proofs.Never.{never}
use Rattle.outcome.proofs.WriteLaws.{fits}
use Rattle.question.specs.declared.questions.Question.{Question}
use Rattle.question.specs.Limits.{max_statements}
use Rattle.question.specs.Checks.{checked, IsAccepted}
use Rattle.question.proofs.AcceptedLaws.{accepted}
use Rattle.theory.specs.Answers.{answer}
use Rattle.answer.specs.Answers.{as_answer}
use Rattle.answer.specs.Bytes.{file_of, longest_answer}
use Rattle.answer.specs.Writes.{written as answer_written, written_over as answer_written_over}
use Rattle.decision.proofs.AnsweredLaws.{file_short, answer_written_lem, answer_over}
use Rattle.clash.specs.declared.clashes.ClashingPart.{ClashingPart}
use Rattle.clash.specs.Clashes.{clashing, part_of, clash_kept, with_kept, clashed}
use Rattle.clash.proofs.DecidedLaws.{clashed_accepted}
use Rattle.clash.proofs.PartLaws.{part_checked, part_accepted, part_count}

-- some bytes written where there is room
module _ (bytes old : List ℕ) (room : length bytes ≤ length old) where
  pub never_refused : {A : Type 0} {w : Written} {r : Refusal} → w ≡ fitted bytes (length old) → w ≡ Err r → A
  never_refused e p = let c = (fits bytes old room).0 in never cc

module _ (q : Question) (ok : checked q ≡ Ok tt) (found : ClashingPart) (is : clashed q ≡ Ok found) where
  accepts : IsAccepted q
  accepts = (accepted q).0 ok

  whole : found ≡ with_kept (as_answer (answer q)) (clash_kept q)
  whole = let both = sym is ∙ clashed_accepted q ok in cc

  pub part_is : found.part ≡ part_of q
  part_is = ap (λ x. x.part) whole

  pub part_accepts : checked found.part ≡ Ok tt
  part_accepts = ap checked part_is ∙ part_checked q accepts

  pub answer_fits : length (file_of (answer q)) ≤ longest_answer
  answer_fits = file_short q ok

  pub answer_writes : (old : List ℕ) → (answer_written q found.answer (length old) ≡ fitted (file_of (answer q)) (length old)) × (answer_written_over q found.answer old ≡ fitted_over (file_of (answer q)) old)
  answer_writes old = let a = ap (λ x. x.answer) whole in
      (ap (λ a. answer_written q a (length old)) a ∙ answer_written_lem q ok (length old), ap (λ a. answer_written_over q a old) a ∙ answer_over q ok old)

  -- the old indexes stand in front of the array
  pub few_indexes : found.part.count ≤ max_statements
  few_indexes = omega (arith, ap (λ p. p.count) part_is, (part_accepted q accepts).few_statements)

  pub indexes_are : take found.part.count found.indexes ≡ clashing q
  indexes_are = ap (λ x. take x.part.count x.indexes) whole ∙ take_at (clashing q) (replicate (max_statements - length (clashing q)) 0) (part_of q).count (sym (part_count q accepts))
