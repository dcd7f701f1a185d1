-- The clash of a file, by whether the file was read: its refusal, or what is written of its question.
use Rattle.std.proofs.Common.{Ok, Err}
use mathlib.Core.Path.{◌≡◌, refl}
use mathlib.Core.List.{List}
use Prim.Native.Nat.{ℕ}
use Rattle.outcome.specs.declared.refusals.Refusal.{Refusal}
use Rattle.question.specs.declared.questions.Question.{Question}
use Rattle.question_file.specs.Reads.{read_question}
use Rattle.clash.specs.Files.{Three, three_written, three_over, clash_bytes, clash_written, clash_over}

module _ (bytes : List ℕ) (old : Three) where
  pub refused_read : {r : Refusal} → read_question bytes ≡ Err r → (clash_written bytes old ≡ Err r) × (clash_over bytes old ≡ old)
  unfolding clash_written clash_over
  refused_read e = rw e (refl, refl)

  pub accepted_read : {q : Question} → read_question bytes ≡ Ok q → (clash_written bytes old ≡ three_written (clash_bytes q) old) × (clash_over bytes old ≡ three_over (clash_bytes q) old)
  unfolding clash_written clash_over
  accepted_read e = rw e (refl, refl)
