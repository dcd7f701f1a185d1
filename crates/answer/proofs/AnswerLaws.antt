-- What an answer says, by its verdict, and how many bytes its file has.
use Prim.Native.Nat.{ℕ, ◌+◌, ◌*◌, ◌≤◌}
use mathlib.Core.Path.{◌≡◌, refl, sym, ap, ◌∙◌}
use mathlib.Core.List.{List, [], ◌∷◌}
use mathlib.Core.Option.{none, some}
use native.Mathlib.Omega.{arith}
use lib.ListN.{length, length-append}
use Rattle.outcome.specs.declared.verdicts.Verdict.{Verdict}
use Rattle.outcome.specs.declared.verdicts.Verdict.TheVariants.{Possible, Impossible}
use Rattle.outcome.specs.Verdicts.{verdict_byte}
use Rattle.question.specs.Limits.{max_terms}
use Rattle.theory.specs.Solutions.{Solution}
use Rattle.field.specs.declared.tags.File.TheVariants.{Answer as AnswerFile}
use Rattle.field.specs.Heads.{end_bytes}
use Rattle.field.specs.Writes.{field_length}
use Rattle.field.proofs.WriteLaws.{length_written}
use Rattle.answer.specs.declared.answers.Answer.{Answer}
use Rattle.answer.specs.Answers.{cut_to, said_by, said, verdict_of}
use Rattle.body.specs.Bodies.{mask_bytes, masks_body}
use Rattle.answer.specs.Checks.{classes_in}
use Rattle.answer.specs.Bytes.{verdict_bytes, numbers_bytes, masks_bytes, solution_bytes, model_bytes, file_of}
use Rattle.body.proofs.BodyLaws.{body_length}
use Rattle.answer.proofs.SizeLaws.{verdict_sized, numbers_sized, masks_sized, end_sized}

module _ (T : ℕ) (a : Answer) where
  pub said_none : a.verdict ≡ Impossible → said T a ≡ none
  unfolding said
  said_none e = ap (λ v. said_by v T a) e

  pub said_some : (n : ℕ) → a.verdict ≡ Possible → n ≡ classes_in (said T a) → said T a ≡ some (cut_to T n a)
  unfolding said
  said_some n e k =
      let s : said_by a.verdict T a ≡ said_by Possible T a = ap (λ v. said_by v T a) e in
      s ∙ ap (λ i. some (cut_to T i a)) (sym (k ∙ ap classes_in s))

  pub said_verdict : verdict_of (said T a) ≡ a.verdict
  unfolding said
  said_verdict = go a.verdict
    where
      go : (v : Verdict) → verdict_of (said_by v T a) ≡ v
      go Possible = refl
      go Impossible = refl

-- each field has as many bytes as the table says,
pub verdict_length : (v : Verdict) → field_length AnswerFile 0x40 0 ≡ length (verdict_bytes v)
verdict_length v = length_written AnswerFile 0x40 0 (verdict_byte v ∷ []) verdict_sized (omega arith)

pub numbers_length : (l : List ℕ) → length l ≤ max_terms → field_length AnswerFile 0x41 (length l) ≡ length (numbers_bytes l)
numbers_length l few = length_written AnswerFile 0x41 (length l) l (numbers_sized (length l)) (omega arith)

pub masks_length : (ms : List ℕ) → length ms ≤ max_terms → field_length AnswerFile 0x42 (length ms * mask_bytes) ≡ length (masks_bytes ms)
masks_length ms few =
    let size = body_length mask_bytes ms in
    length_written AnswerFile 0x42 (length ms * mask_bytes) (masks_body mask_bytes ms) (rw size (masks_sized (length ms * mask_bytes))) (omega (arith, size))

pub end_length : field_length AnswerFile 0x7f 0 ≡ length end_bytes
end_length = length_written AnswerFile 0x7f 0 [] end_sized (omega arith)

-- and so a file
pub none_length : length (file_of none) ≡ 7
unfolding file_of model_bytes
none_length = refl

pub some_length : (sol : Solution) → length (file_of (some sol)) ≡ 13 + length sol.arrangement + length sol.masks * mask_bytes
unfolding file_of model_bytes
some_length sol = simp length-append (omega (arith, body_length mask_bytes sol.masks))

pub model_none : model_bytes none ≡ []
unfolding model_bytes
model_none = refl

pub model_some : (sol : Solution) → model_bytes (some sol) ≡ solution_bytes sol
unfolding model_bytes
model_some sol = refl
