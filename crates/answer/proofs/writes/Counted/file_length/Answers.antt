-- `file_length` adds what the table says of each field, by the verdict.
use Rattle.std.proofs.Common.{ℕ, ◌≡◌, ◌≤◌, ◌+◌, ◌*◌, length, take, sym, ap, ◌∙◌, arith, rules}
use Rattle.std.proofs.lemmas.List.{length-take-le}
use Rattle.outcome.specs.declared.verdicts.Verdict.TheVariants.{Possible}
use Rattle.question.specs.Limits.{max_terms}
use Rattle.field.specs.declared.tags.File.TheVariants.{Answer as AnswerFile}
use Rattle.field.specs.Writes.{field_length}
use Rattle.body.specs.Bodies.{mask_bytes}
use Rattle.body.proofs.BodyLaws.{body_length}
use Rattle.answer.specs.declared.answers.Answer.{Answer}
use Rattle.answer.specs.Answers.{cut_to}
use Rattle.answer.specs.Bytes.{file_of}
use Rattle.answer.proofs.AnswerLaws.{said_none, said_some, verdict_length, numbers_length, masks_length, end_length, none_length, some_length}
use Rattle.answer.proofs.writes.Counted.file_length.Goals as goal

-- fields 40 and 7F
ends : field_length AnswerFile 0x40 0 + field_length AnswerFile 0x7f 0 ≡ 7
ends = omega (arith, verdict_length Possible, end_length)

-- the class numbers of each term, and the masks of each class
module _ (a : Answer) (T n : ℕ) (few_terms : T ≤ max_terms) (few_classes : n ≤ max_terms) (numbers : length a.arrangement ≡ max_terms) (masks : length a.masks ≡ max_terms) where
  sizes : (length (take T a.arrangement) ≡ T) × (length (take n a.masks) ≡ n)
  sizes = (length-take-le T a.arrangement (omega arith), length-take-le n a.masks (omega arith))

  model : field_length AnswerFile 0x41 T + field_length AnswerFile 0x42 (n * mask_bytes) ≡ 6 + T + n * mask_bytes
  model =
      let l = take T a.arrangement in
      let ms = take n a.masks in
      let first = ap (field_length AnswerFile 0x41) (sym sizes.0) ∙ numbers_length l (omega (arith, sizes.0)) in
      let second = ap (λ i. field_length AnswerFile 0x42 (i * mask_bytes)) (sym sizes.1) ∙ masks_length ms (omega (arith, sizes.1)) in
      omega (arith, first, second, sizes.0, sizes.1, body_length mask_bytes ms)

pub overflow_add-ends : goal.overflow_add-ends
overflow_add-ends c = omega (arith, c.field_length.ensures, c.field_length-2.ensures, ends)

pub overflow_add-result : goal.overflow_add-result
overflow_add-result c =
    let s = c.args.self in
    omega (arith, c.field_length.ensures, c.field_length-2.ensures, ends, c.field_length-numbers.ensures, c.field_length-masks.ensures, model s.answer s.terms s.classes (omega arith) (omega arith) (search rules) (search rules))

pub overflow_add-result-in-Possible : goal.overflow_add-result-in-Possible
overflow_add-result-in-Possible c =
    let s = c.args.self in
    omega (arith, c.field_length.ensures, c.field_length-2.ensures, ends, c.field_length-numbers.ensures, c.field_length-masks.ensures, model s.answer s.terms s.classes (omega arith) (omega arith) (search rules) (search rules))

pub returns-in-Impossible : goal.returns-in-Impossible
returns-in-Impossible c =
    let s = c.args.self in
    let whole = ap (λ x. length (file_of x)) (said_none s.terms s.answer c.in-Impossible.is) ∙ none_length in
    omega (arith, c.field_length.ensures, c.field_length-2.ensures, ends, whole)

pub returns-in-Possible : goal.returns-in-Possible
returns-in-Possible c =
    let s = c.args.self in
    let whole = ap (λ x. length (file_of x)) (said_some s.terms s.answer s.classes c.in-Possible.is s.counted) ∙ some_length (cut_to s.terms s.classes s.answer) in
    let both = sizes s.answer s.terms s.classes (omega arith) (omega arith) (search rules) (search rules) in
    omega (arith, c.field_length.ensures, c.field_length-2.ensures, ends, c.field_length-numbers.ensures, c.field_length-masks.ensures, both.0, both.1, whole, model s.answer s.terms s.classes (omega arith) (omega arith) (search rules) (search rules))
