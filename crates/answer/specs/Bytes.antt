-- An answer as the bytes of a file: 40 with the verdict; if possible, 41 with the class numbers and 42 with the masks; then 7F.
use Rattle.std.specs.Prelude.{ℕ, ◌+◌, ◌*◌, List, [], ◌∷◌, ◌++◌}
use Rattle.std.proofs.Math.Option.{Option, none, some}
use Rattle.question.specs.declared.questions.Question.{Question}
use Rattle.question.specs.Limits.{max_terms}
use Rattle.question.specs.Questions.{terms_of}
use Rattle.theory.specs.Solutions.{Solution}
use Rattle.field.specs.Heads.{head_length, field_bytes, end_bytes}
use Rattle.outcome.specs.declared.verdicts.Verdict.{Verdict}
use Rattle.outcome.specs.Verdicts.{verdict_byte}
use Rattle.answer.specs.declared.answers.Answer.{Answer}
use Rattle.answer.specs.Answers.{said, verdict_of}
use Rattle.body.specs.Bodies.{mask_bytes, masks_body}

-- field 40
abbrev pub verdict_bytes : Verdict → List ℕ
verdict_bytes v = field_bytes 0x40 (verdict_byte v ∷ [])

-- field 41
abbrev pub numbers_bytes : List ℕ → List ℕ
numbers_bytes l = field_bytes 0x41 l

-- field 42
abbrev pub masks_bytes : List ℕ → List ℕ
masks_bytes ms = field_bytes 0x42 (masks_body mask_bytes ms)

abbrev pub solution_bytes : Solution → List ℕ
solution_bytes sol = numbers_bytes sol.arrangement ++ masks_bytes sol.masks

-- what stands between 40 and 7F
unfoldable pub model_bytes : Option Solution → List ℕ
model_bytes none = []
model_bytes (some sol) = solution_bytes sol

-- a whole file
unfoldable pub file_of : Option Solution → List ℕ
file_of s = verdict_bytes (verdict_of s) ++ (model_bytes s ++ end_bytes)

-- the file of an answer, beside its question
abbrev pub answer_bytes : Question → Answer → List ℕ
answer_bytes q a = file_of (said (terms_of q) a)

-- the bytes of the longest answer: four heads, the verdict, a class number for each term and a mask for each class
abbrev pub longest_answer : ℕ
longest_answer = 4 * head_length + 1 + max_terms + max_terms * mask_bytes
