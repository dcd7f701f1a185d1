-- The reader of answer files, given the question: field by field from left to right, each at its place.
use Rattle.std.specs.Prelude.{ℕ, ◌+◌, ◌*◌, Bool, cond, List, eqb, ltb, length, get_or, take, drop, Result, Ok, Err}
use Rattle.outcome.specs.declared.refusals.Refusal.{Refusal}
use Rattle.question.specs.declared.questions.Question.{Question}
use Rattle.outcome.specs.Checks.{accepted_then}
use Rattle.outcome.specs.Refusals.{refusal, bytes_after_end, bad_model}
use Rattle.question.specs.Questions.{terms_of}
use Rattle.question.specs.Checks.{checked}
use Rattle.theory.specs.Arrangements.{classes}
use Rattle.theory.specs.Answers.{mask_bound}
use Rattle.outcome.specs.declared.verdicts.Verdict.TheVariants.{Possible, Impossible}
use Rattle.outcome.specs.Verdicts.{verdict_byte}
use Rattle.outcome.specs.Padded.{padded}
use Rattle.question.specs.Limits.{max_terms}
use Rattle.answer.specs.declared.answers.Answer.{Answer}
use Rattle.field.specs.declared.tags.File.TheVariants.{Answer as AnswerFile}
use Rattle.field.specs.declared.frames.Due.TheVariants.{Only}
use Rattle.field.specs.declared.frames.Frame.{Frame}
use Rattle.field.specs.Heads.{head_length}
use Rattle.field.specs.Frames.{frame_of}
use Rattle.answer.specs.Answers.{impossible_answer}
use Rattle.body.specs.Bodies.{mask_bytes, masks_in}
use Rattle.answer.specs.Checks.{is_arrangement, all_below}

-- a refusal with its number and place
abbrev pub refused_at : ℕ → ℕ → Result Answer Refusal
refused_at number place = Err (refusal number place)

-- the frame of the field with this tag, which alone is due at the place where `rest` begins
abbrev pub due_frame : ℕ → ℕ → ℕ → List ℕ → Result Frame Refusal
due_frame tag size at rest = frame_of AnswerFile (Only tag) size at rest

-- what follows where the frame at a place is sound, by the places where its body and the next field begin; else its refusal
abbrev pub framed_then : ℕ → Result Frame Refusal → (ℕ → ℕ → Result Answer Refusal) → Result Answer Refusal
framed_then at (Ok f) then = then (at + head_length) (at + head_length + f.length)
framed_then at (Err r) then = Err r

-- what follows where the values of the field at a place are good, else 11
abbrev pub good_then : ℕ → Bool → Result Answer Refusal → Result Answer Refusal
good_then at good next = cond good next (refused_at bad_model at)

-- 7F at a place, and 9 at the first byte behind it
unfoldable pub end_read : List ℕ → ℕ → Answer → Result Answer Refusal
end_read bytes at a =
    framed_then at (due_frame 0x7f 0 at (drop at bytes)) (λ body end.
    cond (ltb end (length bytes)) (refused_at bytes_after_end end) (Ok a))

-- 42 at a place, behind the class numbers: a mask for each of n classes
unfoldable pub masks_read : ℕ → List ℕ → ℕ → List ℕ → ℕ → Result Answer Refusal
masks_read bound bytes at numbers n =
    framed_then at (due_frame 0x42 (n * mask_bytes) at (drop at bytes)) (λ body next.
    let masks = masks_in mask_bytes n (drop body bytes) in
    good_then at (all_below bound masks)
    (end_read bytes next (record { verdict = Possible; arrangement = numbers; masks = padded max_terms masks })))

-- 41 at a place, behind the verdict: T class numbers
unfoldable pub numbers_read : ℕ → ℕ → List ℕ → ℕ → Result Answer Refusal
numbers_read T bound bytes at =
    framed_then at (due_frame 0x41 T at (drop at bytes)) (λ body next.
    let l = take T (drop body bytes) in
    good_then at (is_arrangement l)
    (masks_read bound bytes next (padded max_terms l) (classes l)))

-- a verdict byte, before the field at a place: 00 impossible, 01 possible, any other gets 11
unfoldable pub verdict_read : ℕ → ℕ → List ℕ → ℕ → ℕ → Result Answer Refusal
verdict_read T bound bytes verdict next =
    cond (eqb verdict (verdict_byte Impossible)) (end_read bytes next impossible_answer)
    (cond (eqb verdict (verdict_byte Possible)) (numbers_read T bound bytes next)
    (refused_at bad_model 0))

-- 40 at place 0
unfoldable pub file_read : ℕ → ℕ → List ℕ → Result Answer Refusal
file_read T bound bytes = framed_then 0 (due_frame 0x40 0 0 bytes) (λ body next. verdict_read T bound bytes (get_or bytes body 0) next)

-- the answer of a file, beside its question: before it the refusals of the table
unfoldable pub read_answer : Question → List ℕ → Result Answer Refusal
read_answer q bytes = accepted_then (checked q) Err (file_read (terms_of q) (mask_bound q) bytes)
