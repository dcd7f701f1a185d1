-- What a field of a question file says by itself, and what it leads to where the fields before it made a question.
use Rattle.std.specs.Prelude.{ℕ, ◌+◌, cond, List, eqb, get_or, drop, Option, Some, None, Result, Ok, Err}
use Rattle.outcome.specs.declared.refusals.Refusal.{Refusal}
use Rattle.outcome.specs.Refusals.{refusal, tag_unknown}
use Rattle.outcome.specs.Checks.{accepted_then}
use Rattle.field.specs.declared.tags.File.TheVariants.{Question as QuestionFile}
use Rattle.field.specs.declared.frames.Due.{Due}
use Rattle.field.specs.declared.frames.Due.TheVariants.{Only, AllBut}
use Rattle.field.specs.declared.frames.Frame.{Frame}
use Rattle.field.specs.Frames.{frame_of}
use Rattle.question.specs.declared.questions.Question.{Question}
use Rattle.question.specs.Questions.{terms_of}
use Rattle.question.specs.Admissions.{addition, admitted_at}
use Rattle.question.specs.Checks.{names_checked_at}
use Rattle.question.specs.Builds.{declaring, added}
use Rattle.statement.specs.declared.statements.Statement.{Statement}
use Rattle.question_file.specs.declared.fields.Said.{Said}
use Rattle.question_file.specs.declared.fields.Said.TheVariants.{Names, Stated, Ended}
use Rattle.question_file.specs.Bodies.{statement_of}

-- 01 stands first, and nowhere else
abbrev pub due_at : ℕ → Due
due_at at = cond (eqb at 0) (Only 0x01) (AllBut 0x01)

-- a statement, if the tag is one's; else 2, at the field's first byte
abbrev pub made_said : Option Statement → ℕ → ℕ → Result Said Refusal
made_said (Some s) at next = Ok (Stated s next)
made_said None at next = Err (refusal tag_unknown at)

-- a tag and the bytes of its body, in the field at the place `at`; the next field begins at `next`
unfoldable pub said_by : ℕ → List ℕ → ℕ → ℕ → Result Said Refusal
said_by tag body at next =
    cond (eqb tag 0x01) (Ok (Names (get_or body 0 0) (get_or body 1 0) next))
    (cond (eqb tag 0x7f) (Ok (Ended next))
    (made_said (statement_of tag (get_or body 0 0) (get_or body 1 0) (get_or body 2 0)) at next))

-- first the refusals of the frame
abbrev pub framed_said : Result Frame Refusal → List ℕ → ℕ → Result Said Refusal
framed_said (Err r) rest at = Err r
framed_said (Ok f) rest at = said_by f.tag (drop 3 rest) at (at + (3 + f.length))

-- what the field at the place `at` says, where `rest` are the bytes from there on
unfoldable pub said : ℕ → List ℕ → Result Said Refusal
said at rest = framed_said (frame_of QuestionFile (due_at at) 0 at rest) rest at

-- what a field leads to: the next field's place and the question so far, the place behind the end, or a refusal
pub data Next : Type 0 where
  More : ℕ → Question → Next
  End : ℕ → Next
  Stop : Refusal → Next

-- what is said, put to the question so far: 5 for names, 7, 6, 8 for a statement, at the field's first byte
abbrev pub put : ℕ → Question → Result Said Refusal → Next
put at q (Ok (Names E S next)) = accepted_then (names_checked_at at E S) Stop (More next (declaring E S))
put at q (Ok (Stated s next)) = accepted_then (admitted_at at (addition q.elements q.sets q.count (terms_of q) s)) Stop (More next (added q s))
put at q (Ok (Ended next)) = End next
put at q (Err r) = Stop r

-- one field at the place `at`, where `rest` are the bytes from there on and q is the question so far
unfoldable pub field_step : List ℕ → ℕ → Question → Next
field_step rest at q = put at q (said at rest)
