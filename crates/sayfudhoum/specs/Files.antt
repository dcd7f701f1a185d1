-- From question bytes: the decision, the answer's bytes in a lent buffer, and what the program writes.
use Rattle.std.specs.Prelude.{ℕ, List, ◌∷◌, ◌++◌, Result, Ok, Err}
use Rattle.std.proofs.Math.Option.{Option}
use Rattle.outcome.specs.declared.refusals.Refusal.{Refusal}
use Rattle.outcome.specs.Writes.{Written}
use Rattle.outcome.specs.Checks.{accepted_then, outcome_of}
use Rattle.outcome.specs.Writes.{fitted, fitted_over, checked_then, checked_over}
use Rattle.field.specs.Heads.{field_bytes, end_bytes}
use Rattle.number.specs.Numbers.{bytes_of}
use Rattle.question_file.specs.Reads.{read_question, asked}
use Rattle.theory.specs.Solutions.{Solution}
use Rattle.theory.specs.Answers.{answer}
use Rattle.answer.specs.Answers.{as_answer}
use Rattle.answer.specs.Bytes.{file_of}
use Rattle.answer.specs.declared.answers.Answer.{Answer}

-- the answer to the question of a file
abbrev pub answer_in : List ℕ → Option Solution
answer_in bytes = answer (asked (read_question bytes))

-- the file's refusals, else the decision
unfoldable pub file_decided : List ℕ → Result Answer Refusal
file_decided bytes = accepted_then (outcome_of (read_question bytes)) Err (Ok (as_answer (answer_in bytes)))

-- the answer's bytes where there is room for so many: the file's refusals, then 10, which compares with this answer's length
unfoldable pub answered : List ℕ → ℕ → Written
answered bytes room = checked_then (outcome_of (read_question bytes)) (fitted (file_of (answer_in bytes)) room)

-- the buffer after the call: the answer over what was there, or what was there
unfoldable pub answered_over : List ℕ → List ℕ → List ℕ
answered_over bytes old = checked_over (outcome_of (read_question bytes)) (fitted_over (file_of (answer_in bytes)) old) old

-- field 44, a refusal's number and its place in two bytes, and 7F
abbrev pub report_bytes : Refusal → List ℕ
report_bytes r = field_bytes 0x44 (r.number ∷ bytes_of 2 r.place) ++ end_bytes

-- what the program writes: the answer, or the report of the file's refusal
unfoldable pub response : List ℕ → List ℕ
response bytes = accepted_then (outcome_of (read_question bytes)) report_bytes (file_of (answer_in bytes))

-- in a lent buffer: 10 if it is shorter
unfoldable pub responded : List ℕ → ℕ → Written
responded bytes room = fitted (response bytes) room

unfoldable pub responded_over : List ℕ → List ℕ → List ℕ
responded_over bytes old = fitted_over (response bytes) old
