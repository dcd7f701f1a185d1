-- The reader of question files, field by field from left to right.
use Rattle.std.specs.Prelude.{ℕ, zero, suc, ◌+◌, cond, List, ltb, length, drop, Result, Ok, Err}
use Rattle.outcome.specs.declared.refusals.Refusal.{Refusal}
use Rattle.outcome.specs.Checks.{answer_or}
use Rattle.question.specs.declared.questions.Question.{Question}
use Rattle.question.specs.Limits.{max_statements}
use Rattle.outcome.specs.Refusals.{refusal, too_many_statements, bytes_after_end}
use Rattle.question.specs.Builds.{declaring}
use Rattle.question_file.specs.Fields.{Next, More, End, Stop, field_step}

-- after 7F, where the data has so many bytes: 9 at the first extra byte
abbrev pub ended_file : ℕ → ℕ → Question → Result Question Refusal
ended_file size place q = cond (ltb place size) (Err (refusal bytes_after_end place)) (Ok q)

-- what follows a field: the next one, the end, or its refusal
abbrev pub follow : ℕ → (ℕ → Question → Result Question Refusal) → Question → Next → Result Question Refusal
follow size rest q (More place r) = rest place r
follow size rest q (End place) = ended_file size place q
follow size rest q (Stop r) = Err r

-- at most so many fields from a place on, after the fields before it made a question; with 66 to read the last clause is never met
unfoldable pub read_fields : ℕ → List ℕ → ℕ → Question → Result Question Refusal
read_fields (suc fields) bytes at q = follow (length bytes) (read_fields fields bytes) q (field_step (drop at bytes) at q)
read_fields zero bytes at q = Err (refusal too_many_statements at)

-- 01, the statements, and one field more: 7F, or the statement that is one too many
abbrev pub max_fields : ℕ
max_fields = 1 + max_statements + 1

-- the question of a file, read from its first byte on
abbrev pub read_question : List ℕ → Result Question Refusal
read_question bytes = read_fields max_fields bytes 0 (declaring 0 0)

-- the question of a file that is accepted; the empty one where it is refused
abbrev pub asked : Result Question Refusal → Question
asked read = answer_or (declaring 0 0) read
