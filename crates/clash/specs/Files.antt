-- From question bytes: what a call of the finder answers, and its three lent buffers.
use Rattle.std.specs.Prelude.{Bool, ◌||◌, cond, List, ℕ, length, Result, Ok, Err}
use Rattle.outcome.specs.declared.refusals.Refusal.{Refusal}
use Rattle.outcome.specs.Refusals.{refusal, buffer_too_short}
use Rattle.outcome.specs.Checks.{answer_then}
use Rattle.outcome.specs.Writes.{over, too_short}
use Rattle.question.specs.declared.questions.Question.{Question}
use Rattle.question_file.specs.Bytes.{question_bytes}
use Rattle.question_file.specs.Reads.{read_question}
use Rattle.theory.specs.Answers.{answer}
use Rattle.answer.specs.Bytes.{file_of}
use Rattle.clash.specs.declared.files.ClashCounts.{ClashCounts}
use Rattle.clash.specs.Clashes.{clashing, part_of}

-- three buffers, or what is to be written into them: the part's file, the indexes and the answer's file
pub record Three : Type 0 where
  pub part : List ℕ
  pub indexes : List ℕ
  pub answer : List ℕ

abbrev pub three : List ℕ → List ℕ → List ℕ → Three
three p i a = record { part = p; indexes = i; answer = a }

-- is one of the buffers too short
abbrev pub any_short : Three → Three → Bool
any_short new old = too_short new.part (length old.part) || (too_short new.indexes (length old.indexes) || too_short new.answer (length old.answer))

-- a refusal, and nothing was written; or how much was written into each
abbrev pub ClashWritten : Type 0
ClashWritten = Result ClashCounts Refusal

-- how much is written where all is
abbrev pub counts : Three → ClashCounts
counts new = record { part = length new.part; indexes = length new.indexes; answer = length new.answer }

-- all fit, or 10
abbrev pub three_written : Three → Three → ClashWritten
three_written new old = cond (any_short new old) (Err (refusal buffer_too_short 0)) (Ok (counts new))

-- and the buffers: each is written over what was there, or all are as they were
abbrev pub three_over : Three → Three → Three
three_over new old = cond (any_short new old) old (three (over new.part old.part) (over new.indexes old.indexes) (over new.answer old.answer))

-- what is to be written of a question: the file of its clashing part, the old indexes, and the file of its own answer
abbrev pub clash_bytes : Question → Three
clash_bytes q = three (question_bytes (part_of q)) (clashing q) (file_of (answer q))

-- what the call answers: the file's refusals, then 10
unfoldable pub clash_written : List ℕ → Three → ClashWritten
clash_written bytes old = answer_then (read_question bytes) Err (λ q. three_written (clash_bytes q) old)

-- the three buffers after the call; a refused call leaves them as they were
unfoldable pub clash_over : List ℕ → Three → Three
clash_over bytes old = answer_then (read_question bytes) (λ r. old) (λ q. three_over (clash_bytes q) old)
