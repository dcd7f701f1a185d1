-- Questions built step by step: with names alone, with one statement more, without a run of statements.
use Rattle.std.specs.Prelude.{ℕ, ◌+◌, List, ◌++◌, take, drop, replicate, set}
use Rattle.statement.specs.declared.statements.Statement.{Statement}
use Rattle.question.specs.declared.questions.Record.{Record}
use Rattle.question.specs.declared.questions.Question.{Question}
use Rattle.question.specs.Limits.{max_statements}
use Rattle.question.specs.Questions.{idle, statements, question_of}

-- a table without statements: each entry is "0 = 0" of element names
unfoldable pub unused_table : List Record
unused_table = replicate max_statements idle

-- a question with names and no statements; without names it is the empty question
abbrev pub declaring : ℕ → ℕ → Question
declaring E S = record { elements = E; sets = S; count = 0; table = unused_table }

-- a question with one statement more
abbrev pub added : Question → Statement → Question
added q s = record { elements = q.elements; sets = q.sets; count = q.count + 1; table = set q.table q.count (record { statement = s }) }

-- a list without the n entries from i on
abbrev pub without : {A : Type 0} → ℕ → ℕ → List A → List A
without i n l = take i l ++ drop (i + n) l

-- the question without the n statements from the index i on: the others in their order
unfoldable pub dropped : Question → ℕ → ℕ → Question
dropped q i n = question_of q.elements q.sets (without i n (statements q))
