-- A question's statements and its terms.
use Rattle.std.specs.Prelude.{ℕ, ◌+◌, ◌-◌, List, ◌++◌, map, length, take, replicate}
use Rattle.statement.specs.declared.statements.Statement.{Statement}
use Rattle.statement.specs.declared.statements.Statement.TheVariants.{ElementsEqual}
use Rattle.question.specs.declared.questions.Record.{Record}
use Rattle.question.specs.declared.questions.Question.{Question}
use Rattle.question.specs.Limits.{max_statements}
use Rattle.statement.specs.Statements.{witnesses}

-- "0 = 0" of element names, which stands in the unused records of a table
abbrev pub idle : Record
idle = record { statement = ElementsEqual (record { 0 = 0 }) (record { 0 = 0 }) }

-- no names and no statements
abbrev pub empty_question : Question
empty_question = record { elements = 0; sets = 0; count = 0; table = replicate max_statements idle }

-- the question with E element names, S set names and these statements; the unused entries of its table are "0 = 0"
abbrev pub question_of : ℕ → ℕ → List Statement → Question
question_of E S ss = record { elements = E; sets = S; count = length ss; table = map (λ s. record { statement = s }) ss ++ replicate (max_statements - length ss) idle }

-- the statements in order: entries past the count are ignored
unfoldable pub statements : Question → List Statement
statements q = map (λ r. r.statement) (take q.count q.table)

-- T, the number of terms: the element names, then one witness for each x ≠ y
unfoldable pub terms_of : Question → ℕ
terms_of q = q.elements + witnesses (statements q)
