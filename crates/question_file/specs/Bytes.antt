-- A question as the bytes of a file: field 01 with E and S, the statements' fields in order, then 7F.
use Rattle.std.specs.Prelude.{ℕ, List, [], ◌∷◌, ◌++◌}
use Rattle.statement.specs.declared.statements.Statement.{Statement}
use Rattle.question.specs.declared.questions.Question.{Question}
use Rattle.statement.specs.Statements.{tag_of}
use Rattle.question.specs.Questions.{statements}
use Rattle.field.specs.Heads.{field_bytes, end_bytes}
use Rattle.question_file.specs.Bodies.{body_of}

-- field 01
abbrev pub names_bytes : ℕ → ℕ → List ℕ
names_bytes E S = field_bytes 0x01 (E ∷ S ∷ [])

-- the field of a statement
abbrev pub statement_bytes : Statement → List ℕ
statement_bytes s = field_bytes (tag_of s) (body_of s)

-- the fields of some statements in order
unfoldable pub statements_bytes : List Statement → List ℕ
statements_bytes [] = []
statements_bytes (s ∷ ss) = statement_bytes s ++ statements_bytes ss

-- the file of E, S and some statements
unfoldable pub file_bytes : ℕ → ℕ → List Statement → List ℕ
file_bytes E S ss = names_bytes E S ++ (statements_bytes ss ++ end_bytes)

-- the file of a question
abbrev pub question_bytes : Question → List ℕ
question_bytes q = file_bytes q.elements q.sets (statements q)
