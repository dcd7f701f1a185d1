-- A walk over the statements of a question that writes their fields, or counts their bytes: what one turn does, and how the walk ends.
use Prim.Native.Nat.{ℕ, ◌+◌, ◌≤◌, ◌<◌}
use mathlib.Core.Path.{◌≡◌}
use mathlib.Core.List.{List, [], ◌∷◌, ◌++◌}
use native.Mathlib.Omega.{arith}
use lib.ListN.{length, get_or, take, drop, length-append}
use lib.Seq.{take-append_seam}
use Rattle.statement.specs.declared.statements.Statement.{Statement}
use Rattle.question.specs.declared.questions.Record.{Record}
use Rattle.question.specs.declared.questions.Question.{Question}
use Rattle.question.specs.Questions.{statements}
use Rattle.question.proofs.StatementsLaws.{statements_length, statements_turn, statements_left}
use Rattle.question_file.specs.Bodies.{body_of, longest_body}
use Rattle.outcome.specs.Padded.{padded}
use Rattle.field.specs.declared.tags.File.TheVariants.{Question as QuestionFile}
use Rattle.field.specs.Writes.{field_length}
use Rattle.field.proofs.TagLaws.{rule, fixed}
use Rattle.field.proofs.WriteLaws.{length_written}
use Rattle.statement.specs.Statements.{tag_of}
use Rattle.question_file.proofs.BodyLaws.{field}
use Rattle.question_file.specs.Bytes.{statement_bytes, statements_bytes, file_bytes, question_bytes}

-- the bytes of the statements from the index i on
abbrev pub bytes_from : Question → ℕ → List ℕ
bytes_from q i = statements_bytes (drop i (statements q))

pub bytes_turn : (q : Question) (i : ℕ) (d : Record) → i < length (take q.count q.table) → bytes_from q i ≡ statement_bytes (get_or (take q.count q.table) i d).statement ++ bytes_from q (i + 1)
unfolding statements_bytes
bytes_turn q i d below = rw (statements_turn q q.count i d (omega arith) below)

pub bytes_end : (q : Question) (i : ℕ) → length (take q.count q.table) ≤ i → bytes_from q i ≡ []
unfolding statements_bytes
bytes_end q i past = rw (statements_left q q.count i (omega (arith, statements_length q)) past)

-- the fields of a file have the lengths of the table
pub names_length : field_length QuestionFile 0x01 0 ≡ 5
names_length = length_written QuestionFile 0x01 0 (0 ∷ 0 ∷ []) (fixed QuestionFile 0x01 0 2 (rule QuestionFile 0x01)) (omega arith)

pub end_length : field_length QuestionFile 0x7f 0 ≡ 3
end_length = length_written QuestionFile 0x7f 0 [] (fixed QuestionFile 0x7f 0 0 (rule QuestionFile 0x7f)) (omega arith)

pub statement_length : (s : Statement) → field_length QuestionFile (tag_of s) 0 ≡ length (statement_bytes s)
statement_length s = length_written QuestionFile (tag_of s) 0 (body_of s) (fixed QuestionFile (tag_of s) 0 (length (body_of s)) (field s).listed) (omega (arith, (field s).few))

-- field 01 has five bytes, and 7F three
pub question_length : (q : Question) → length (question_bytes q) ≡ 8 + length (bytes_from q 0)
unfolding file_bytes
question_length q = simp length-append (omega arith)

-- the first bytes of a padded body are the body
pub padded_body : (s : Statement) → take (length (body_of s)) (padded longest_body (body_of s)) ≡ body_of s
padded_body s = take-append_seam (body_of s) _
