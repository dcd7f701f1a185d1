-- What the reduction writes and answers.
use Rattle.std.specs.Prelude.{ℕ, cond, List, map, ltb, Ok, Err}
use Rattle.outcome.specs.Checks.{Check}
use Rattle.outcome.specs.Refusals.{refusal, too_many_names}
use Rattle.outcome.specs.Writes.{fitted, fitted_over, checked_then, checked_over}
use Rattle.question.specs.declared.questions.Question.{Question}
use Rattle.question.specs.Limits.{max_terms}
use Rattle.question.specs.Questions.{terms_of}
use Rattle.question.specs.Checks.{checked}
use Rattle.theory.specs.Reduction.{row_list}
use Rattle.row.specs.Rows.{pack_row}
use Rattle.outcome.specs.Writes.{Written}

-- the row list, each row as its number
unfoldable pub packed_rows : Question → List ℕ
packed_rows q = map pack_row (row_list q)

-- more than 12 terms: 5 at place 0, as for rows that are handed in; nothing else of the table is checked
unfoldable pub terms_checked : Question → Check
terms_checked q = cond (ltb max_terms (terms_of q)) (Err (refusal too_many_names 0)) (Ok tt)

-- the rows of a table as it stands, where there is room for so many: 5, then 10, else how many rows are written
unfoldable pub rows_written : Question → ℕ → Written
rows_written q room = checked_then (terms_checked q) (fitted (packed_rows q) room)

-- the buffer after that call: the rows over what was there, or what was there
unfoldable pub rows_written_over : Question → List ℕ → List ℕ
rows_written_over q old = checked_over (terms_checked q) (fitted_over (packed_rows q) old) old

-- the answer where there is room for so many rows: the table's refusals, then 10, else how many rows are written
unfoldable pub reduced : Question → ℕ → Written
reduced q room = checked_then (checked q) (fitted (packed_rows q) room)

-- the buffer after the call: the rows over what was there, or what was there
unfoldable pub reduced_over : Question → List ℕ → List ℕ
reduced_over q old = checked_over (checked q) (fitted_over (packed_rows q) old) old
