-- The clauses as DIMACS text: the first line with the two counts, then one clause a line.
use Rattle.std.specs.Prelude.{ℕ, List, [], ◌∷◌, ◌++◌, length}
use Rattle.text.specs.Decimals.{decimal, digit}
use Rattle.text.specs.Literals.{literal_text}
use Rattle.text.specs.Pieces.{space, line_end}
use Rattle.question.specs.declared.questions.Question.{Question}
use Rattle.question.specs.Questions.{terms_of}
use Rattle.theory.specs.Rules.{Row}
use Rattle.theory.specs.Sets.{Test}
use Rattle.theory.specs.Reduction.{row_list}
use Rattle.clauses.specs.Variables.{spare_variable}
use Rattle.clauses.specs.Clauses.{Clause, table_clauses}

-- literals with one space behind each, then 0
abbrev pub clause_line : Clause → List ℕ
clause_line [] = digit 0 ∷ line_end ∷ []
clause_line (l ∷ ls) = literal_text l ++ (space ∷ clause_line ls)

-- the lines of some clauses
unfoldable pub clause_lines : List Clause → List ℕ
clause_lines [] = []
clause_lines (c ∷ cs) = clause_line c ++ clause_lines cs

-- `p cnf `
abbrev pub problem : List ℕ
problem = 0x70 ∷ 0x20 ∷ 0x63 ∷ 0x6e ∷ 0x66 ∷ 0x20 ∷ []

-- the first line: the number of variables, the number of clauses
abbrev pub first_line : ℕ → ℕ → List ℕ
first_line variables clauses = problem ++ (decimal variables ++ (space ∷ (decimal clauses ++ (line_end ∷ []))))

-- the whole text, where there are so many variables
abbrev pub dimacs : ℕ → List Clause → List ℕ
dimacs variables clauses = first_line variables (length clauses) ++ clause_lines clauses

-- the most bytes that any question's clauses take: a first line of at most 15, then at most 5,076 lines of at most 17
abbrev pub longest_clauses : ℕ
longest_clauses = 86307

-- the text of the clauses of a table of rows, over so many terms and sets
abbrev pub table_text : ℕ → ℕ → List (Row Test) → List ℕ
table_text terms sets rows = dimacs (spare_variable terms sets) (table_clauses terms sets rows)

-- the text of a question's clauses
unfoldable pub clause_text : Question → List ℕ
clause_text q = table_text (terms_of q) q.sets (row_list q)
