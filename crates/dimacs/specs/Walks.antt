-- The walk over the clauses: the writer behind some bytes and behind some clauses, and that there are numbers for them.
use Rattle.std.specs.Prelude.{ℕ, ◌+◌, ◌-◌, ◌≤◌, List, [], ◌∷◌, ◌++◌, length}
use Rattle.text.specs.Pieces.{space, line_end}
use Rattle.text.specs.declared.literals.Literal.{Literal}
use Rattle.text.specs.Decimals.{digit, decimal}
use Rattle.text.specs.Literals.{literal_text}
use Rattle.text.specs.Laid.{laid}
use Rattle.theory.specs.Rules.{upward}
use Rattle.dimacs.specs.declared.writers.Writer.{Writer}
use Rattle.clauses.specs.Clauses.{Clause, for_each}
use Rattle.clauses.specs.Texts.{clause_line, longest_clauses}

-- a literal with its space, and what stands behind the literals of a clause
abbrev pub word_text : Literal → List ℕ
word_text l = literal_text l ++ (space ∷ [])

abbrev pub end_text : List ℕ
end_text = digit 0 ∷ line_end ∷ []

-- a number with the byte behind it
abbrev pub number_text : ℕ → ℕ → List ℕ
number_text n end = decimal n ++ (end ∷ [])

-- the writer w behind some more bytes: they are laid into its buffer from its place on
unfoldable pub put : Writer → List ℕ → Writer
put w bytes = record w { buf = record w.buf { now = laid w.at bytes w.buf.now }; at = w.at + length bytes }

-- no byte of the longest text lies past these
abbrev pub Fitting : Writer → List ℕ → Type 0
Fitting w bytes = w.at + length bytes ≤ longest_clauses

-- behind one more clause, and behind some
abbrev pub wrote_one : Writer → Clause → Writer
wrote_one w c = record (put w (clause_line c)) { clauses = w.clauses + 1 }

abbrev pub wrote : Writer → List Clause → Writer
wrote w [] = w
wrote w (c ∷ cs) = wrote (wrote_one w c) cs

-- no clause of the longest text lies past these
abbrev pub Room : Writer → List Clause → Type 0
Room w [] = Unit {0}
Room w (c ∷ cs) = Fitting w (clause_line c) × (w.clauses + 1 ≤ longest_clauses) × Room (wrote_one w c) cs

-- the clauses of the numbers from s on that are below n
abbrev pub each : (ℕ → List Clause) → ℕ → ℕ → List Clause
each f s n = for_each (upward (n - s) s) f
