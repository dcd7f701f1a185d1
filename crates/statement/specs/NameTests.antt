-- Which names are declared, and the test of a statement's names from left to right.
use Rattle.std.specs.Prelude.{ℕ, suc, Bool, cond, List, [], ◌∷◌, map, ltb, Result, Ok, Err}
use Rattle.statement.specs.declared.statements.Statement.{Statement}
use Rattle.statement.specs.Statements.{Name, element, set, names_of}

-- a name is declared if it is below the number of names of its sort
abbrev pub declared : ℕ → ℕ → Name → Bool
declared E S (element a) = ltb a.0 E
declared E S (set x) = ltb x.0 S

-- the position of the leftmost test that fails, the first being at `at`
abbrev pub leftmost : ℕ → List Bool → Result (Unit {0}) ℕ
leftmost at [] = Ok tt
leftmost at (t ∷ ts) = cond t (leftmost (suc at) ts) (Err at)

-- the test of a statement's names: the position of the leftmost that is not declared
abbrev pub name_test : ℕ → ℕ → Statement → Result (Unit {0}) ℕ
name_test E S s = leftmost 0 (map (declared E S) (names_of s))
