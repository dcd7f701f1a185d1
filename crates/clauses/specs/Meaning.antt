-- What clauses mean: an assignment of truth values to the variables makes one literal of each clause true.
use Rattle.std.specs.Prelude.{ℕ, Bool, false, not, ◌||◌, cond, List, [], ◌∷◌, T}
use Rattle.text.specs.declared.literals.Literal.{Literal}
use Rattle.theory.specs.Lists.{all_of}
use Rattle.clauses.specs.Clauses.{Clause}

-- a truth value for each variable, by its number
abbrev pub Truth : Type 0
Truth = ℕ → Bool

module _ (truth : Truth) where
  abbrev pub literal_true : Literal → Bool
  literal_true l = cond l.denied (not (truth l.variable)) (truth l.variable)

  -- one of its literals is true
  abbrev pub clause_true : Clause → Bool
  clause_true [] = false
  clause_true (l ∷ ls) = literal_true l || clause_true ls

  -- every clause is true
  abbrev pub Satisfies : List Clause → Type 0
  Satisfies clauses = T (all_of clause_true clauses)

-- some assignment of truth values makes every clause true
pub record Satisfiable (clauses : List Clause) : Type 0 where
  pub by : Truth
  pub satisfies : Satisfies by clauses
