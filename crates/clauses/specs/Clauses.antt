-- The clauses of a reduced table, in document 02's order: for each triple of terms, for each pair and set, then for each row.
use Rattle.std.specs.Prelude.{ℕ, suc, ◌-◌, cond, List, [], ◌∷◌, ◌++◌, eqb}
use Rattle.text.specs.declared.literals.Literal.{Literal}
use Rattle.text.specs.Literals.{is, is_not}
use Rattle.question.specs.declared.questions.Question.{Question}
use Rattle.question.specs.Questions.{terms_of}
use Rattle.theory.specs.Rules.{Row, upward}
use Rattle.theory.specs.Sets.{Test, IsSame, IsNotSame, IsIn, IsNotIn, ExactlyIfIn, ExactlyIfNotIn, ExactlyIfSame, ExactlyIfOr, ExactlyIfAnd, ExactlyIfAndNot}
use Rattle.theory.specs.Reduction.{row_list}
use Rattle.clauses.specs.Variables.{pair_variable, same_variable, in_variable, spare_variable}

-- a clause: one of its literals is to be true
abbrev pub Clause : Type 0
Clause = List Literal

-- the lists of each entry, one behind the other
unfoldable pub for_each : {A : Type 0} → List A → (A → List Clause) → List Clause
for_each [] f = []
for_each (x ∷ xs) f = f x ++ for_each xs f

-- clauses of one, two and three literals
abbrev pub one : Literal → Clause
one p = p ∷ []

abbrev pub two : Literal → Literal → Clause
two p q = p ∷ q ∷ []

abbrev pub three : Literal → Literal → Literal → Clause
three p q r = p ∷ q ∷ r ∷ []

-- p exactly if q
abbrev pub exactly_if : ℕ → ℕ → List Clause
exactly_if p q = two (is_not p) (is q) ∷ two (is p) (is_not q) ∷ []

-- p exactly if not q
abbrev pub exactly_if_not : ℕ → ℕ → List Clause
exactly_if_not p q = two (is p) (is q) ∷ two (is_not p) (is_not q) ∷ []

-- p exactly if q or r; q and r; q and not r
abbrev pub exactly_if_or : ℕ → ℕ → ℕ → List Clause
exactly_if_or p q r = three (is_not p) (is q) (is r) ∷ two (is p) (is_not q) ∷ two (is p) (is_not r) ∷ []

abbrev pub exactly_if_and : ℕ → ℕ → ℕ → List Clause
exactly_if_and p q r = two (is_not p) (is q) ∷ two (is_not p) (is r) ∷ three (is p) (is_not q) (is_not r) ∷ []

abbrev pub exactly_if_and_not : ℕ → ℕ → ℕ → List Clause
exactly_if_and_not p q r = two (is_not p) (is q) ∷ two (is_not p) (is_not r) ∷ three (is p) (is_not q) (is r) ∷ []

-- of three pairs, two with a term in common make the third: with bc, cd and bd
abbrev pub joining : ℕ → ℕ → ℕ → List Clause
joining bc cd bd = three (is_not bc) (is_not cd) (is bd) ∷ three (is_not bc) (is_not bd) (is cd) ∷ three (is_not bd) (is_not cd) (is bc) ∷ []

-- terms that are the same are in the same sets: with cd, and p, q for c, d in a set
abbrev pub agreeing : ℕ → ℕ → ℕ → List Clause
agreeing cd p q = three (is_not cd) (is_not p) (is q) ∷ three (is_not cd) (is_not q) (is p) ∷ []

module _ (terms sets : ℕ) where
  -- the terms above c, upward
  abbrev pub above : ℕ → List ℕ
  above c = upward (terms - suc c) (suc c)

  -- for each triple b, c, d upward
  abbrev pub triple_clauses : ℕ → ℕ → ℕ → List Clause
  triple_clauses b c d = joining (pair_variable terms sets b c) (pair_variable terms sets c d) (pair_variable terms sets b d)

  abbrev pub triples_of : ℕ → ℕ → List Clause
  triples_of b c = for_each (above c) (triple_clauses b c)

  abbrev pub triples_from : ℕ → List Clause
  triples_from b = for_each (above b) (triples_of b)

  abbrev pub triples : List Clause
  triples = for_each (upward terms 0) triples_from

  -- for each pair c, d, then each set
  abbrev pub pair_clauses : ℕ → ℕ → ℕ → List Clause
  pair_clauses c d x = agreeing (pair_variable terms sets c d) (in_variable terms sets c x) (in_variable terms sets d x)

  abbrev pub pairs_of : ℕ → ℕ → List Clause
  pairs_of c d = for_each (upward sets 0) (pair_clauses c d)

  abbrev pub pairs_from : ℕ → List Clause
  pairs_from c = for_each (above c) (pairs_of c)

  abbrev pub pairs : List Clause
  pairs = for_each (upward terms 0) pairs_from

  -- the spare variable, then its denial: clauses that can't be satisfied
  abbrev pub never : List Clause
  never = one (is (spare_variable terms sets)) ∷ one (is_not (spare_variable terms sets)) ∷ []

  -- a row for the term c: one that says a term is itself gives no clause; one that says it isn't, the spare variable, then its denial
  abbrev pub test_clauses : ℕ → Test → List Clause
  test_clauses c (IsSame d) = cond (eqb c d) [] (one (is (same_variable terms sets c d)) ∷ [])
  test_clauses c (IsNotSame d) = cond (eqb c d) never (one (is_not (same_variable terms sets c d)) ∷ [])
  test_clauses c (IsIn x) = one (is (in_variable terms sets c x)) ∷ []
  test_clauses c (IsNotIn x) = one (is_not (in_variable terms sets c x)) ∷ []
  test_clauses c (ExactlyIfIn x y) = exactly_if (in_variable terms sets c x) (in_variable terms sets c y)
  test_clauses c (ExactlyIfNotIn x y) = exactly_if_not (in_variable terms sets c x) (in_variable terms sets c y)
  test_clauses c (ExactlyIfSame x a) = cond (eqb c a) (one (is (in_variable terms sets c x)) ∷ []) (exactly_if (in_variable terms sets c x) (same_variable terms sets c a))
  test_clauses c (ExactlyIfOr x y z) = exactly_if_or (in_variable terms sets c x) (in_variable terms sets c y) (in_variable terms sets c z)
  test_clauses c (ExactlyIfAnd x y z) = exactly_if_and (in_variable terms sets c x) (in_variable terms sets c y) (in_variable terms sets c z)
  test_clauses c (ExactlyIfAndNot x y z) = exactly_if_and_not (in_variable terms sets c x) (in_variable terms sets c y) (in_variable terms sets c z)

  abbrev pub row_clauses : Row Test → List Clause
  row_clauses r = test_clauses r.term r.test

  -- all of them, with the rows in order
  unfoldable pub table_clauses : List (Row Test) → List Clause
  table_clauses rows = triples ++ (pairs ++ for_each rows row_clauses)

-- the clauses of a question's reduced table
abbrev pub clauses_of : Question → List Clause
clauses_of q = table_clauses (terms_of q) q.sets (row_list q)
