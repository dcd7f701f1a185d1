-- Rules and their rows, over any type of tests on a term: sets have ten kinds of tests, and another family has its own.
use Rattle.std.specs.Prelude.{ℕ, zero, suc, ◌+◌, List, [], ◌∷◌, ◌++◌, map}

-- a row: a test on one term
pub record Row (Test : Type 0) : Type 0 where
  pub term : ℕ
  pub test : Test

-- what a statement asks for: a row for one term, for each term, or for its own witness
pub data Rule (Test : Type 0) : Type 0 where
  OneTerm : ℕ → Test → Rule Test
  EachTerm OwnWitness : Test → Rule Test

-- the numbers c, c + 1, .. , n of them
abbrev pub upward : ℕ → ℕ → List ℕ
upward zero c = []
upward (suc n) c = c ∷ upward n (suc c)

module _ {Test : Type 0} where
  -- the row of the test t for the term c
  abbrev pub row : ℕ → Test → Row Test
  row c t = record { term = c; test = t }

  -- how many witnesses a rule has
  abbrev pub own_witness : Rule Test → ℕ
  own_witness (OneTerm a t) = 0
  own_witness (EachTerm t) = 0
  own_witness (OwnWitness t) = 1

  -- the rows of a rule: so many terms in all, w the next witness; where it says "each term", terms go upward
  abbrev pub rows_of_rule : ℕ → ℕ → Rule Test → List (Row Test)
  rows_of_rule terms w (OneTerm a t) = row a t ∷ []
  rows_of_rule terms w (EachTerm t) = map (λ c. row c t) (upward terms 0)
  rows_of_rule terms w (OwnWitness t) = row w t ∷ []

  -- the rows of the rules, in order
  abbrev pub rows_of_rules : ℕ → ℕ → List (Rule Test) → List (Row Test)
  rows_of_rules terms w [] = []
  rows_of_rules terms w (r ∷ rs) = rows_of_rule terms w r ++ rows_of_rules terms (w + own_witness r) rs
