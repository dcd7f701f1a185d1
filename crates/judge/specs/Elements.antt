-- What a statement about sets asks of one domain element.
use Rattle.std.specs.Prelude.{ℕ, Bool, true, not, ◌&&◌, ◌||◌, eqb}
use Rattle.std.specs.Bool.{beq}
use Rattle.statement.specs.declared.statements.Statement.{Statement}
use Rattle.statement.specs.declared.statements.Statement.TheVariants.{ElementsEqual, ElementsDiffer, In, NotIn, SetsEqual, SetsDiffer, Empty, Single, Union, Intersection, Difference}
use Rattle.statement.specs.Meaning.{Assignment}

-- x ≠ y is tested as x = y, and denied; a statement about named elements asks nothing here
module _ (A : Assignment) where
  abbrev pub at_element : Statement → ℕ → Bool
  at_element (SetsEqual x y) d = beq (A.part x d) (A.part y d)
  at_element (SetsDiffer x y) d = beq (A.part x d) (A.part y d)
  at_element (Empty x) d = not (A.part x d)
  at_element (Single x a) d = beq (A.part x d) (eqb d (A.element a))
  at_element (Union x y z) d = beq (A.part x d) (A.part y d || A.part z d)
  at_element (Intersection x y z) d = beq (A.part x d) (A.part y d && A.part z d)
  at_element (Difference x y z) d = beq (A.part x d) (A.part y d && not (A.part z d))
  at_element (ElementsEqual a b) d = true
  at_element (ElementsDiffer a b) d = true
  at_element (In a x) d = true
  at_element (NotIn a x) d = true
