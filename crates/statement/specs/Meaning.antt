-- What the statements mean in an assignment: the table of statements of document 01, read on a domain of any size.
use Rattle.std.specs.Prelude.{ℕ, zero, suc, ◌≤◌, ◌<◌, Bool, true, not, ◌&&◌, ◌||◌, List, [], ◌∷◌, T, eqb}
use Rattle.std.specs.Bool.{beq}
use Rattle.statement.specs.declared.names.ElementName.{ElementName}
use Rattle.statement.specs.declared.names.SetName.{SetName}
use Rattle.statement.specs.declared.statements.Statement.{Statement}
use Rattle.statement.specs.declared.statements.Statement.TheVariants.{ElementsEqual, ElementsDiffer, In, NotIn, SetsEqual, SetsDiffer, Empty, Single, Union, Intersection, Difference}

-- an assignment: a domain of `size` elements 0, 1, .., the domain element of each element name, and the part of the domain for each set name
pub record Assignment : Type 0 where
  pub size : ℕ
  pub element : ElementName → ℕ
  pub part : SetName → ℕ → Bool

-- the least size of a domain: it may be empty
abbrev pub least_size : ℕ
least_size = 0

-- A is an assignment for E element names: the element of each lies in the domain, so with size 0 and E above 0 there is none
pub record IsAssignment (E : ℕ) (A : Assignment) : Type 0 where
  pub large_enough : least_size ≤ A.size
  pub within : (a : ElementName) → a.0 < E → A.element a < A.size

-- does f hold at each of the domain elements 0, .., n - 1
unfoldable pub everywhere : ℕ → (ℕ → Bool) → Bool
everywhere zero f = true
everywhere (suc n) f = everywhere n f && f n

-- does the statement hold: the column "meaning"
module _ (A : Assignment) where
  abbrev pub holds : Statement → Bool
  holds (ElementsEqual a b) = eqb (A.element a) (A.element b)
  holds (ElementsDiffer a b) = not (eqb (A.element a) (A.element b))
  holds (In a x) = A.part x (A.element a)
  holds (NotIn a x) = not (A.part x (A.element a))
  holds (SetsEqual x y) = everywhere A.size (λ d. beq (A.part x d) (A.part y d))
  holds (SetsDiffer x y) = not (everywhere A.size (λ d. beq (A.part x d) (A.part y d)))
  holds (Empty x) = everywhere A.size (λ d. not (A.part x d))
  holds (Single x a) = everywhere A.size (λ d. beq (A.part x d) (eqb d (A.element a)))
  holds (Union x y z) = everywhere A.size (λ d. beq (A.part x d) (A.part y d || A.part z d))
  holds (Intersection x y z) = everywhere A.size (λ d. beq (A.part x d) (A.part y d && A.part z d))
  holds (Difference x y z) = everywhere A.size (λ d. beq (A.part x d) (A.part y d && not (A.part z d)))

  -- every statement holds
  abbrev pub AllHold : List Statement → Type 0
  AllHold [] = Unit {0}
  AllHold (s ∷ ss) = T (holds s) × AllHold ss

-- no assignment over any finite domain meets the statements
abbrev pub CantHold : ℕ → List Statement → Type 0
CantHold E ss = (A : Assignment) → IsAssignment E A → AllHold A ss → ⊥

-- some assignment over a finite domain does
pub record CanHold (E : ℕ) (ss : List Statement) : Type 0 where
  pub by : Assignment
  pub assignment : IsAssignment E by
  pub holding : AllHold by ss
