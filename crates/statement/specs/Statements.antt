-- The table of statements of document 01: the tag of each kind, the names of its body in their order, and its witness.
use Rattle.std.specs.Prelude.{ℕ, ◌+◌, Bool, cond, List, [], ◌∷◌, eqb}
use Rattle.statement.specs.declared.names.ElementName.{ElementName}
use Rattle.statement.specs.declared.names.SetName.{SetName}
use Rattle.statement.specs.declared.statements.Statement.{Statement}
use Rattle.statement.specs.declared.statements.Statement.TheVariants.{ElementsEqual, ElementsDiffer, In, NotIn, SetsEqual, SetsDiffer, Empty, Single, Union, Intersection, Difference}

-- the column "tag"
abbrev pub tag_of : Statement → ℕ
tag_of (ElementsEqual a b) = 0x10
tag_of (ElementsDiffer a b) = 0x11
tag_of (In a x) = 0x12
tag_of (NotIn a x) = 0x13
tag_of (SetsEqual x y) = 0x20
tag_of (SetsDiffer x y) = 0x21
tag_of (Empty x) = 0x22
tag_of (Single x a) = 0x23
tag_of (Union x y z) = 0x30
tag_of (Intersection x y z) = 0x31
tag_of (Difference x y z) = 0x32

-- a name of either sort
pub data Name : Type 0 where
  element : ElementName → Name
  set : SetName → Name

-- the column "body": the names in their order
abbrev pub names_of : Statement → List Name
names_of (ElementsEqual a b) = element a ∷ element b ∷ []
names_of (ElementsDiffer a b) = element a ∷ element b ∷ []
names_of (In a x) = element a ∷ set x ∷ []
names_of (NotIn a x) = element a ∷ set x ∷ []
names_of (SetsEqual x y) = set x ∷ set y ∷ []
names_of (SetsDiffer x y) = set x ∷ set y ∷ []
names_of (Empty x) = set x ∷ []
names_of (Single x a) = set x ∷ element a ∷ []
names_of (Union x y z) = set x ∷ set y ∷ set z ∷ []
names_of (Intersection x y z) = set x ∷ set y ∷ set z ∷ []
names_of (Difference x y z) = set x ∷ set y ∷ set z ∷ []

-- a statement x ≠ y, and no other, makes a witness
abbrev pub makes_witness : Statement → Bool
makes_witness s = eqb (tag_of s) 0x21

-- how many witnesses a statement makes, and how many some statements make
unfoldable pub witness : Statement → ℕ
witness s = cond (makes_witness s) 1 0

unfoldable pub witnesses : List Statement → ℕ
witnesses [] = 0
witnesses (s ∷ ss) = witness s + witnesses ss
