-- A statement and the body of its field, one byte a name, after the table of statements of document 01.
use Rattle.std.specs.Prelude.{ℕ, cond, List, map, eqb, Option, Some, None}
use Rattle.statement.specs.declared.names.ElementName.{ElementName}
use Rattle.statement.specs.declared.names.SetName.{SetName}
use Rattle.statement.specs.declared.statements.Statement.{Statement}
use Rattle.statement.specs.declared.statements.Statement.TheVariants.{ElementsEqual, ElementsDiffer, In, NotIn, SetsEqual, SetsDiffer, Empty, Single, Union, Intersection, Difference}
use Rattle.statement.specs.Statements.{Name, element, set, names_of}

-- a byte as a name of each sort, and a name as a byte
abbrev pub element_name : ℕ → ElementName
element_name a = record { 0 = a }

abbrev pub set_name : ℕ → SetName
set_name x = record { 0 = x }

abbrev pub name_byte : Name → ℕ
name_byte (element a) = a.0
name_byte (set x) = x.0

-- the body of a statement's field
abbrev pub body_of : Statement → List ℕ
body_of s = map name_byte (names_of s)

-- the longest body has three names
abbrev pub longest_body : ℕ
longest_body = 3

-- the statement of a tag whose body begins with the bytes a, b, c, if the tag is a statement's
unfoldable pub statement_of : ℕ → ℕ → ℕ → ℕ → Option Statement
statement_of tag a b c =
    cond (eqb tag 0x10) (Some (ElementsEqual (element_name a) (element_name b)))
    (cond (eqb tag 0x11) (Some (ElementsDiffer (element_name a) (element_name b)))
    (cond (eqb tag 0x12) (Some (In (element_name a) (set_name b)))
    (cond (eqb tag 0x13) (Some (NotIn (element_name a) (set_name b)))
    (cond (eqb tag 0x20) (Some (SetsEqual (set_name a) (set_name b)))
    (cond (eqb tag 0x21) (Some (SetsDiffer (set_name a) (set_name b)))
    (cond (eqb tag 0x22) (Some (Empty (set_name a)))
    (cond (eqb tag 0x23) (Some (Single (set_name a) (element_name b)))
    (cond (eqb tag 0x30) (Some (Union (set_name a) (set_name b) (set_name c)))
    (cond (eqb tag 0x31) (Some (Intersection (set_name a) (set_name b) (set_name c)))
    (cond (eqb tag 0x32) (Some (Difference (set_name a) (set_name b) (set_name c)))
    None))))))))))
