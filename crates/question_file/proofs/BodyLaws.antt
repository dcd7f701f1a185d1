-- The table of tags beside the table of statements, by the table's rule: a statement's field is listed with as many bytes as it has names, and each tag that a question file knows is 01, 7F or a statement's.
use Prim.Native.Nat.{ℕ, ◌≤◌}
use mathlib.Core.Path.{◌≡◌, refl}
use mathlib.Core.Bool.{true, false}
use mathlib.Core.List.{List, [], ◌∷◌, ◌++◌}
use native.Mathlib.Omega.{arith}
use lib.Dec.{eqb}
use lib.ListN.{length, get_or, take}
use Rattle.statement.specs.declared.statements.Statement.{Statement}
use Rattle.statement.specs.declared.statements.Statement.TheVariants.{ElementsEqual, ElementsDiffer, In, NotIn, SetsEqual, SetsDiffer, Empty, Single, Union, Intersection, Difference}
use Rattle.statement.specs.Statements.{tag_of}
use Rattle.field.specs.declared.tags.File.TheVariants.{Question as QuestionFile}
use Rattle.std.proofs.Common.{Option, Some}
use Rattle.field.specs.declared.tags.BodyLength.{BodyLength}
use Rattle.field.specs.declared.tags.BodyLength.TheVariants.{Fixed}
use Rattle.field.specs.Tags.{field_table, length_of, is_known}
use Rattle.field.proofs.TagLaws.{rule, AllKnown, by_table, ◌&◌}
use Rattle.std.specs.Prelude.{Some}
use Rattle.question_file.specs.Bodies.{element_name, set_name, body_of, statement_of}

-- what the tables say of a statement's field
pub record Field (s : Statement) : Type 0 where
  pub listed : length_of QuestionFile (tag_of s) ≡ Some (Fixed (length (body_of s)))
  pub not_names : eqb (tag_of s) 0x01 ≡ false
  pub not_end : eqb (tag_of s) 0x7f ≡ false
  pub few : length (body_of s) ≤ 3
  pub made : (rest : List ℕ) → statement_of (tag_of s) (get_or (body_of s ++ rest) 0 0) (get_or (body_of s ++ rest) 1 0) (get_or (body_of s ++ rest) 2 0) ≡ Some s

pub field : (s : Statement) → Field s
unfolding statement_of
field (ElementsEqual a b) = record { listed = rule QuestionFile _; not_names = refl; not_end = refl; few = omega arith; made = λ rest. refl }
field (ElementsDiffer a b) = record { listed = rule QuestionFile _; not_names = refl; not_end = refl; few = omega arith; made = λ rest. refl }
field (In a x) = record { listed = rule QuestionFile _; not_names = refl; not_end = refl; few = omega arith; made = λ rest. refl }
field (NotIn a x) = record { listed = rule QuestionFile _; not_names = refl; not_end = refl; few = omega arith; made = λ rest. refl }
field (SetsEqual x y) = record { listed = rule QuestionFile _; not_names = refl; not_end = refl; few = omega arith; made = λ rest. refl }
field (SetsDiffer x y) = record { listed = rule QuestionFile _; not_names = refl; not_end = refl; few = omega arith; made = λ rest. refl }
field (Empty x) = record { listed = rule QuestionFile _; not_names = refl; not_end = refl; few = omega arith; made = λ rest. refl }
field (Single x a) = record { listed = rule QuestionFile _; not_names = refl; not_end = refl; few = omega arith; made = λ rest. refl }
field (Union x y z) = record { listed = rule QuestionFile _; not_names = refl; not_end = refl; few = omega arith; made = λ rest. refl }
field (Intersection x y z) = record { listed = rule QuestionFile _; not_names = refl; not_end = refl; few = omega arith; made = λ rest. refl }
field (Difference x y z) = record { listed = rule QuestionFile _; not_names = refl; not_end = refl; few = omega arith; made = λ rest. refl }

-- a tag with a body of n bytes, of which the first are a, b, c, makes a statement with that tag and body
pub record Makes (tag n a b c : ℕ) : Type 0 where
  pub statement : Statement
  pub made : statement_of tag a b c ≡ Some statement
  pub tagged : tag_of statement ≡ tag
  pub body : body_of statement ≡ take n (a ∷ b ∷ c ∷ [])

-- an entry that a question file knows
pub data Known (tag : ℕ) (length : Option BodyLength) : Type 0 where
  names : tag ≡ 0x01 → length ≡ Some (Fixed 2) → Known tag length
  end : tag ≡ 0x7f → length ≡ Some (Fixed 0) → Known tag length
  stated : (n : ℕ) → length ≡ Some (Fixed n) → n ≤ 3 → eqb tag 0x01 ≡ false → eqb tag 0x7f ≡ false → ((a b c : ℕ) → Makes tag n a b c) → Known tag length

all_known : AllKnown QuestionFile Known field_table
unfolding statement_of
all_known =
    names refl refl
    & stated 2 refl (omega arith) refl refl (λ a b c. record { statement = ElementsEqual (element_name a) (element_name b); made = refl; tagged = refl; body = refl })
    & stated 2 refl (omega arith) refl refl (λ a b c. record { statement = ElementsDiffer (element_name a) (element_name b); made = refl; tagged = refl; body = refl })
    & stated 2 refl (omega arith) refl refl (λ a b c. record { statement = In (element_name a) (set_name b); made = refl; tagged = refl; body = refl })
    & stated 2 refl (omega arith) refl refl (λ a b c. record { statement = NotIn (element_name a) (set_name b); made = refl; tagged = refl; body = refl })
    & stated 2 refl (omega arith) refl refl (λ a b c. record { statement = SetsEqual (set_name a) (set_name b); made = refl; tagged = refl; body = refl })
    & stated 2 refl (omega arith) refl refl (λ a b c. record { statement = SetsDiffer (set_name a) (set_name b); made = refl; tagged = refl; body = refl })
    & stated 1 refl (omega arith) refl refl (λ a b c. record { statement = Empty (set_name a); made = refl; tagged = refl; body = refl })
    & stated 2 refl (omega arith) refl refl (λ a b c. record { statement = Single (set_name a) (element_name b); made = refl; tagged = refl; body = refl })
    & stated 3 refl (omega arith) refl refl (λ a b c. record { statement = Union (set_name a) (set_name b) (set_name c); made = refl; tagged = refl; body = refl })
    & stated 3 refl (omega arith) refl refl (λ a b c. record { statement = Intersection (set_name a) (set_name b) (set_name c); made = refl; tagged = refl; body = refl })
    & stated 3 refl (omega arith) refl refl (λ a b c. record { statement = Difference (set_name a) (set_name b) (set_name c); made = refl; tagged = refl; body = refl })
    & end refl refl
    & tt

pub known : (tag : ℕ) → is_known (length_of QuestionFile tag) ≡ true → Known tag (length_of QuestionFile tag)
known tag k = by_table QuestionFile Known field_table all_known tag k
