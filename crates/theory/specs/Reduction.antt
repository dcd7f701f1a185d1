-- The reduction: the rule of each statement, and the row list of a question.
use Rattle.std.specs.Prelude.{List, map}
use Rattle.statement.specs.declared.statements.Statement.{Statement}
use Rattle.statement.specs.declared.statements.Statement.TheVariants.{ElementsEqual, ElementsDiffer, In, NotIn, SetsEqual, SetsDiffer, Empty, Single, Union, Intersection, Difference}
use Rattle.question.specs.declared.questions.Question.{Question}
use Rattle.question.specs.Questions.{statements, terms_of}
use Rattle.theory.specs.Rules.{Row, Rule, OneTerm, EachTerm, OwnWitness, rows_of_rules}
use Rattle.theory.specs.Sets.{Test, IsSame, IsNotSame, IsIn, IsNotIn, ExactlyIfIn, ExactlyIfNotIn, ExactlyIfSame, ExactlyIfOr, ExactlyIfAnd, ExactlyIfAndNot}

-- the column "comes from"
abbrev pub rule : Statement → Rule Test
rule (ElementsEqual a b) = OneTerm a.0 (IsSame b.0)
rule (ElementsDiffer a b) = OneTerm a.0 (IsNotSame b.0)
rule (In a x) = OneTerm a.0 (IsIn x.0)
rule (NotIn a x) = OneTerm a.0 (IsNotIn x.0)
rule (SetsEqual x y) = EachTerm (ExactlyIfIn x.0 y.0)
rule (SetsDiffer x y) = OwnWitness (ExactlyIfNotIn x.0 y.0)
rule (Empty x) = EachTerm (IsNotIn x.0)
rule (Single x a) = EachTerm (ExactlyIfSame x.0 a.0)
rule (Union x y z) = EachTerm (ExactlyIfOr x.0 y.0 z.0)
rule (Intersection x y z) = EachTerm (ExactlyIfAnd x.0 y.0 z.0)
rule (Difference x y z) = EachTerm (ExactlyIfAndNot x.0 y.0 z.0)

-- the row list: statements in order; the terms are the element names, then the witnesses, so the first witness is term E
unfoldable pub row_list : Question → List (Row Test)
row_list q = rows_of_rules (terms_of q) q.elements (map rule (statements q))
