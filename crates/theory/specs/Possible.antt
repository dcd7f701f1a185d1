-- The two sides of demand 3: a question is possible with a pattern of equal names, and its row list has a solution with that pattern.
use Rattle.std.specs.Prelude.{ℕ, Bool}
use Rattle.question.specs.declared.questions.Question.{Question}
use Rattle.question.specs.Questions.{statements}
use Rattle.statement.specs.Meaning.{Assignment, IsAssignment, AllHold}
use Rattle.theory.specs.Arrangements.{class_of}
use Rattle.theory.specs.Patterns.{HasPattern}
use Rattle.theory.specs.Solutions.{Solution}
use Rattle.theory.specs.Answers.{Solves}

-- the domain element of the element name number a
abbrev pub element_of : Assignment → ℕ → ℕ
element_of A a = A.element (record { 0 = a })

-- some assignment, over a finite domain of any size, has the pattern and meets every statement
pub record Possible (q : Question) (pattern : ℕ → ℕ → Bool) : Type 0 where
  pub by : Assignment
  pub assignment : IsAssignment q.elements by
  pub patterned : HasPattern q.elements (element_of by) pattern
  pub holding : AllHold by (statements q)

-- the row list has a solution with the pattern
pub record Solvable (q : Question) (pattern : ℕ → ℕ → Bool) : Type 0 where
  pub by : Solution
  pub solution : Solves q by
  pub patterned : HasPattern q.elements (class_of by.arrangement) pattern
