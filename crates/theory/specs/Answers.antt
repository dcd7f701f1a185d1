-- The answer to a question: its first model, and what that is as a model.
use Rattle.std.specs.Prelude.{ℕ, ◌^◌}
use Rattle.std.proofs.Math.Option.{Option}
use Rattle.question.specs.declared.questions.Question.{Question}
use Rattle.question.specs.Masks.{bit}
use Rattle.question.specs.Questions.{terms_of}
use Rattle.statement.specs.Meaning.{Assignment}
use Rattle.theory.specs.Arrangements.{classes, class_of}
use Rattle.theory.specs.Solutions.{Solution, mask_of, IsSolution}
use Rattle.theory.specs.FirstModels.{first_model, IsFirstModel}
use Rattle.theory.specs.Sets.{fits}
use Rattle.theory.specs.Reduction.{row_list}

-- each class has a mask below 2 to the S
abbrev pub mask_bound : Question → ℕ
mask_bound q = 2 ^ q.sets

-- a solution of the question's row list
abbrev pub Solves : Question → Solution → Type 0
Solves q sol = IsSolution fits (terms_of q) (mask_bound q) (row_list q) sol

-- the first of them
abbrev pub IsFirstModelOf : Question → Solution → Type 0
IsFirstModelOf q sol = IsFirstModel fits (terms_of q) (mask_bound q) (row_list q) sol

-- the answer: the first model, or none, which means impossible
unfoldable pub answer : Question → Option Solution
answer q = first_model fits (terms_of q) (mask_bound q) (row_list q)

-- as a model: n is the number of classes, a name's element is its class, and x holds the classes whose mask has bit x
abbrev pub as_model : Solution → Assignment
as_model sol = record {
  size = classes sol.arrangement;
  element = λ a. class_of sol.arrangement a.0;
  part = λ x k. bit (mask_of sol.masks k) x.0;
}
