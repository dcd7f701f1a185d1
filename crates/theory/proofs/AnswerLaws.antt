-- What the answer to an accepted question means: it is the one first model, which as a model meets every statement, and it is none exactly if no assignment does.
use mathlib.Core.Path.{◌≡◌}
use mathlib.Core.Logic.{◌↔◌}
use mathlib.Core.Option.{none, some}
use Rattle.question.specs.declared.questions.Question.{Question}
use Rattle.question.specs.Questions.{statements, terms_of}
use Rattle.question.specs.Checks.{IsAccepted}
use Rattle.statement.specs.Meaning.{Assignment, IsAssignment, AllHold}
use Rattle.theory.specs.Arrangements.{Before}
use Rattle.theory.specs.Solutions.{Solution}
use Rattle.theory.specs.FirstModels.{HasSmallest}
use Rattle.theory.specs.Sets.{fits}
use Rattle.theory.specs.Reduction.{row_list}
use Rattle.theory.specs.Answers.{mask_bound, Solves, IsFirstModelOf, answer, as_model}
use Rattle.theory.proofs.FirstModelLaws.{first_model_first, first_model_none, first_models_equal}
use Rattle.theory.proofs.DemandThree.{few_classes, model_assignment, model_holds}
use Rattle.theory.proofs.RowListLaws.{rows_below}

-- two first models of a question are equal
pub first_model_one : (q : Question) (one other : Solution) → IsFirstModelOf q one → IsFirstModelOf q other → one ≡ other
first_model_one q = first_models_equal fits (terms_of q) (mask_bound q) (row_list q)

module _ (q : Question) (accepted : IsAccepted q) where
  -- the answer is a first model, and any first model is the answer
  pub answer_first : (sol : Solution) → (answer q ≡ some sol) ↔ IsFirstModelOf q sol
  unfolding answer
  answer_first = first_model_first fits (terms_of q) (mask_bound q) (row_list q) (rows_below q accepted)

  -- impossible: the answer is none exactly if no assignment meets the statements
  pub answer_impossible : (answer q ≡ none) ↔ ((A : Assignment) → IsAssignment q.elements A → AllHold A (statements q) → ⊥)
  unfolding answer
  answer_impossible = (
    λ e A is h. let s = (few_classes q accepted A is h).0 in nothing.0 e s.by s.solution,
    λ h. nothing.1 (λ sol s. h (as_model sol) (model_assignment q accepted sol s) (model_holds q accepted sol s)),
  )
    where
      nothing : (answer q ≡ none) ↔ ((sol : Solution) → Solves q sol → ⊥)
      nothing = first_model_none fits (terms_of q) (mask_bound q) (row_list q) (rows_below q accepted)

  module _ (sol : Solution) (found : answer q ≡ some sol) where
    -- the answer is a solution
    pub answer_solution : Solves q sol
    answer_solution = ((answer_first sol).0 found).solution

    -- no earlier arrangement has one
    pub answer_no_earlier : (other : Solution) → Solves q other → Before other.arrangement sol.arrangement → ⊥
    answer_no_earlier = ((answer_first sol).0 found).no_earlier

    -- the mask of each class is the smallest that meets all rows of its terms
    pub answer_smallest : HasSmallest fits (mask_bound q) (row_list q) sol
    answer_smallest = ((answer_first sol).0 found).smallest

    -- as a model it is an assignment
    pub answer_assignment : IsAssignment q.elements (as_model sol)
    answer_assignment = model_assignment q accepted sol answer_solution

    -- in which every statement holds
    pub answer_holds : AllHold (as_model sol) (statements q)
    answer_holds = model_holds q accepted sol answer_solution

-- the answer looks only at the names declared and at the statements, not at the rest of the table
pub answer_same : (q r : Question) → q.elements ≡ r.elements → q.sets ≡ r.sets → statements q ≡ statements r → answer q ≡ answer r
unfolding answer terms_of row_list
answer_same q r e s ss = cc
