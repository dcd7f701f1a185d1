-- The clashing parts of the cases A to N of document 01, worked out by hand and computed by the definition.
use mathlib.Core.Path.{◌≡◌, refl}
use mathlib.Core.List.{List, [], ◌∷◌, map}
use Prim.Native.Nat.{ℕ}
use Rattle.statement.specs.Statements.{witness, witnesses}
use Rattle.question.specs.Questions.{statements, terms_of}
use Rattle.theory.specs.Searches.{first_from, first_placing, each_from, first_passing}
use Rattle.theory.specs.FirstModels.{smallest_mask, model_of, first_model}
use Rattle.theory.specs.Reduction.{row_list}
use Rattle.theory.specs.Answers.{answer}
use Rattle.theory.specs.Cases.{cases}
use Rattle.clash.specs.Clashes.{kept_from, clashing}

-- the indexes of each, A first: in C, D, J and M every statement is needed, and K has only one; the others are possible
abbrev pub clashes : List (List ℕ)
clashes = [] ∷ [] ∷ (0 ∷ 1 ∷ []) ∷ (0 ∷ 1 ∷ 2 ∷ 3 ∷ []) ∷ [] ∷ [] ∷ [] ∷ [] ∷ [] ∷ (0 ∷ 1 ∷ []) ∷ (0 ∷ []) ∷ [] ∷ (0 ∷ 1 ∷ 2 ∷ 3 ∷ 4 ∷ 5 ∷ []) ∷ [] ∷ []

pub cases_clash : map (λ c. clashing c.asks) cases ≡ clashes
unfolding clashing kept_from statements witness witnesses terms_of answer row_list first_model model_of smallest_mask first_placing first_from each_from first_passing
cases_clash = refl
