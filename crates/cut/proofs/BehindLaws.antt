-- What is found behind a beginning of an arrangement, as a recursion over the terms still to be placed.
use Prim.Native.Nat.{ℕ, suc}
use mathlib.Core.Path.{◌≡◌, refl, sym, ap, ◌∙◌, fun_ext}
use mathlib.Core.Bool.{Bool}
use mathlib.Core.List.{List, [], ◌∷◌, ◌++◌, append-nil}
use Rattle.theory.specs.Arrangements.{classes}
use Rattle.theory.specs.Searches.{first_from, first_placing}
use Rattle.theory.specs.Rules.{Row}
use Rattle.theory.specs.FirstModels.{model_of, first_model}
use Rattle.theory.proofs.ArrangementLaws.{classes_append}
use Rattle.theory.proofs.LoopLaws.{placing_end, placing_step}
use Rattle.cut.specs.Behind.{found_behind}

module _ {Test : Type 0} (fits : ℕ → (ℕ → Bool) → Test → Bool) (bound : ℕ) (rows : List (Row Test)) where
  -- nothing placed: the first model
  pub behind_nothing : (terms : ℕ) → found_behind fits bound rows [] terms ≡ first_model fits terms bound rows
  unfolding found_behind first_model
  behind_nothing terms = refl

  -- all placed: the model of the arrangement
  pub behind_all : (p : List ℕ) → found_behind fits bound rows p 0 ≡ model_of fits bound rows p
  unfolding found_behind
  behind_all p = placing_end (classes p) (λ l. model_of fits bound rows (p ++ l)) ∙ ap (model_of fits bound rows) (append-nil p)

  -- the next term takes each class number allowed
  pub behind_step : (p : List ℕ) (left : ℕ) → found_behind fits bound rows p (suc left) ≡ first_from (suc (classes p)) 0 (λ c. found_behind fits bound rows (p ++ (c ∷ [])) left)
  unfolding found_behind
  behind_step p left = placing_step left (classes p) p (model_of fits bound rows)
      ∙ ap (first_from (suc (classes p)) 0) (fun_ext (λ c. ap (λ used. first_placing left used (λ l. model_of fits bound rows (p ++ (c ∷ []) ++ l))) (sym (classes_append 0 p (c ∷ [])))))
