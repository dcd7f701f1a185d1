-- What is found behind a beginning of an arrangement.
use Rattle.std.specs.Prelude.{ℕ, Bool, List, ◌++◌}
use Rattle.std.proofs.Math.Option.{Option}
use Rattle.theory.specs.Arrangements.{classes}
use Rattle.theory.specs.Searches.{first_placing}
use Rattle.theory.specs.Rules.{Row}
use Rattle.theory.specs.Solutions.{Solution}
use Rattle.theory.specs.FirstModels.{model_of}

module _ {Test : Type 0} (fits : ℕ → (ℕ → Bool) → Test → Bool) where
  -- the first model among the arrangements that begin with the class numbers p and have so many terms more
  unfoldable pub found_behind : ℕ → List (Row Test) → List ℕ → ℕ → Option Solution
  found_behind bound rows p left = first_placing left (classes p) (λ l. model_of fits bound rows (p ++ l))
