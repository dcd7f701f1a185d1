-- The first model of some rows: the first arrangement that has any solution, and for each class the smallest mask that meets all rows of its terms.
use Rattle.std.specs.Prelude.{ℕ, ◌≤◌, ◌<◌, Bool, not, ◌||◌, List, T}
use Rattle.std.proofs.Math.Option.{Option, map}
use Rattle.theory.specs.Arrangements.{classes, in_class, Before}
use Rattle.theory.specs.Searches.{first_arrangement, each_from, first_passing}
use Rattle.theory.specs.Rules.{Row}
use Rattle.theory.specs.Solutions.{Solution, with_masks, mask_of, all_rows, met_by, IsSolution}

module _ {Test : Type 0} (fits : ℕ → (ℕ → Bool) → Test → Bool) where
  -- does the mask m of the class k meet the row, if it is a row of one of the class's terms
  abbrev pub serves : List ℕ → ℕ → ℕ → Row Test → Bool
  serves l k m r = not (in_class l k r.term) || met_by fits l k m r

  -- does the mask m meet all rows of the terms of the class k
  abbrev pub serves_all : List (Row Test) → List ℕ → ℕ → ℕ → Bool
  serves_all rows l k m = all_rows (serves l k m) rows

  -- the smallest mask below the bound that does
  unfoldable pub smallest_mask : ℕ → List (Row Test) → List ℕ → ℕ → Option ℕ
  smallest_mask bound rows l k = first_passing bound (serves_all rows l k)

  -- the arrangement with the smallest mask of each class, where each has one
  unfoldable pub model_of : ℕ → List (Row Test) → List ℕ → Option Solution
  model_of bound rows l = map (with_masks l) (each_from (classes l) 0 (smallest_mask bound rows l))

  -- the first model of rows over so many terms, with masks below the bound
  unfoldable pub first_model : ℕ → ℕ → List (Row Test) → Option Solution
  first_model terms bound rows = first_arrangement terms (model_of bound rows)

  -- no class has a smaller mask that meets all rows of its terms
  abbrev pub HasSmallest : ℕ → List (Row Test) → Solution → Type 0
  HasSmallest bound rows sol = (k m : ℕ) → k < classes sol.arrangement → m < bound → T (serves_all rows sol.arrangement k m) → mask_of sol.masks k ≤ m

  -- what a first model is: a solution, where no arrangement before has one, with the smallest masks
  pub record IsFirstModel (terms bound : ℕ) (rows : List (Row Test)) (sol : Solution) : Type 0 where
    pub solution : IsSolution fits terms bound rows sol
    pub no_earlier : (other : Solution) → IsSolution fits terms bound rows other → Before other.arrangement sol.arrangement → ⊥
    pub smallest : HasSmallest bound rows sol
