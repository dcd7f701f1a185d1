-- Classes as sets of terms, and the smallest mask of one. A set of terms is a number whose bit c says that the term c is in it.
use Rattle.std.specs.Prelude.{ℕ, Bool, not, ◌||◌, List}
use Rattle.std.proofs.Math.Option.{Option}
use Rattle.question.specs.Masks.{bit}
use Rattle.theory.specs.Searches.{first_passing}
use Rattle.theory.specs.Rules.{Row}
use Rattle.theory.specs.Solutions.{all_rows}

module _ {Test : Type 0} (fits : ℕ → (ℕ → Bool) → Test → Bool) where
  -- does the mask m of the class meet the row: its term is not in the class, or passes the test
  abbrev pub meets_row : ℕ → ℕ → Row Test → Bool
  meets_row class m r = not (bit class r.term) || fits m (bit class) r.test

  -- does it meet every row
  abbrev pub meets_all : List (Row Test) → ℕ → ℕ → Bool
  meets_all rows class m = all_rows (meets_row class m) rows

  -- the smallest mask below the bound that does
  unfoldable pub least_mask : ℕ → List (Row Test) → ℕ → Option ℕ
  least_mask bound rows class = first_passing bound (meets_all rows class)
