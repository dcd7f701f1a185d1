-- The smallest mask of a class, for tests of sets.
use Rattle.std.specs.Prelude.{ℕ, Bool, List}
use Rattle.std.proofs.Math.Option.{Option}
use Rattle.theory.specs.Rules.{Row}
use Rattle.theory.specs.Classes as classes
use Rattle.theory.specs.Sets.{Test, fits}

-- does the mask m of the class meet the row
abbrev pub meets_row : ℕ → ℕ → Row Test → Bool
meets_row class m r = classes.meets_row fits class m r

-- the smallest mask below the bound that meets every row
abbrev pub least_mask : ℕ → List (Row Test) → ℕ → Option ℕ
least_mask bound rows class = classes.least_mask fits bound rows class
