-- The smallest mask of a class, for tests of sets: what is the smallest is found.
use Prim.Native.Nat.{ℕ}
use mathlib.Core.Path.{◌≡◌}
use mathlib.Core.Bool.{Bool}
use mathlib.Core.List.{List}
use mathlib.Core.Option.{Option}
use Rattle.theory.specs.Rules.{Row}
use Rattle.theory.specs.Classes as classes
use Rattle.theory.specs.Sets.{Test, fits}
use Rattle.theory.proofs.ClassLaws as any
use Rattle.mask.specs.Least.{least_mask}

-- does the mask m meet every row
abbrev pub meets_all : List (Row Test) → ℕ → ℕ → Bool
meets_all rows class m = classes.meets_all fits rows class m

pub least_mask_one : (bound : ℕ) (rows : List (Row Test)) (class : ℕ) (o : Option ℕ) → any.LeastIs fits bound rows class o → least_mask bound rows class ≡ o
least_mask_one = any.least_mask_one fits
