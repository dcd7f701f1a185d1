-- The smallest mask of a class: it meets all rows, and no smaller one does. Nothing else fits that.
use Prim.Native.Nat.{ℕ}
use mathlib.Core.Path.{◌≡◌}
use mathlib.Core.Bool.{Bool}
use mathlib.Core.List.{List}
use mathlib.Core.Option.{Option}
use Rattle.theory.specs.Rules.{Row}
use Rattle.theory.specs.Classes.{meets_all, least_mask}
use Rattle.theory.proofs.SearchLaws.{SmallestIs, first_passing_is, first_passing_one}

module _ {Test : Type 0} (fits : ℕ → (ℕ → Bool) → Test → Bool) (bound : ℕ) (rows : List (Row Test)) (class : ℕ) where
  -- the smallest mask below the bound that meets every row, or none does
  abbrev pub LeastIs : Option ℕ → Type 0
  LeastIs o = SmallestIs bound (meets_all fits rows class) o

  pub least_mask_is : LeastIs (least_mask fits bound rows class)
  unfolding least_mask
  least_mask_is = first_passing_is bound (meets_all fits rows class)

  pub least_mask_one : (o : Option ℕ) → LeastIs o → least_mask fits bound rows class ≡ o
  unfolding least_mask
  least_mask_one = first_passing_one bound (meets_all fits rows class)
