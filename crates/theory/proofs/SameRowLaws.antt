-- Rows that say the same, in any order and number, have the same first model.
use Prim.Native.Nat.{ℕ}
use mathlib.Core.Path.{◌≡◌, ap, fun_ext}
use mathlib.Core.Bool.{Bool}
use mathlib.Core.List.{List}
use mathlib.Core.Option.{map}
use Rattle.theory.specs.Arrangements.{classes}
use Rattle.theory.specs.Searches.{first_arrangement, each_from, first_passing}
use Rattle.theory.specs.Rules.{Row}
use Rattle.theory.specs.Solutions.{with_masks, SameRows}
use Rattle.theory.specs.FirstModels.{serves, smallest_mask, model_of, first_model}

module _ {Test : Type 0} (fits : ℕ → (ℕ → Bool) → Test → Bool) (bound : ℕ) (rows others : List (Row Test)) (same : SameRows rows others) where
  pub mask_same : (l : List ℕ) (k : ℕ) → smallest_mask fits bound rows l k ≡ smallest_mask fits bound others l k
  unfolding smallest_mask
  mask_same l k = ap (first_passing bound) (fun_ext (λ m. same (serves fits l k m)))

  pub model_same : (l : List ℕ) → model_of fits bound rows l ≡ model_of fits bound others l
  unfolding model_of
  model_same l = ap (λ each. map (with_masks l) (each_from (classes l) 0 each)) (fun_ext (mask_same l))

  pub first_model_same : (terms : ℕ) → first_model fits terms bound rows ≡ first_model fits terms bound others
  unfolding first_model
  first_model_same terms = ap (first_arrangement terms) (fun_ext model_same)
