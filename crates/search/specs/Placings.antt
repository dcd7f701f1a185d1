-- Where the search stands: the first terms have their class numbers, those behind them are still to be placed.
use Rattle.std.specs.Prelude.{ℕ, ◌-◌, ◌^◌, ◌≤◌, ◌≡◌, List, length, take, drop, replicate}
use Rattle.std.proofs.Math.Option.{Option}
use Rattle.question.specs.Limits.{max_terms}
use Rattle.theory.specs.Arrangements.{classes}
use Rattle.theory.specs.Solutions.{Solution}
use Rattle.theory.specs.Sets.{fits}
use Rattle.mask.specs.Entries.{rows_of_entries}
use Rattle.cut.specs.Behind.{found_behind}
use Rattle.search.specs.Tasks.{Task}

-- the array has the class numbers of the terms placed, in `used` classes, and 0 past them
pub record Placing (arrangement : List ℕ) (placed used : ℕ) : Type 0 where
  pub long : length arrangement ≡ max_terms
  pub few_terms : placed ≤ max_terms
  pub few_classes : used ≤ placed
  pub counted : used ≡ classes (take placed arrangement)
  pub rest_zero : drop placed arrangement ≡ replicate (max_terms - placed) 0

-- what is found there, with the other terms of the task still to be placed: the first model among the arrangements that begin so
abbrev pub found : Task → List ℕ → ℕ → Option Solution
found task arrangement placed = found_behind fits (2 ^ task.sets) (rows_of_entries task.entries) (take placed arrangement) (task.terms - placed)
