-- What the search remembers of the groups of terms that it has tried: a byte for each question "has this group a mask".
use Rattle.std.specs.Prelude.{ℕ, ◌^◌, ◌≡◌, Bool, true, false, List, ◌≢◌, length, get_or}
use Rattle.std.proofs.Math.Option.{Option, none, some}
use Rattle.mask.specs.Entries.{rows_of_entries}
use Rattle.mask.specs.Least.{least_mask}
use Rattle.search.specs.Groups.{group_count}

-- the smallest mask of a group of terms, as a class
abbrev pub mask_of_group : List ℕ → ℕ → ℕ → Option ℕ
mask_of_group entries sets group = least_mask (2 ^ sets) (rows_of_entries entries) group

-- has it one
abbrev pub is_there : Option ℕ → Bool
is_there none = false
is_there (some m) = true

-- the byte that says so: 0 would mean that nothing is known yet
abbrev pub noted : Option ℕ → ℕ
noted none = 1
noted (some m) = 2

-- what is noted, at the number of a group, is right
pub record Memo (entries : List ℕ) (sets : ℕ) (memo : List ℕ) : Type 0 where
  pub long : length memo ≡ group_count
  pub right : (group : ℕ) → get_or memo group 0 ≢ 0 → get_or memo group 0 ≡ noted (mask_of_group entries sets group)
