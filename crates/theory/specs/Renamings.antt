-- Rows with other numbers for the sets: what can be met stays, and the order of masks changes.
use Rattle.std.specs.Prelude.{ℕ, ◌<◌, ◌≡◌, map}
use Rattle.theory.specs.Rules.{Row, row}
use Rattle.theory.specs.Sets.{Test, Place, term, set, places_of, kind_of, test_with}

-- the set x is called `to x`
module _ (to : ℕ → ℕ) where
  abbrev pub renamed_place : Place → Place
  renamed_place (term c) = term c
  renamed_place (set x) = set (to x)

  -- the kind stays
  abbrev pub renamed_test : Test → Test
  renamed_test t = test_with (kind_of t) (map renamed_place (places_of t))

  abbrev pub renamed_row : Row Test → Row Test
  renamed_row r = row r.term (renamed_test r.test)

-- so many sets get numbers of so many, and `back` finds each again
abbrev pub IsRenaming : ℕ → (ℕ → ℕ) → (ℕ → ℕ) → Type 0
IsRenaming sets to back = (x : ℕ) → x < sets → (to x < sets) × (back (to x) ≡ x)
