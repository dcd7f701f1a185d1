-- The bits of a mask that a test asks.
use Rattle.std.specs.Prelude.{ℕ, ◌≤◌, min, ◌≡◌, Bool, List, [], ◌∷◌}
use Rattle.question.specs.Limits.{max_sets}
use Rattle.question.specs.Masks.{bit}
use Rattle.theory.specs.Sets.{Test, fits, places_of, sets_among}

-- the lowest of some numbers, or `max_sets` where there are none
abbrev pub lowest_of : List ℕ → ℕ
lowest_of [] = max_sets
lowest_of (x ∷ []) = x
lowest_of (x ∷ y ∷ ys) = min x (lowest_of (y ∷ ys))

-- the lowest set that a test names, or `max_sets` where it names none
unfoldable pub lowest_set : Test → ℕ
lowest_set t = lowest_of (sets_among (places_of t))

-- two masks have the same bits from q on
abbrev pub SameFrom : ℕ → ℕ → ℕ → Type 0
SameFrom q m w = (x : ℕ) → q ≤ x → bit m x ≡ bit w x

-- the test asks no bit below q: masks that have the same bits from q on both pass it, or both fail it
abbrev pub AsksFrom : ℕ → Test → Type 0
AsksFrom q t = (same : ℕ → Bool) (m w : ℕ) → SameFrom q m w → fits m same t ≡ fits w same t
