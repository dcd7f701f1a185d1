-- A test asks no bit of a mask below the lowest set that it names: it looks at its places alone, and each of its sets is at least the lowest.
use Prim.Native.Nat.{ℕ, ◌≤◌}
use mathlib.Core.Path.{refl}
use mathlib.Core.Bool.{Bool}
use mathlib.Core.List.{List, [], ◌∷◌}
use native.Mathlib.Omega.{arith}
use Rattle.question.specs.Masks.{bit}
use Rattle.theory.specs.Lists.{Every}
use Rattle.theory.specs.Sets.{Test, Place, term, set, places_of, sets_among}
use Rattle.theory.proofs.PlaceLaws.{Agree, passes_places}
use Rattle.mask.specs.Lowest.{lowest_of, lowest_set, SameFrom, AsksFrom}

lowest_least : (xs : List ℕ) (q : ℕ) → q ≤ lowest_of xs → Every (λ x. q ≤ x) xs
lowest_least [] q h = tt
lowest_least (x ∷ []) q h = (h, tt)
lowest_least (x ∷ y ∷ ys) q h = (omega arith, lowest_least (y ∷ ys) q (omega arith))

-- masks that have the same bits from q on agree on places whose sets are not below q
module _ (same : ℕ → Bool) (q m w : ℕ) (from : SameFrom q m w) where
  places_agree : (ps : List Place) → Every (λ x. q ≤ x) (sets_among ps) → Every (Agree (bit m) (bit w) same same) ps
  places_agree [] h = tt
  places_agree (term c ∷ ps) h = (refl, places_agree ps h)
  places_agree (set x ∷ ps) h = (from x h.0, places_agree ps h.1)

pub asks_from : (t : Test) → AsksFrom (lowest_set t) t
unfolding lowest_set
asks_from t same m w from = passes_places (bit m) (bit w) same same t (places_agree same (lowest_set t) m w from (places_of t) (lowest_least (sets_among (places_of t)) (lowest_set t) (omega arith)))
