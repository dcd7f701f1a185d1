-- Lists of anything: a test of each entry, and what holds of each.
use Rattle.std.specs.Prelude.{Bool, true, ◌&&◌, List, [], ◌∷◌}

module _ {A : Type 0} where
  -- does every entry pass
  abbrev pub all_of : (A → Bool) → List A → Bool
  all_of f [] = true
  all_of f (x ∷ xs) = f x && all_of f xs

  -- P holds of every entry
  abbrev pub Every : (A → Type 0) → List A → Type 0
  Every P [] = Unit {0}
  Every P (x ∷ xs) = P x × Every P xs
