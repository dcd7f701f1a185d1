-- Patterns: which of some names are equal.
use Rattle.std.specs.Prelude.{ℕ, ◌<◌, ◌≡◌, Bool, eqb}

-- the pattern that a map of names has: names are equal exactly if they are mapped to one number
abbrev pub pattern_of : (ℕ → ℕ) → ℕ → ℕ → Bool
pattern_of of a b = eqb (of a) (of b)

-- of the names 0, .. , E - 1, the map has this pattern
abbrev pub HasPattern : ℕ → (ℕ → ℕ) → (ℕ → ℕ → Bool) → Type 0
HasPattern E of pattern = (a b : ℕ) → a < E → b < E → pattern_of of a b ≡ pattern a b
