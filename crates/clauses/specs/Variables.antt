-- The variables of a table, numbered from 1: one for each pair of terms, then one for each term and set, then the spare.
use Rattle.std.specs.Prelude.{ℕ, zero, suc, ◌+◌, ◌-◌, ◌*◌, cond, ltb}

-- how many pairs so many terms have
unfoldable pub pair_count : ℕ → ℕ
pair_count zero = 0
pair_count (suc n) = n + pair_count n

-- how many pairs stand before c, d, where c is below d: those of term 0 come first, d upward, then those of the other terms, each of which is one place on
unfoldable pub pair_index : ℕ → ℕ → ℕ → ℕ
pair_index terms zero d = d - 1
pair_index terms (suc c) d = (terms - 1) + pair_index (terms - 1) c (d - 1)

module _ (terms sets : ℕ) where
  -- c and d are the same, where c is below d
  abbrev pub pair_variable : ℕ → ℕ → ℕ
  pair_variable c d = suc (pair_index terms c d)

  -- c and d are the same: the one variable of a pair serves in both orders
  abbrev pub same_variable : ℕ → ℕ → ℕ
  same_variable c d = cond (ltb c d) (pair_variable c d) (pair_variable d c)

  -- c is in x
  abbrev pub in_variable : ℕ → ℕ → ℕ
  in_variable c x = suc (pair_count terms + (c * sets + x))

  -- the spare is the last variable, so its number is how many there are
  abbrev pub spare_variable : ℕ
  spare_variable = suc (pair_count terms + terms * sets)
