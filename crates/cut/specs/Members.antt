-- A class as the set of its terms.
use Rattle.std.specs.Prelude.{ℕ, ◌+◌, ◌*◌, cond, List, [], ◌∷◌, eqb}

-- the terms of the class k, where p has the class numbers of the terms placed: a number whose bit c says that the term c is in the class
abbrev pub members : List ℕ → ℕ → ℕ
members [] k = 0
members (c ∷ p) k = members p k * 2 + cond (eqb k c) 1 0
