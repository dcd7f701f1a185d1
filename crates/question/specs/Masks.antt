-- A mask says of one domain element or class which sets it is in: bit x set means that it is in set x.
use Rattle.std.specs.Prelude.{ℕ, ◌/◌, ◌%◌, ◌^◌, Bool, eqb}

-- is bit x of the mask m set
abbrev pub bit : ℕ → ℕ → Bool
bit m x = eqb (m / 2 ^ x % 2) 1
