-- The answer that the search for a mask gives.
use Rattle.std.specs.Prelude.{ℕ, Option, Some, None}
use Rattle.std.proofs.Math.Option as least

-- the mask if there is one
abbrev pub smallest_of : least.Option ℕ → Option ℕ
smallest_of least.none = None
smallest_of (least.some m) = Some m
