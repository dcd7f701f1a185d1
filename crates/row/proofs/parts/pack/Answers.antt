-- `pack` puts one part behind the other, the kind first.
use Rattle.std.proofs.Common.{arith}
use Rattle.row.specs.Parts.{packed}
use Rattle.row.proofs.parts.pack.Goals as goal

pub returns : goal.returns
unfolding packed
returns c = omega arith
