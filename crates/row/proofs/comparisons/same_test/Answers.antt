-- `same_test` compares the bits from the kind on and those of the places.
use Rattle.std.proofs.Common.{refl}
use Rattle.row.specs.Comparisons.{same_test}
use Rattle.row.proofs.comparisons.same_test.Goals as goal

pub returns : goal.returns
unfolding same_test
returns c = refl
