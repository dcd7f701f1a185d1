-- The arrays go on as they stand.
use Rattle.std.proofs.Common.{refl}
use Rattle.solved.specs.Said.{shown_as}
use Rattle.solved.proofs.models.ModelFromSaidModel.from.Goals as goal

pub returns : goal.returns
unfolding shown_as
returns c = refl
