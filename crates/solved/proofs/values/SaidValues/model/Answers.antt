-- Where there are no terms.
use Rattle.solved.proofs.PlacingLaws.{no_terms}
use Rattle.solved.proofs.values.SaidValues.model.Goals as goal

pub loop-d-init : goal.loop-d-init
loop-d-init c = no_terms _ _ _
