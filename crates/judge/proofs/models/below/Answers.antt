-- `below` tests the bound by a shift; past the width every mask is below it.
use Rattle.std.proofs.Common.{arith}
use Rattle.std.proofs.lemmas.Grind.{common_steps}
use Rattle.judge.proofs.MaskLaws.{mask_below, below_shifts}
use Rattle.judge.proofs.models.below.Goals as goal

pub returns : goal.returns
returns c = grind (arith, common_steps, mask_below c.args.mask c.args.sets c.ranges.mask.fits, below_shifts c.args.mask c.args.sets)
