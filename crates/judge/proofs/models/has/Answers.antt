-- `has` reads a bit by a shift; past the width no bit is set.
use Rattle.std.proofs.Common.{arith}
use Rattle.std.proofs.lemmas.Grind.{common_steps}
use Rattle.question.proofs.BitLaws.{bit_past}
use Rattle.judge.proofs.models.has.Goals as goal

pub returns : goal.returns
returns c = grind (arith, common_steps, bit_past c.args.mask 32 c.args.x.0 c.ranges.mask.fits)
