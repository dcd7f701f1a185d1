-- `part` shifts the number right and masks its lowest bits.
use Rattle.std.proofs.Common.{◌/◌, ◌^◌, arith}
use Rattle.row.proofs.BitLaws.{lowest_bits}
use Rattle.row.proofs.parts.part.Goals as goal

pub returns : goal.returns
returns c = lowest_bits (c.args.n / 2 ^ c.args.at) c.args.bits (omega arith)
