-- `push` shifts the number left and joins the lowest bits of d, which lie below it.
use Rattle.std.proofs.Common.{◌%◌, ◌^◌, ◌<◌, arith}
use native.Mathlib.Nat.{mod-lt}
use lib.Bits.{or_shifted}
use lib.Pow.{pow_pos, shl_exact}
use Rattle.row.proofs.BitLaws.{lowest_bits}
use Rattle.row.proofs.parts.push.Goals as goal

pub returns : goal.returns
returns c =
    let a = c.args in
    let word : a.bits < 32 = omega (arith, c.requires.1) in
    rw (shl_exact 24 a.bits 32 c.requires.0 (omega arith), lowest_bits a.d a.bits word) (or_shifted a.n a.bits (a.d % 2 ^ a.bits) (mod-lt a.d (pow_pos a.bits)))
