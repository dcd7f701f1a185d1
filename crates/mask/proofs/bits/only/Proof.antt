-- `only` shifts 1 to the place of the bit.
use borrow.Author.Rules.{rules}
use Rattle.row.proofs.BitLaws.{shifted_one}
use Rattle.mask.proofs.bits.only.Statement.{statement}
use Rattle.mask.proofs.bits.only.Tie as tie

pub only_spec : {M : Type 1} → statement M
only_spec = tie.close (tie.spec (λ c. search rules) (λ c. shifted_one c.args.x c.requires))
