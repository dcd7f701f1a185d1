-- `raise` adds one to the digits from q on and shifts them back; nothing is lost, since m lacks bit q.
use Prim.Native.Nat.{◌^◌, ◌<◌}
use native.Mathlib.Omega.{arith}
use native.Mathlib.Nat.{mod-eq_of_lt}
use borrow.Author.Rules.{rules}
use Rattle.mask.specs.Reasons.{raised}
use Rattle.mask.proofs.BitLaws.{raised_larger, quotient_small}
use Rattle.mask.proofs.bits.raise.Statement.{statement}
use Rattle.mask.proofs.bits.raise.Tie as tie

fits : (c : tie.Start) → raised 2 c.args.q c.args.m < 2 ^ 32
fits c = (raised_larger 32 c.args.m c.args.q c.requires.0 (omega arith) c.requires.1).1

pub raise_spec : {M : Type 1} → statement M
raise_spec =
    tie.close
    (tie.spec
    (λ c. search rules)
    (λ c. omega (arith, fits c, quotient_small c.args.m c.args.q))
    (λ c. search rules)
    (λ c. mod-eq_of_lt (fits c)))
