-- `two_or_three` picks by its two tests: each return rewrites with those that led there.
use Rattle.mask.proofs.blames.two_or_three.Statement.{statement}
use Rattle.mask.proofs.blames.two_or_three.Tie as tie

pub two_or_three_spec : {M : Type 1} → statement M
two_or_three_spec = tie.close (tie.spec (λ c. rw c.if-all.true) (λ c. rw (c.if-all.false, c.if-second.true)) (λ c. rw (c.if-all.false, c.if-second.false)))
