-- `is_asked` compares what the entry's terms and the class share with nothing.
use borrow.Author.Rules.{rules}
use Rattle.mask.proofs.meetings.is_asked.Statement.{statement}
use Rattle.mask.proofs.meetings.is_asked.Tie as tie

pub is_asked_spec : {M : Type 1} → statement M
is_asked_spec = tie.close (tie.spec (λ c κs. search rules) (λ c. rw c.terms_in.ensures))
