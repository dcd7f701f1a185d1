-- What the walk has is enough for the rows of the entries passed.
use Rattle.search.proofs.AskedLaws.{Enough}
use Rattle.search.proofs.asked.terms_asked.Given as goal

abbrev pub invariant-loop-entry : goal.invariant-loop-entry
invariant-loop-entry l = Enough l.entries l.asked l.entry-index
