-- `terms_asked` walks the entries.
use Rattle.std.proofs.Common.{arith}
use Rattle.search.proofs.AskedLaws.{enough_turn}
use Rattle.search.proofs.asked.terms_asked.Goals as goal

pub loop-entry-preserved : goal.loop-entry-preserved
loop-entry-preserved c =
    enough_turn c.args.entries.now c.loop-entry.asked c.loop-entry.entry-index _ (omega arith) c.term_asked-asked.ensures c.loop-entry.invariant
