use Rattle.clauses.specs.Clauses.{pairs_from, pairs}
use Rattle.dimacs.specs.Walks.{each}
use Rattle.dimacs.proofs.WroteLaws.{Left}
use Rattle.dimacs.proofs.writers.Writer.put_pairs.Given as goal

abbrev pub invariant-loop-c : goal.invariant-loop-c
invariant-loop-c l =
    let T = l.shape.terms in
    let S = l.shape.sets in
    Left l.initial.self (pairs T S) l.self (each (pairs_from T S) l.c T)
