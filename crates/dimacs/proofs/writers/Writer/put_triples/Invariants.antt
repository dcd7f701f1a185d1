use Rattle.clauses.specs.Clauses.{triples_from, triples}
use Rattle.dimacs.specs.Walks.{each}
use Rattle.dimacs.proofs.WroteLaws.{Left}
use Rattle.dimacs.proofs.writers.Writer.put_triples.Given as goal

abbrev pub invariant-loop-b : goal.invariant-loop-b
invariant-loop-b l =
    let T = l.shape.terms in
    let S = l.shape.sets in
    Left l.initial.self (triples T S) l.self (each (triples_from T S) l.b T)
