use Rattle.clauses.specs.Clauses.{triples_of, triples_from}
use Rattle.dimacs.specs.Walks.{each}
use Rattle.dimacs.proofs.WroteLaws.{Left}
use Rattle.dimacs.proofs.writers.Writer.put_triples_from.Given as goal

abbrev pub invariant-loop-c : goal.invariant-loop-c
invariant-loop-c l =
    let T = l.shape.terms in
    let S = l.shape.sets in
    Left l.initial.self (triples_from T S l.b) l.self (each (triples_of T S l.b) l.c T)
