use Rattle.clauses.specs.Clauses.{triple_clauses, triples_of}
use Rattle.dimacs.specs.Walks.{each}
use Rattle.dimacs.proofs.WroteLaws.{Left}
use Rattle.dimacs.proofs.writers.Writer.put_triples_of.Given as goal

abbrev pub invariant-loop-d : goal.invariant-loop-d
invariant-loop-d l =
    let T = l.shape.terms in
    let S = l.shape.sets in
    Left l.initial.self (triples_of T S l.b l.c) l.self (each (triple_clauses T S l.b l.c) l.d T)
