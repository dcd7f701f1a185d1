use Rattle.clauses.specs.Clauses.{pairs_of, pairs_from}
use Rattle.dimacs.specs.Walks.{each}
use Rattle.dimacs.proofs.WroteLaws.{Left}
use Rattle.dimacs.proofs.writers.Writer.put_pairs_from.Given as goal

abbrev pub invariant-loop-d : goal.invariant-loop-d
invariant-loop-d l =
    let T = l.shape.terms in
    let S = l.shape.sets in
    Left l.initial.self (pairs_from T S l.c) l.self (each (pairs_of T S l.c) l.d T)
