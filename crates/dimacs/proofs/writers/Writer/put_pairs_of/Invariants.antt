use Rattle.clauses.specs.Clauses.{pair_clauses, pairs_of}
use Rattle.dimacs.specs.Walks.{each}
use Rattle.dimacs.proofs.WroteLaws.{Left}
use Rattle.dimacs.proofs.writers.Writer.put_pairs_of.Given as goal

abbrev pub invariant-loop-x : goal.invariant-loop-x
invariant-loop-x l =
    let T = l.shape.terms in
    let S = l.shape.sets in
    Left l.initial.self (pairs_of T S l.c l.d) l.self (each (pair_clauses T S l.c l.d) l.x S)
