-- `put_triples_of` goes upward, with the clauses of the numbers that are left behind it.
use Rattle.std.proofs.Common.{arith}
use Rattle.clauses.specs.Clauses.{triple_clauses}
use Rattle.dimacs.proofs.WroteLaws.{each_room, each_turn, each_end}
use Rattle.dimacs.proofs.writers.Writer.put_triples_of.Goals as goal

pub put_triple-requires : goal.put_triple-requires
put_triple-requires c =
    let a = c.args in
    let l = c.loop-d in
    each_room (triple_clauses a.shape.terms a.shape.sets a.b a.c) l.d a.shape.terms l.invariant (omega arith)

pub loop-d-preserved : goal.loop-d-preserved
loop-d-preserved c =
    let a = c.args in
    let l = c.loop-d in
    each_turn (triple_clauses a.shape.terms a.shape.sets a.b a.c) l.d a.shape.terms l.invariant (omega arith) c.put_triple.ensures

pub returns : goal.returns
returns c =
    let a = c.args in
    let l = c.loop-d in
    each_end (triple_clauses a.shape.terms a.shape.sets a.b a.c) l.d a.shape.terms l.invariant (omega arith)
