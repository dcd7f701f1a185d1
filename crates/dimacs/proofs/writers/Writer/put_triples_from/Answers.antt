-- `put_triples_from` goes upward, with the clauses of the numbers that are left behind it.
use Rattle.std.proofs.Common.{arith}
use Rattle.clauses.specs.Clauses.{triples_of}
use Rattle.dimacs.proofs.WroteLaws.{each_room, each_turn, each_end}
use Rattle.dimacs.proofs.writers.Writer.put_triples_from.Goals as goal

pub put_triples_of-requires : goal.put_triples_of-requires
put_triples_of-requires c =
    let a = c.args in
    let l = c.loop-c in
    (omega arith, each_room (triples_of a.shape.terms a.shape.sets a.b) l.c a.shape.terms l.invariant (omega arith))

pub loop-c-preserved : goal.loop-c-preserved
loop-c-preserved c =
    let a = c.args in
    let l = c.loop-c in
    each_turn (triples_of a.shape.terms a.shape.sets a.b) l.c a.shape.terms l.invariant (omega arith) c.put_triples_of.ensures

pub returns : goal.returns
returns c =
    let a = c.args in
    let l = c.loop-c in
    each_end (triples_of a.shape.terms a.shape.sets a.b) l.c a.shape.terms l.invariant (omega arith)
