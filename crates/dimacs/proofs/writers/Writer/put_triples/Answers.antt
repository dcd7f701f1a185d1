-- `put_triples` goes upward, with the clauses of the numbers that are left behind it.
use Rattle.std.proofs.Common.{arith}
use Rattle.clauses.specs.Clauses.{triples_from}
use Rattle.dimacs.proofs.WroteLaws.{each_room, each_turn, each_end}
use Rattle.dimacs.proofs.writers.Writer.put_triples.Goals as goal

pub put_triples_from-requires : goal.put_triples_from-requires
put_triples_from-requires c =
    let a = c.args in
    let l = c.loop-b in
    (omega arith, each_room (triples_from a.shape.terms a.shape.sets) l.b a.shape.terms l.invariant (omega arith))

pub loop-b-preserved : goal.loop-b-preserved
loop-b-preserved c =
    let a = c.args in
    let l = c.loop-b in
    each_turn (triples_from a.shape.terms a.shape.sets) l.b a.shape.terms l.invariant (omega arith) c.put_triples_from.ensures

pub returns : goal.returns
returns c =
    let a = c.args in
    let l = c.loop-b in
    each_end (triples_from a.shape.terms a.shape.sets) l.b a.shape.terms l.invariant (omega arith)
