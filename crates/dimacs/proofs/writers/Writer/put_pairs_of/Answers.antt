-- `put_pairs_of` goes upward, with the clauses of the numbers that are left behind it.
use Rattle.std.proofs.Common.{arith}
use Rattle.clauses.specs.Clauses.{pair_clauses}
use Rattle.dimacs.proofs.WroteLaws.{each_room, each_turn, each_end}
use Rattle.dimacs.proofs.writers.Writer.put_pairs_of.Goals as goal

pub put_pair-requires : goal.put_pair-requires
put_pair-requires c =
    let a = c.args in
    let l = c.loop-x in
    each_room (pair_clauses a.shape.terms a.shape.sets a.c a.d) l.x a.shape.sets l.invariant (omega arith)

pub loop-x-preserved : goal.loop-x-preserved
loop-x-preserved c =
    let a = c.args in
    let l = c.loop-x in
    each_turn (pair_clauses a.shape.terms a.shape.sets a.c a.d) l.x a.shape.sets l.invariant (omega arith) c.put_pair.ensures

pub returns : goal.returns
returns c =
    let a = c.args in
    let l = c.loop-x in
    each_end (pair_clauses a.shape.terms a.shape.sets a.c a.d) l.x a.shape.sets l.invariant (omega arith)
