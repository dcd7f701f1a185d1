-- `put_pairs_from` goes upward, with the clauses of the numbers that are left behind it.
use Rattle.std.proofs.Common.{arith}
use Rattle.clauses.specs.Clauses.{pairs_of}
use Rattle.dimacs.proofs.WroteLaws.{each_room, each_turn, each_end}
use Rattle.dimacs.proofs.writers.Writer.put_pairs_from.Goals as goal

pub put_pairs_of-requires : goal.put_pairs_of-requires
put_pairs_of-requires c =
    let a = c.args in
    let l = c.loop-d in
    each_room (pairs_of a.shape.terms a.shape.sets a.c) l.d a.shape.terms l.invariant (omega arith)

pub loop-d-preserved : goal.loop-d-preserved
loop-d-preserved c =
    let a = c.args in
    let l = c.loop-d in
    each_turn (pairs_of a.shape.terms a.shape.sets a.c) l.d a.shape.terms l.invariant (omega arith) c.put_pairs_of.ensures

pub returns : goal.returns
returns c =
    let a = c.args in
    let l = c.loop-d in
    each_end (pairs_of a.shape.terms a.shape.sets a.c) l.d a.shape.terms l.invariant (omega arith)
