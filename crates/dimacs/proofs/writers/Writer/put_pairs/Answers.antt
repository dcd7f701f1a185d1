-- `put_pairs` goes upward, with the clauses of the numbers that are left behind it.
use Rattle.std.proofs.Common.{arith}
use Rattle.clauses.specs.Clauses.{pairs_from}
use Rattle.dimacs.proofs.WroteLaws.{each_room, each_turn, each_end}
use Rattle.dimacs.proofs.writers.Writer.put_pairs.Goals as goal

pub put_pairs_from-requires : goal.put_pairs_from-requires
put_pairs_from-requires c =
    let a = c.args in
    let l = c.loop-c in
    (omega arith, each_room (pairs_from a.shape.terms a.shape.sets) l.c a.shape.terms l.invariant (omega arith))

pub loop-c-preserved : goal.loop-c-preserved
loop-c-preserved c =
    let a = c.args in
    let l = c.loop-c in
    each_turn (pairs_from a.shape.terms a.shape.sets) l.c a.shape.terms l.invariant (omega arith) c.put_pairs_from.ensures

pub returns : goal.returns
returns c =
    let a = c.args in
    let l = c.loop-c in
    each_end (pairs_from a.shape.terms a.shape.sets) l.c a.shape.terms l.invariant (omega arith)
