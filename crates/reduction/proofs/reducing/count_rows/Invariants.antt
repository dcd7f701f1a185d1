-- `count_rows` walks the statements: the rows so far, and those of the statements left, are the rows of all.
use Rattle.std.proofs.Common.{◌≡◌, ◌+◌, length}
use Rattle.reduction.specs.Reducing.{packed_rows}
use Rattle.reduction.proofs.ReducingLaws.{count_from}
use Rattle.reduction.proofs.reducing.count_rows.Given as goal

abbrev pub invariant-loop-i : goal.invariant-loop-i
invariant-loop-i l = l.total + count_from l.q l.terms l.i ≡ length (packed_rows l.q)
