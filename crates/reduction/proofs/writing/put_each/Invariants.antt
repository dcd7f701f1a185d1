-- `put_each` stores the row of one term behind that of the term before: the buffer holds the first rows over what was there.
use Rattle.std.proofs.Common.{◌≡◌, take}
use Rattle.outcome.specs.Writes.{over}
use Rattle.row.specs.Tests.{said}
use Rattle.reduction.specs.Rules.{each_term}
use Rattle.reduction.proofs.writing.put_each.Given as goal

abbrev pub invariant-loop-c : goal.invariant-loop-c
invariant-loop-c l = l.rows ≡ over (take l.c (each_term (said l.fn.test) l.terms)) l.fn.rows
