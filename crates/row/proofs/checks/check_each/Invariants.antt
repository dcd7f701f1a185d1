-- `check_each` walks the rows in order: the check of the whole is the check from the index on.
use Rattle.std.proofs.Common.{◌≡◌}
use Rattle.row.proofs.CheckLaws.{check_from}
use Rattle.row.proofs.checks.check_each.Given as goal

abbrev pub invariant-loop-i : goal.invariant-loop-i
invariant-loop-i l = check_from l.terms l.sets l.rows 0 ≡ check_from l.terms l.sets l.rows l.i
