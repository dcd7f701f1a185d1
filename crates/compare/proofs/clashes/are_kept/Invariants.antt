-- `are_kept` keeps no more statements than it has passed.
use Rattle.std.proofs.Common.{◌≤◌}
use Rattle.compare.proofs.clashes.are_kept.Given as goal

abbrev pub invariant-loop-i : goal.invariant-loop-i
invariant-loop-i l = l.kept ≤ l.i
