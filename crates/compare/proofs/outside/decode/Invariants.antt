-- `decode` stores byte after byte within the lent buffer.
use Rattle.std.proofs.Common.{◌≤◌, length}
use Rattle.compare.proofs.outside.decode.Given as goal

abbrev pub invariant-loop-left : goal.invariant-loop-left
invariant-loop-left l = (l.total ≤ length l.bytes) × (length l.left ≤ length l.line)

abbrev pub decreases-loop-left : goal.decreases-loop-left
decreases-loop-left l = length l.left
