-- `verdicts` goes from line to line to the end of the input.
use Rattle.std.proofs.Common.{length}
use Rattle.compare.proofs.outside.verdicts.Given as goal

abbrev pub decreases-loop-left : goal.decreases-loop-left
decreases-loop-left l = length l.left
