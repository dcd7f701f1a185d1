-- The mask so far has the bits of the sets below.
use Rattle.std.proofs.Common.{◌≡◌}
use Rattle.clauses.specs.Models.{mask_up_to}
use Rattle.solved.specs.Said.{said_truth}
use Rattle.solved.proofs.values.SaidValues.mask.Given as goal

abbrev pub invariant-loop-x : goal.invariant-loop-x
invariant-loop-x l = l.mask ≡ mask_up_to l.self.terms l.self.sets (said_truth l.self) l.x l.c
