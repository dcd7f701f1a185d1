-- The arrays are those of the model of the terms below.
use Rattle.std.proofs.Common.{◌≡◌}
use Rattle.clauses.specs.Models.{placed_up_to}
use Rattle.solved.specs.Said.{said_truth, said_as}
use Rattle.solved.proofs.values.SaidValues.model.Given as goal

abbrev pub invariant-loop-d : goal.invariant-loop-d
invariant-loop-d l = l.m ≡ said_as (placed_up_to l.self.terms l.self.sets (said_truth l.self) l.d)
