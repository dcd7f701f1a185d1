-- What is copied so far is what is left of the statements walked over.
use Rattle.std.proofs.Common.{◌≡◌}
use Rattle.question.proofs.BuildLaws.{kept_of}
use Rattle.building.proofs.builds.drop_statements.Given as goal

abbrev pub invariant-loop-j : goal.invariant-loop-j
invariant-loop-j l = l.rest ≡ kept_of l.fn.q l.fn.i l.fn.n l.j
