-- The check of the whole is the check of what is left, at the index and the terms so far.
use Rattle.std.proofs.Common.{◌≡◌, ◌+◌, ◌≤◌}
use Rattle.question.proofs.CheckLaws.{check_from}
use Rattle.question.proofs.checks.check_statements.Given as goal

abbrev pub invariant-loop-i : goal.invariant-loop-i
invariant-loop-i l = (l.terms ≤ l.fn.q.elements + l.i) × (check_from l.fn.q 0 l.fn.q.elements ≡ check_from l.fn.q l.i l.terms)
