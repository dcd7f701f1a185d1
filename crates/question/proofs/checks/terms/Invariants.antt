-- T is the terms so far and the witnesses of what is left.
use Rattle.std.proofs.Common.{◌≡◌, ◌+◌, ◌≤◌}
use Rattle.question.specs.Questions.{terms_of}
use Rattle.question.proofs.StatementsLaws.{terms_from}
use Rattle.question.proofs.checks.terms.Given as goal

abbrev pub invariant-loop-entry : goal.invariant-loop-entry
invariant-loop-entry l = (l.total ≤ l.fn.q.elements + l.entry-index) × (terms_of l.fn.q ≡ terms_from l.fn.q l.entry-index l.total)
