-- The check of a table as a walk over its statements: what one turn does, and how the walk ends.
use Rattle.std.proofs.Common.{◌≡◌, ℕ, ◌+◌, [], ◌∷◌, drop, Ok, Err, add-one}
use Rattle.question.specs.declared.admissions.NotAdmitted.{NotAdmitted}
use Rattle.question.specs.declared.questions.Question.{Question}
use Rattle.statement.specs.declared.statements.Statement.{Statement}
use Rattle.outcome.specs.Checks.{Check}
use Rattle.question.specs.Questions.{statements}
use Rattle.statement.specs.Statements.{witness}
use Rattle.question.specs.Admissions.{admission, refusal_at}
use Rattle.question.specs.Checks.{statements_checked}

module _ (q : Question) where
  -- the check from the index i on, where t terms stand
  abbrev pub check_from : ℕ → ℕ → Check
  check_from i t = statements_checked q.elements q.sets i t (drop i (statements q))

  module _ (i t : ℕ) (s : Statement) (next : drop i (statements q) ≡ s ∷ drop (i + 1) (statements q)) where
    pub turn_refused : (why : NotAdmitted) → Err why ≡ admission q.elements q.sets t s → check_from i t ≡ Err (refusal_at i why)
    unfolding statements_checked
    turn_refused why e = rw (next, ← e)

    pub turn_accepted : Ok tt ≡ admission q.elements q.sets t s → check_from i t ≡ check_from (i + 1) (t + witness s)
    unfolding statements_checked
    turn_accepted e = rw (next, ← e, add-one)

  pub ended : (i t : ℕ) → drop i (statements q) ≡ [] → check_from i t ≡ Ok tt
  unfolding statements_checked
  ended i t e = rw e
