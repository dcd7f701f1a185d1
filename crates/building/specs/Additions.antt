-- One statement more: may it be added, and the question after the call.
use Rattle.std.specs.Prelude.{cond, leb, Err}
use Rattle.outcome.specs.Checks.{Check}
use Rattle.outcome.specs.Refusals.{refusal, too_many_statements}
use Rattle.outcome.specs.Checks.{accepted_then}
use Rattle.statement.specs.declared.statements.Statement.{Statement}
use Rattle.question.specs.declared.questions.Question.{Question}
use Rattle.question.specs.Limits.{max_statements}
use Rattle.question.specs.Questions.{terms_of}
use Rattle.question.specs.Admissions.{admission, admitted_at}
use Rattle.question.specs.Builds.{added}

-- may it be added: 7 at place 0, then 6 and 8 at the index that it would get, as for a table
abbrev pub addition_checked : Question → Statement → Check
addition_checked q s = cond (leb max_statements q.count) (Err (refusal too_many_statements 0)) (admitted_at q.count (admission q.elements q.sets (terms_of q) s))

-- the question after the call; a refused call leaves it as it was
unfoldable pub added_to : Question → Statement → Question
added_to q s = accepted_then (addition_checked q s) (λ r. q) (added q s)
