-- Which statements may stand in a question: names declared (6), no witness too many (8); and which may be added: not one too many (7).
use Rattle.std.specs.Prelude.{ℕ, ◌+◌, Bool, ◌&&◌, cond, ltb, leb, Result, Ok, Err}
use Rattle.outcome.specs.Checks.{Check}
use Rattle.outcome.specs.declared.refusals.Refusal.{Refusal}
use Rattle.outcome.specs.Refusals.{refusal, name_not_declared, too_many_statements, too_many_terms}
use Rattle.statement.specs.declared.statements.Statement.{Statement}
use Rattle.question.specs.declared.admissions.NotAdmitted.{NotAdmitted}
use Rattle.question.specs.declared.admissions.NotAdmitted.TheVariants.{TooManyStatements, Undeclared, TooManyTerms}
use Rattle.question.specs.Limits.{max_statements, max_terms}
use Rattle.statement.specs.Statements.{makes_witness}
use Rattle.statement.specs.NameTests.{name_test}

-- this statement x ≠ y would make T more than 12, where t terms stand already
abbrev pub one_too_many : ℕ → Statement → Bool
one_too_many t s = makes_witness s && ltb max_terms (t + 1)

-- may a statement stand, or why not
abbrev pub Admission : Type 0
Admission = Result (Unit {0}) NotAdmitted

-- first the names, then the witness
abbrev pub names_then : Result (Unit {0}) ℕ → Bool → Admission
names_then (Err at) too_many = Err (Undeclared at)
names_then (Ok _) too_many = cond too_many (Err TooManyTerms) (Ok tt)

-- may the statement s stand where t terms stand already
unfoldable pub admission : ℕ → ℕ → ℕ → Statement → Admission
admission E S t s = names_then (name_test E S s) (one_too_many t s)

-- may it be added behind n statements: 7, then 6 and 8
unfoldable pub addition : ℕ → ℕ → ℕ → ℕ → Statement → Admission
addition E S n t s = cond (leb max_statements n) (Err TooManyStatements) (admission E S t s)

-- why not, as a refusal at a place
abbrev pub refusal_at : ℕ → NotAdmitted → Refusal
refusal_at place TooManyStatements = refusal too_many_statements place
refusal_at place (Undeclared at) = refusal name_not_declared place
refusal_at place TooManyTerms = refusal too_many_terms place

-- accepted, or the refusal at a place
abbrev pub admitted_at : ℕ → Admission → Check
admitted_at place (Ok _) = Ok tt
admitted_at place (Err why) = Err (refusal_at place why)
