-- The check of a table that is handed in, and what it means that a question is accepted.
use Rattle.std.specs.Prelude.{ℕ, suc, ◌+◌, ◌≤◌, ◌||◌, cond, List, [], ◌∷◌, ◌≡◌, ltb, Ok, Err}
use Rattle.statement.specs.declared.statements.Statement.{Statement}
use Rattle.question.specs.declared.questions.Question.{Question}
use Rattle.outcome.specs.Checks.{Check}
use Rattle.question.specs.Limits.{max_elements, max_sets, max_statements, max_terms}
use Rattle.outcome.specs.Refusals.{refusal, too_many_names, too_many_statements}
use Rattle.question.specs.Questions.{statements, terms_of}
use Rattle.statement.specs.Statements.{witness}
use Rattle.question.specs.Admissions.{admission, admitted_at}
use Rattle.statement.specs.NameTests.{name_test}
use Rattle.outcome.specs.Checks.{accepted_then}

-- E or S above its limit: 5
abbrev pub names_checked_at : ℕ → ℕ → ℕ → Check
names_checked_at place E S = cond (ltb max_elements E || ltb max_sets S) (Err (refusal too_many_names place)) (Ok tt)

-- statement by statement from the index i on, where t terms stand
unfoldable pub statements_checked : ℕ → ℕ → ℕ → ℕ → List Statement → Check
statements_checked E S i t [] = Ok tt
statements_checked E S i t (s ∷ ss) = accepted_then (admitted_at i (admission E S t s)) Err (statements_checked E S (suc i) (t + witness s) ss)

-- 5, then 7 (place 0), then statement by statement 6, 8 (place its index)
unfoldable pub checked : Question → Check
checked q =
    accepted_then (names_checked_at 0 q.elements q.sets) Err
    (cond (ltb max_statements q.count) (Err (refusal too_many_statements 0))
    (statements_checked q.elements q.sets 0 q.elements (statements q)))

-- the names of every statement are declared
abbrev pub AllDeclared : ℕ → ℕ → List Statement → Type 0
AllDeclared E S [] = Unit {0}
AllDeclared E S (s ∷ ss) = (name_test E S s ≡ Ok tt) × AllDeclared E S ss

-- an accepted question keeps the limits and names only what it declares
pub record IsAccepted (q : Question) : Type 0 where
  pub few_elements : q.elements ≤ max_elements
  pub few_sets : q.sets ≤ max_sets
  pub few_statements : q.count ≤ max_statements
  pub all_declared : AllDeclared q.elements q.sets (statements q)
  pub few_terms : terms_of q ≤ max_terms
