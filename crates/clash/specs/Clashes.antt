-- Which statements clash: one walk over the indexes, in which each step is one question, "is it still impossible without this one".
use Rattle.std.specs.Prelude.{ℕ, suc, ◌≤◌, ◌<◌, Bool, true, false, cond, List, [], ◌∷◌, ◌++◌, map, get_or}
use Rattle.std.specs.Prelude.{Option as Possibly, Some, None, Result, Ok, Err}
use Rattle.std.proofs.Math.Option.{Option, none, some}
use Rattle.outcome.specs.declared.refusals.Refusal.{Refusal}
use Rattle.outcome.specs.Checks.{accepted_then}
use Rattle.outcome.specs.Padded.{padded}
use Rattle.statement.specs.declared.statements.Statement.{Statement}
use Rattle.question.specs.declared.questions.Question.{Question}
use Rattle.question.specs.Limits.{max_statements}
use Rattle.question.specs.Questions.{idle, question_of, statements}
use Rattle.question.specs.Checks.{checked}
use Rattle.question.specs.Builds.{declaring}
use Rattle.theory.specs.Answers.{answer}
use Rattle.search.specs.declared.answers.Found.{Found}
use Rattle.answer.specs.declared.answers.Answer.{Answer}
use Rattle.answer.specs.Answers.{as_answer}
use Rattle.decision.specs.Decisions.{table_searched}
use Rattle.clash.specs.declared.walks.Kept.{Kept}
use Rattle.clash.specs.declared.clashes.ClashingPart.{ClashingPart}

-- is there nothing
abbrev pub is_none : {A : Type 0} → Option A → Bool
is_none none = true
is_none (some x) = false

module _ (E S : ℕ) where
  -- is the question with these statements impossible
  abbrev pub impossible : List Statement → Bool
  impossible ss = is_none (answer (question_of E S ss))

  -- which indexes are kept from i on, where the statements `kept` were kept before i, and the next is dropped for good if what remains without it is still impossible
  unfoldable pub kept_from : List Statement → ℕ → List Statement → List ℕ
  kept_from kept i [] = []
  kept_from kept i (s ∷ after) = cond (impossible (kept ++ after)) (kept_from kept (suc i) after) (i ∷ kept_from (kept ++ (s ∷ [])) (suc i) after)

-- the indexes of the clashing part, rising; a possible question has none
unfoldable pub clashing : Question → List ℕ
clashing q = cond (is_none (answer q)) (kept_from q.elements q.sets [] 0 (statements q)) []

-- numbers that rise, from `low` on and below `high`
abbrev pub Rising : ℕ → ℕ → List ℕ → Type 0
Rising low high [] = Unit {0}
Rising low high (i ∷ is) = (low ≤ i) × (i < high) × Rising (suc i) high is

-- the statements of a question at some indexes
abbrev pub statements_at : Question → List ℕ → List Statement
statements_at q is = map (λ i. get_or (statements q) i idle.statement) is

-- the clashing part as a question: the statements at those indexes, E and S as they were
unfoldable pub part_of : Question → Question
part_of q = question_of q.elements q.sets (statements_at q (clashing q))

-- does a search say that there is no model, neither one nor a refusal
abbrev pub finds_none : Result (Possibly Found) Refusal → Bool
finds_none (Ok None) = true
finds_none (Ok (Some f)) = false
finds_none (Err r) = false

-- does the search find no model in the rows of a table as it stands
unfoldable pub without_model : Question → Bool
without_model q = finds_none (table_searched q)

-- what is kept: the clashing part with its indexes, or nothing
abbrev pub clash_kept : Question → Kept
clash_kept q = record { part = part_of q; indexes = padded max_statements (clashing q) }

abbrev pub none_kept : Question → Kept
none_kept q = record { part = declaring q.elements q.sets; indexes = padded max_statements [] }

-- what is found where this is the answer and that was kept
abbrev pub with_kept : Answer → Kept → ClashingPart
with_kept a k = record { part = k.part; indexes = k.indexes; answer = a }

-- a refusal, or what was found
abbrev pub Clash : Type 0
Clash = Result ClashingPart Refusal

-- the refusals of the table; else the clashing part, its indexes, and the answer to the question itself
unfoldable pub clashed : Question → Clash
clashed q = accepted_then (checked q) Err (Ok (with_kept (as_answer (answer q)) (clash_kept q)))
