-- Where a walk may begin, and how it begins.
use Rattle.std.specs.Prelude.{◌+◌, ◌≤◌, ◌<◌, ◌≡◌, true, false, ◌⊎◌, Some, IfSome, Result, Ok, Err}
use Rattle.outcome.specs.declared.refusals.Refusal.{Refusal}
use Rattle.outcome.specs.declared.verdicts.Verdict.TheVariants.{Impossible}
use Rattle.question.specs.declared.questions.Question.{Question}
use Rattle.question.specs.Builds.{dropped}
use Rattle.theory.specs.Answers.{answer}
use Rattle.decision.specs.Decisions.{decided}
use Rattle.clash.specs.declared.starts.Begun.{Begun}
use Rattle.clash.specs.declared.walks.Start.{Start}
use Rattle.clash.specs.Clashes.{is_none}

-- what remains without the first statements is still impossible, what remains from `bound` on is possible, and one decision is left for each statement ahead
pub record MayStart (q : Question) (s : Start) : Type 0 where
  pub still : is_none (answer (dropped q 0 s.from)) ≡ true
  pub inside : s.from ≤ q.count
  pub bounded : IfSome s.bound (λ b. (s.from < b) × (b ≤ q.count))
  pub known : IfSome s.bound (λ b. is_none (answer (dropped q 0 b)) ≡ false)
  pub enough : (q.count ≤ s.from + s.left) ⊎ ((s.bound ≡ Some (s.from + 1)) × (q.count ≤ s.from + 1 + s.left))

-- the decision of a question; and where it is impossible, a walk may begin there
abbrev pub Begins : Question → Result Begun Refusal → Type 0
Begins q (Ok b) = (decided q ≡ Ok b.answer) × (b.answer.verdict ≡ Impossible → MayStart q b.start)
Begins q (Err r) = decided q ≡ Err r
