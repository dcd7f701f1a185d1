-- The model that values say, as arrays.
use Rattle.std.specs.Prelude.{ℕ, Bool, cond, List, get_or}
use Rattle.std.proofs.Math.Option.{Option, none, some}
use Rattle.outcome.specs.Padded.{padded}
use Rattle.question.specs.Limits.{max_terms}
use Rattle.theory.specs.Arrangements.{classes}
use Rattle.theory.specs.Solutions.{Solution}
use Rattle.question.specs.declared.questions.Question.{Question}
use Rattle.outcome.specs.declared.verdicts.Verdict.TheVariants.{Possible}
use Rattle.answer.specs.declared.answers.Answer.{Answer}
use Rattle.answer.specs.Writes.{written, written_over}
use Rattle.clauses.specs.Meaning.{Truth}
use Rattle.lines.specs.Values.{truth_of}
use Rattle.judge.specs.Judgements.{judged}
use Rattle.judge.specs.declared.models.Model.{Model}
use Rattle.solved.specs.Solved.{Solved, is_yes, as_solved, failed}
use Rattle.solved.specs.declared.models.SaidModel.{SaidModel}
use Rattle.solved.specs.declared.values.SaidValues.{SaidValues}

-- the class of a next term, behind terms with these class numbers: that of the earlier term which it joins, else the next
abbrev pub class_by : List ℕ → ℕ → Option ℕ → ℕ
class_by numbers used none = used
class_by numbers used (some c) = get_or numbers c 0

-- the truth values that are said
abbrev pub said_truth : SaidValues → Truth
said_truth s = truth_of s.reading.now.values

-- a solution as arrays; entries past the terms and past the classes are 0
unfoldable pub said_as : Solution → SaidModel
said_as sol = record { classes = classes sol.arrangement; arrangement = padded max_terms sol.arrangement; masks = padded max_terms sol.masks }

-- as a model for the judge: the element of a term is its class
unfoldable pub shown_as : SaidModel → Model
shown_as m = record { size = m.classes; elements = m.arrangement; masks = m.masks }

-- as an answer, which always says possible
abbrev pub answer_as : SaidModel → Answer
answer_as m = record { verdict = Possible; arrangement = m.arrangement; masks = m.masks }

-- the arrays written and judged; what that means of the model that they hold is in `Solved`
module _ (q : Question) (m : SaidModel) where
  abbrev pub said_written : ℕ → Solved
  said_written room = as_solved (written q (answer_as m) room)

  abbrev pub said_over : List ℕ → List ℕ
  said_over old = written_over q (answer_as m) old

  abbrev pub said_passed : Bool
  said_passed = is_yes (judged q (shown_as m))

  abbrev pub said_judged : ℕ → Solved
  said_judged room = cond said_passed (said_written room) failed

  abbrev pub said_judged_over : List ℕ → List ℕ
  said_judged_over old = cond said_passed (said_over old) old
