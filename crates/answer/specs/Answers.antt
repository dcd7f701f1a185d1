-- What an answer says: that the question is impossible, or a class number for each term and a mask for each class.
use Rattle.std.specs.Prelude.{ℕ, ◌<◌, ◌≡◌, [], length, take}
use Rattle.std.proofs.Math.Option.{Option, none, some}
use Rattle.question.specs.Limits.{max_terms}
use Rattle.theory.specs.Arrangements.{IsArrangement, classes}
use Rattle.theory.specs.Solutions.{Solution, with_masks, mask_of}
use Rattle.outcome.specs.declared.verdicts.Verdict.{Verdict}
use Rattle.outcome.specs.declared.verdicts.Verdict.TheVariants.{Possible, Impossible}
use Rattle.outcome.specs.Padded.{padded}
use Rattle.answer.specs.declared.answers.Answer.{Answer}

-- the class numbers of the first T terms, and the masks of the first n classes
abbrev pub cut_to : ℕ → ℕ → Answer → Solution
cut_to T n a = with_masks (take T a.arrangement) (take n a.masks)

-- what an answer says of T terms: class numbers past them and masks past the classes are ignored, and of an impossible answer all but the verdict
abbrev pub said_by : Verdict → ℕ → Answer → Option Solution
said_by Impossible T a = none
said_by Possible T a = some (cut_to T (classes (take T a.arrangement)) a)

unfoldable pub said : ℕ → Answer → Option Solution
said T a = said_by a.verdict T a

-- the verdict of what is said
abbrev pub verdict_of : Option Solution → Verdict
verdict_of none = Impossible
verdict_of (some sol) = Possible

-- the value of what is said; entries past the terms and past the classes are 0
abbrev pub as_answer : Option Solution → Answer
as_answer none = record { verdict = Impossible; arrangement = padded max_terms []; masks = padded max_terms [] }
as_answer (some sol) = record { verdict = Possible; arrangement = padded max_terms sol.arrangement; masks = padded max_terms sol.masks }

abbrev pub impossible_answer : Answer
impossible_answer = as_answer none

-- what a model that was found or read is filled into. It says possible: who takes it as it is, is not told "impossible"
abbrev pub filler : Answer
filler = record { verdict = Possible; arrangement = padded max_terms []; masks = padded max_terms [] }

-- an answer with its ignored entries set to 0
abbrev pub cleaned : ℕ → Answer → Answer
cleaned T a = as_answer (said T a)

-- both arrays of an answer have twelve entries
abbrev pub HasTwelve : Answer → Type 0
HasTwelve a = (length a.arrangement ≡ max_terms) × (length a.masks ≡ max_terms)

-- an arrangement of T terms, and a mask below the bound for each class
pub record IsArranged (T bound : ℕ) (sol : Solution) : Type 0 where
  pub arranged : IsArrangement sol.arrangement
  pub each_term : length sol.arrangement ≡ T
  pub each_class : length sol.masks ≡ classes sol.arrangement
  pub masks_below : (k : ℕ) → k < classes sol.arrangement → mask_of sol.masks k < bound

-- what an answer may say of T terms: impossible, or some arrangement with masks below the bound
abbrev pub MaySay : ℕ → ℕ → Option Solution → Type 0
MaySay T bound none = Unit {0}
MaySay T bound (some sol) = IsArranged T bound sol
