-- The reader of a solver's lines: a walk over lines, each of which ends with 0A.
use Rattle.std.specs.Prelude.{ℕ, suc, ◌+◌, List, [], ◌∷◌, length, Result, Ok, Err}
use Rattle.outcome.specs.declared.refusals.Refusal.{Refusal}
use Rattle.outcome.specs.Refusals.{refusal, bad_lines}
use Rattle.outcome.specs.Checks.{answer_or}
use Rattle.text.specs.Pieces.{line_end, pieces}
use Rattle.lines.specs.declared.readings.Stage.TheVariants.{Start, Values, Valued, Refuted, Fault}
use Rattle.lines.specs.declared.readings.Reading.{Reading}
use Rattle.lines.specs.Steps.{start, line_step}

-- what lines say, or why they are refused
abbrev pub LinesRead : Type 0
LinesRead = Result Reading Refusal

-- what lines say that can stand; the reading of no line where they can't
abbrev pub reading_of : LinesRead → Reading
reading_of read = answer_or start read

-- 13 at a place
abbrev pub bad_at : ℕ → LinesRead
bad_at at = Err (refusal bad_lines at)

-- the end of the data: all that is due has stood
abbrev pub ended : ℕ → Reading → LinesRead
ended at r = elim r.stage [ Start ↦ bad_at at | Values ↦ bad_at at | Valued ↦ Ok r | Refuted ↦ Ok r | Fault ↦ bad_at at ]

-- what follows where the line at a place can stand
abbrev pub stood_then : ℕ → Reading → LinesRead → LinesRead
stood_then at r next = elim r.stage [ Start ↦ next | Values ↦ next | Valued ↦ next | Refuted ↦ next | Fault ↦ bad_at at ]

-- the lines from a place on; behind the last 0A nothing stands
unfoldable pub lines_from : ℕ → ℕ → Reading → List (List ℕ) → LinesRead
lines_from most at r [] = ended at r
lines_from most at r ([] ∷ []) = ended at r
lines_from most at r ((b ∷ line) ∷ []) = bad_at at
lines_from most at r (line ∷ next ∷ ls) = stood_then at (line_step most r line) (lines_from most (at + suc (length line)) (line_step most r line) (next ∷ ls))

-- the lines of some bytes, where the variables are 1 to `most`
unfoldable pub lines_read : ℕ → List ℕ → LinesRead
lines_read most bytes = lines_from most 0 start (pieces line_end bytes)
