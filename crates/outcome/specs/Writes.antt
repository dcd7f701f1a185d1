-- A call that writes into a lent buffer: what it answers, and the buffer that it leaves.
use Rattle.std.specs.Prelude.{ℕ, Bool, cond, List, ◌++◌, ltb, length, drop, Result, Ok, Err}
use Rattle.outcome.specs.declared.refusals.Refusal.{Refusal}
use Rattle.outcome.specs.Refusals.{refusal, buffer_too_short}
use Rattle.outcome.specs.Checks.{Check, accepted_then}

-- what a writer answers: how many entries of the buffer it wrote, bytes or rows; or a refusal, and nothing was written
abbrev pub Written : Type 0
Written = Result ℕ Refusal

-- some numbers over the front of what was there: those past the ones written keep their values
abbrev pub over : List ℕ → List ℕ → List ℕ
over written old = written ++ drop (length written) old

-- is there less room than what must be written takes
abbrev pub too_short : List ℕ → ℕ → Bool
too_short written room = ltb room (length written)

-- fits or 10: the answer to what must be written where there is room for so many
abbrev pub fitted : List ℕ → ℕ → Written
fitted written room = cond (too_short written room) (Err (refusal buffer_too_short 0)) (Ok (length written))

-- and the buffer: what is written over what was there, or what was there
abbrev pub fitted_over : List ℕ → List ℕ → List ℕ
fitted_over written old = cond (too_short written (length old)) old (over written old)

-- the same behind a check, whose refusal comes first
abbrev pub checked_then : Check → Written → Written
checked_then check answer = accepted_then check Err answer

-- a refused call leaves the buffer as it was
abbrev pub checked_over : Check → List ℕ → List ℕ → List ℕ
checked_over check new old = accepted_then check (λ r. old) new
