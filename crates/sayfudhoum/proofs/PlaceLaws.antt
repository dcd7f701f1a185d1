-- Where lines are refused: by 13, at a place that is not behind their end; and that the number tells a place below 2^56 as it is.
use Rattle.std.proofs.Common.{Ok, Err}
use Prim.Native.Nat.{ℕ, suc, ◌+◌, ◌*◌, ◌^◌, ◌≤◌, ◌<◌}
use mathlib.Core.Path.{◌≡◌, refl, sym, ap, subst}
use mathlib.Core.Bool.{Bool, true, false}
use mathlib.Core.List.{List, [], ◌∷◌}
use native.Mathlib.Omega.{arith}
use native.Mathlib.Nat.{mod-eq_of_lt}
use lib.ListN.{length, length-append}
use Rattle.outcome.specs.declared.refusals.Refusal.{Refusal}
use Rattle.outcome.specs.Refusals.{refusal, bad_lines}
use Rattle.outcome.specs.Checks.{outcome_of}
use Rattle.outcome.proofs.Never.{never}
use Rattle.text.specs.Pieces.{line_end, pieces, joined}
use Rattle.text.proofs.PieceLaws.{joined_pieces}
use Rattle.lines.specs.declared.readings.Stage.{Stage}
use Rattle.lines.specs.declared.readings.Stage.TheVariants.{Start, Values, Valued, Refuted, Fault}
use Rattle.lines.specs.declared.readings.Reading.{Reading}
use Rattle.lines.specs.Stages.{stands}
use Rattle.lines.specs.Steps.{start, line_step}
use Rattle.lines.specs.Reads.{LinesRead, bad_at, ended, stood_then, lines_from, lines_read}
use Rattle.lines.proofs.WalkLaws.{ended_at_start, ended_at_values, ended_at_valued, ended_at_refuted, ended_at_fault, stood, fell}
use Rattle.sayfudhoum.specs.Numbers.{placed_number}

-- refused by 13 if at all, at most so far on
abbrev BadBy : ℕ → LinesRead → Type 0
BadBy far x = (r : Refusal) → outcome_of x ≡ Err r → (r.number ≡ bad_lines) × (r.place ≤ far)

bad_by : (far at : ℕ) → at ≤ far → BadBy far (bad_at at)
bad_by far at h r e = let same : refusal bad_lines at ≡ r = cc in subst (λ x. (x.number ≡ bad_lines) × (x.place ≤ far)) same (refl, h)

read_by : (far : ℕ) (r : Reading) → BadBy far (Ok r)
read_by far r x e = never cc

ended_by : (far at : ℕ) (r : Reading) → at ≤ far → BadBy far (ended at r)
ended_by far at r h = go r.stage refl
  where
    go : (s : Stage) → r.stage ≡ s → BadBy far (ended at r)
    go Start p = subst (BadBy far) (sym (ended_at_start at r p)) (bad_by far at h)
    go Values p = subst (BadBy far) (sym (ended_at_values at r p)) (bad_by far at h)
    go Valued p = subst (BadBy far) (sym (ended_at_valued at r p)) (read_by far r)
    go Refuted p = subst (BadBy far) (sym (ended_at_refuted at r p)) (read_by far r)
    go Fault p = subst (BadBy far) (sym (ended_at_fault at r p)) (bad_by far at h)

stood_by : (far at : ℕ) (r : Reading) (next : LinesRead) → at ≤ far → BadBy far next → BadBy far (stood_then at r next)
stood_by far at r next h later = go (stands r.stage) refl
  where
    go : (t : Bool) → stands r.stage ≡ t → BadBy far (stood_then at r next)
    go true p = subst (BadBy far) (sym (stood at r next p)) later
    go false p = subst (BadBy far) (sym (fell at r next p)) (bad_by far at h)

-- the lines from a place on
from_by : (most far at : ℕ) (r : Reading) (ps : List (List ℕ)) → at + length (joined line_end ps) ≤ far → BadBy far (lines_from most at r ps)
unfolding lines_from joined
from_by most far at r [] h = ended_by far at r (omega (arith, h))
from_by most far at r ([] ∷ []) h = ended_by far at r (omega (arith, h))
from_by most far at r ((b ∷ line) ∷ []) h = bad_by far at (omega (arith, h))
from_by most far at r (line ∷ next ∷ ls) h =
    let size = length-append line (line_end ∷ joined line_end (next ∷ ls)) in
    stood_by far at (line_step most r line) _ (omega (arith, h)) (from_by most far (at + suc (length line)) (line_step most r line) (next ∷ ls) (omega (arith, h, size)))

-- lines are refused by 13 alone, and not behind their end
pub lines_place : (most : ℕ) (lines : List ℕ) (r : Refusal) → outcome_of (lines_read most lines) ≡ Err r → (r.number ≡ bad_lines) × (r.place ≤ length lines)
unfolding lines_read
lines_place most lines = from_by most (length lines) 0 start (pieces line_end lines) (omega (arith, ap length (joined_pieces line_end lines)))

-- a place in lines that are shorter than 2^56 bytes is told as it is
pub place_told : (r : Refusal) → r.place < 2 ^ 56 → placed_number r ≡ r.place * 256 + r.number
place_told r h = ap (λ p. p * 256 + r.number) (mod-eq_of_lt h)
