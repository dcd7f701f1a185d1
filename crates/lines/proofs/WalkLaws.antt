-- The walk over lines: the end of the data by the stage, and a line that can stand or can't.
use Prim.Native.Nat.{ℕ, suc, ◌+◌, ◌-◌, ◌<◌}
use mathlib.Core.Path.{◌≡◌, refl, sym, ap, ap₂, ◌∙◌}
use mathlib.Core.Bool.{Bool, true, false, not}
use mathlib.Core.List.{List, [], ◌∷◌, ◌++◌}
use native.Mathlib.Omega.{arith}
use lib.ListN.{length, take, drop}
use denote.Enum.Bare.{sameb}
use Rattle.lines.specs.contracts.readings.Stage.{the_type}
use Rattle.std.specs.Prelude.{bytes_eq, Ok}
use Rattle.outcome.proofs.Never.{never}
use Rattle.text.specs.Pieces.{line_end, pieces, Free}
use Rattle.text.proofs.PieceLaws.{any_piece, piece_then, free_piece}
use Rattle.lines.specs.declared.readings.Stage.{Stage}
use Rattle.lines.specs.declared.readings.Stage.TheVariants.{Start, Values, Valued, Refuted, Fault}
use Rattle.lines.specs.declared.readings.Reading.{Reading}
use Rattle.lines.specs.Stages.{stands}
use Rattle.lines.specs.Steps.{start, line_step}
use Rattle.lines.proofs.CutLaws.{IsCut, cut_ended, cut_open}
use Rattle.lines.specs.Reads.{LinesRead, bad_at, ended, stood_then, lines_from, lines_read}

-- the end of the data
module _ (at : ℕ) (r : Reading) where
  pub ended_at_start : r.stage ≡ Start → ended at r ≡ bad_at at
  ended_at_start e = rw e

  pub ended_at_values : r.stage ≡ Values → ended at r ≡ bad_at at
  ended_at_values e = rw e

  pub ended_at_valued : r.stage ≡ Valued → ended at r ≡ Ok r
  ended_at_valued e = rw e

  pub ended_at_refuted : r.stage ≡ Refuted → ended at r ≡ Ok r
  ended_at_refuted e = rw e

  pub ended_at_fault : r.stage ≡ Fault → ended at r ≡ bad_at at
  ended_at_fault e = rw e

-- a line that can stand leads on, another is refused
module _ (at : ℕ) (r : Reading) (next : LinesRead) where
  pub stood : stands r.stage ≡ true → stood_then at r next ≡ next
  stood e = go r.stage refl e
    where
      go : (s : Stage) → r.stage ≡ s → stands s ≡ true → stood_then at r next ≡ next
      go Start p e = rw p
      go Values p e = rw p
      go Valued p e = rw p
      go Refuted p e = rw p
      go Fault p e = never cc

  pub fell : stands r.stage ≡ false → stood_then at r next ≡ bad_at at
  fell e = go r.stage refl e
    where
      go : (s : Stage) → r.stage ≡ s → stands s ≡ false → stood_then at r next ≡ bad_at at
      go Start p e = never cc
      go Values p e = never cc
      go Valued p e = never cc
      go Refuted p e = never cc
      go Fault p e = rw p

-- the test for a fault, as the derived `==` makes it
pub at_fault : (s : Stage) (b : Bool) → b ≡ sameb the_type s Fault → stands s ≡ not b
at_fault Start b e = ap not (sym e)
at_fault Values b e = ap not (sym e)
at_fault Valued b e = ap not (sym e)
at_fault Refuted b e = ap not (sym e)
at_fault Fault b e = ap not (sym e)

module _ (most at : ℕ) (r : Reading) where
  -- one line, whatever stands behind it
  pub line_then : (line : List ℕ) (ls : List (List ℕ)) → ((ls ≡ []) → ⊥) →
      lines_from most at r (line ∷ ls) ≡ stood_then at (line_step most r line) (lines_from most (at + suc (length line)) (line_step most r line) ls)
  unfolding lines_from
  line_then line [] some = absurd (some refl)
  line_then line (l ∷ ls) some = refl

  -- what is left of the data: nothing, no 0A, or a line
  pub walk_end : (rest : List ℕ) → length rest ≡ 0 → lines_from most at r (pieces line_end rest) ≡ ended at r
  unfolding lines_from pieces
  walk_end [] h = refl
  walk_end (b ∷ rest) h = absurd (omega arith)

  pub walk_stops : (rest : List ℕ) → 0 < length rest → Free line_end rest → lines_from most at r (pieces line_end rest) ≡ bad_at at
  unfolding lines_from
  walk_stops [] h free = absurd (omega arith)
  walk_stops (b ∷ rest) h free = ap (lines_from most at r) (free_piece line_end (b ∷ rest) free)

  -- as it cuts off all that is left, without 0A
  pub walk_open : {rest line tail : List ℕ} {i : ℕ} → IsCut line_end rest line tail i → bytes_eq (drop (length line - 1) line) (line_end ∷ []) ≡ false → lines_from most at r (pieces line_end rest) ≡ bad_at at
  walk_open {rest = rest} c e = walk_stops rest c.some (cut_open line_end c e)

  pub walk_goes : (line rest : List ℕ) → Free line_end line → lines_from most at r (pieces line_end (line ++ (line_end ∷ rest))) ≡
      stood_then at (line_step most r line) (lines_from most (at + suc (length line)) (line_step most r line) (pieces line_end rest))
  walk_goes line rest free = ap (lines_from most at r) (piece_then line_end line rest free) ∙ line_then line (pieces line_end rest) (any_piece line_end rest)

  -- as the library cuts off a line with its 0A, and then the 0A
  pub walk_line : {rest line tail : List ℕ} {i : ℕ} → IsCut line_end rest line tail i → (text : List ℕ) → text ≡ take (length line - 1) line → bytes_eq (drop (length line - 1) line) (line_end ∷ []) ≡ true → (next : Reading) → next ≡ line_step most r text →
      lines_from most at r (pieces line_end rest) ≡ stood_then at next (lines_from most (at + length line) next (pieces line_end tail))
  walk_line {rest = rest} {line = line} {tail = tail} c text t e next n =
      let cut = cut_ended line_end c text t e in
      let far : at + suc (length text) ≡ at + length line = omega (arith, cut.2) in
      ap (λ l. lines_from most at r (pieces line_end l)) cut.0
      ∙ walk_goes text tail cut.1
      ∙ ap₂ (λ k x. stood_then at x (lines_from most k x (pieces line_end tail))) far (sym n)

pub walk_starts : (most : ℕ) (r : Reading) (lines : List ℕ) → r ≡ start → lines_read most lines ≡ lines_from most 0 r (pieces line_end lines)
unfolding lines_read
walk_starts most r lines e = ap (λ x. lines_from most 0 x (pieces line_end lines)) (sym e)
