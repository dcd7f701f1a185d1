-- The reader accepts exactly the lines of document 02's form, and refuses exactly the others, by 13.
use Rattle.std.proofs.Common.{Ok, Err}
use Prim.Native.Nat.{ℕ, suc, ◌+◌, ◌≤◌}
use mathlib.Core.Path.{◌≡◌, sym, refl, ap, ◌∙◌}
use mathlib.Core.Bool.{Bool, true, false}
use mathlib.Core.List.{List, [], ◌∷◌}
use mathlib.Core.Logic.{◌⊎◌, inl, inr, ⊎_elim, ◌↔◌}
use lib.ListN.{length}
use Rattle.outcome.specs.Checks.{outcome_of}
use Rattle.outcome.specs.Refusals.{refusal, bad_lines}
use Rattle.outcome.proofs.CheckLaws.{refused_ok}
use Rattle.text.specs.Pieces.{line_end, pieces}
use Rattle.lines.specs.declared.readings.Stage.{Stage}
use Rattle.lines.specs.declared.readings.Stage.TheVariants.{Start, Values, Valued, Refuted, Fault}
use Rattle.lines.specs.declared.readings.Reading.{Reading}
use Rattle.lines.specs.Stages.{stands}
use Rattle.lines.specs.Values.{most_variables}
use Rattle.lines.specs.Steps.{start, line_step}
use Rattle.lines.specs.Reads.{LinesRead, ended, stood_then, lines_from, lines_read}
use Rattle.lines.specs.Sentences.{OfForm}
use Rattle.lines.proofs.WalkLaws.{ended_at_start, ended_at_values, ended_at_valued, ended_at_refuted, ended_at_fault, stood, fell}
use Rattle.lines.proofs.SentenceLaws.{accepted_says, reads_unsatisfiable, unsatisfiable_reads, reads_model, model_reads}

-- 13 at some place
abbrev pub IsBad : LinesRead → Type 0
IsBad x = (at : ℕ) × (outcome_of x ≡ Err (refusal bad_lines at))

-- accepted, or else 13
abbrev Either : LinesRead → Type 0
Either x = (outcome_of x ≡ Ok tt) ⊎ IsBad x

ended_either : (at : ℕ) (r : Reading) → Either (ended at r)
ended_either at r = go r.stage refl
  where
    go : (s : Stage) → r.stage ≡ s → Either (ended at r)
    go Start p = inr (at, ap (λ x. outcome_of x) (ended_at_start at r p))
    go Values p = inr (at, ap (λ x. outcome_of x) (ended_at_values at r p))
    go Valued p = inl (ap (λ x. outcome_of x) (ended_at_valued at r p))
    go Refuted p = inl (ap (λ x. outcome_of x) (ended_at_refuted at r p))
    go Fault p = inr (at, ap (λ x. outcome_of x) (ended_at_fault at r p))

stood_either : (at : ℕ) (r : Reading) (next : LinesRead) → Either next → Either (stood_then at r next)
stood_either at r next h = go (stands r.stage) refl
  where
    go : (t : Bool) → stands r.stage ≡ t → Either (stood_then at r next)
    go true p = rw (stood at r next p) h
    go false p = inr (at, ap (λ x. outcome_of x) (fell at r next p))

module _ (most : ℕ) where
  lines_either : (at : ℕ) (r : Reading) (ls : List (List ℕ)) → Either (lines_from most at r ls)
  unfolding lines_from
  lines_either at r [] = ended_either at r
  lines_either at r ([] ∷ []) = ended_either at r
  lines_either at r ((b ∷ line) ∷ []) = inr (at, refl)
  lines_either at r (line ∷ next ∷ ls) = stood_either at (line_step most r line) (lines_from most (at + suc (length line)) (line_step most r line) (next ∷ ls)) (lines_either (at + suc (length line)) (line_step most r line) (next ∷ ls))

  module _ (text : List ℕ) where
    pub accepted_or_bad : (outcome_of (lines_read most text) ≡ Ok tt) ⊎ IsBad (lines_read most text)
    unfolding lines_read
    accepted_or_bad = lines_either 0 start (pieces line_end text)

    module _ (few : most ≤ most_variables) where
      pub accepted_exactly : (outcome_of (lines_read most text) ≡ Ok tt) ↔ OfForm most text
      accepted_exactly = (to, from)
        where
          to : outcome_of (lines_read most text) ≡ Ok tt → OfForm most text
          to e = ⊎_elim (λ s. let m = reads_model most text few e s in inl (m.0, m.1)) (λ s. inr (reads_unsatisfiable most text e s)) (accepted_says most text e)

          from : OfForm most text → outcome_of (lines_read most text) ≡ Ok tt
          from (inl m) = (model_reads most text few m.0 m.1).0
          from (inr u) = (unsatisfiable_reads most text u).0

      pub bad_exactly : IsBad (lines_read most text) ↔ (OfForm most text → ⊥)
      bad_exactly = (to, from)
        where
          to : IsBad (lines_read most text) → OfForm most text → ⊥
          to b f = refused_ok (sym b.1 ∙ accepted_exactly.1 f)

          from : (OfForm most text → ⊥) → IsBad (lines_read most text)
          from h = ⊎_elim (λ e. absurd (h (accepted_exactly.0 e))) (λ b. b) accepted_or_bad
