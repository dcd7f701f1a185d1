-- What the reader accepts is the text of some lines, which lead from the start to an end, one step each; comments make no step.
use Rattle.std.proofs.Common.{Ok}
use Prim.Native.Nat.{ℕ, suc, ◌+◌}
use mathlib.Core.Path.{◌≡◌, refl, sym, ap, ◌∙◌}
use mathlib.Core.Bool.{Bool, true, false, cond}
use mathlib.Core.List.{List, [], ◌∷◌, ◌++◌}
use mathlib.Core.Logic.{◌⊎◌, inl, inr, ⊎_elim}
use lib.ListN.{length}
use Rattle.outcome.specs.Checks.{outcome_of}
use Rattle.outcome.proofs.Never.{never}
use Rattle.outcome.proofs.CheckLaws.{refused_ok}
use Rattle.lines.specs.declared.readings.Stage.{Stage}
use Rattle.lines.specs.declared.readings.Stage.TheVariants.{Start, Values, Valued, Refuted, Fault}
use Rattle.lines.specs.declared.readings.Reading.{Reading}
use Rattle.lines.specs.Stages.{stands}
use Rattle.lines.specs.Steps.{is_comment, said_step, line_step}
use Rattle.lines.specs.Reads.{LinesRead, bad_at, ended, stood_then, lines_from}
use Rattle.lines.specs.Sentences.{uncommented}
use Rattle.lines.proofs.Folds.{steps_by, steps_faulty}
use Rattle.lines.proofs.StepLaws.{line_at_fault, comment_step, said_line_step}
use Rattle.lines.proofs.WalkLaws.{ended_at_start, ended_at_values, ended_at_valued, ended_at_refuted, ended_at_fault, stood, fell, line_then}

-- the stages at which the data may end
abbrev pub Ends : Stage → Type 0
Ends s = (s ≡ Valued) ⊎ (s ≡ Refuted)

ends_stand : (s : Stage) → Ends s → (s ≡ Fault → ⊥)
ends_stand s (inl e) f = never cc
ends_stand s (inr e) f = never cc

-- 13 is no acceptance
bad_accepted : {A : Type 0} (at : ℕ) (out : LinesRead) → out ≡ bad_at at → outcome_of out ≡ Ok tt → A
bad_accepted at out e a = refused_ok (ap (λ x. outcome_of x) (sym e) ∙ a)

ended_accepted : (at : ℕ) (r : Reading) → outcome_of (ended at r) ≡ Ok tt → (ended at r ≡ Ok r) × Ends r.stage
ended_accepted at r e = go r.stage refl
  where
    go : (s : Stage) → r.stage ≡ s → (ended at r ≡ Ok r) × Ends r.stage
    go Start p = bad_accepted at (ended at r) (ended_at_start at r p) e
    go Values p = bad_accepted at (ended at r) (ended_at_values at r p) e
    go Valued p = (ended_at_valued at r p, inl p)
    go Refuted p = (ended_at_refuted at r p, inr p)
    go Fault p = bad_accepted at (ended at r) (ended_at_fault at r p) e

stood_accepted : (at : ℕ) (r : Reading) (next : LinesRead) → outcome_of (stood_then at r next) ≡ Ok tt → stood_then at r next ≡ next
stood_accepted at r next e = go (stands r.stage) refl
  where
    go : (t : Bool) → stands r.stage ≡ t → stood_then at r next ≡ next
    go true p = stood at r next p
    go false p = bad_accepted at (stood_then at r next) (fell at r next p) e

stands_unless : (r : Reading) → (r.stage ≡ Fault → ⊥) → stands r.stage ≡ true
stands_unless r h = go r.stage refl
  where
    go : (s : Stage) → r.stage ≡ s → stands s ≡ true
    go Start p = refl
    go Values p = refl
    go Valued p = refl
    go Refuted p = refl
    go Fault p = absurd (h p)

module _ (most : ℕ) where
  abbrev pub line_steps : Reading → List (List ℕ) → Reading
  line_steps = steps_by (line_step most)

  abbrev pub said_steps : Reading → List (List ℕ) → Reading
  said_steps = steps_by (said_step most)

  -- a fault stays
  pub said_faulty : (r : Reading) (line : List ℕ) → r.stage ≡ Fault → (said_step most r line).stage ≡ Fault
  said_faulty r line e = ap (λ x. x.stage) (line_at_fault most r line e)

  line_faulty : (r : Reading) (line : List ℕ) → r.stage ≡ Fault → (line_step most r line).stage ≡ Fault
  line_faulty r line e = go (is_comment line) refl
    where
      go : (t : Bool) → is_comment line ≡ t → (line_step most r line).stage ≡ Fault
      go true p = ap (λ x. x.stage) (comment_step most r line p) ∙ e
      go false p = ap (λ x. x.stage) (said_line_step most r line p) ∙ said_faulty r line e

  -- comments make no step
  pub uncommented_steps : (r : Reading) (ls : List (List ℕ)) → line_steps r ls ≡ said_steps r (uncommented ls)
  unfolding steps_by uncommented
  uncommented_steps r [] = refl
  uncommented_steps r (line ∷ ls) = go (is_comment line) refl (λ x. uncommented_steps x ls)
    where
      go : (t : Bool) → is_comment line ≡ t → ((x : Reading) → line_steps x ls ≡ said_steps x (uncommented ls)) → line_steps (line_step most r line) ls ≡ said_steps r (cond t (uncommented ls) (line ∷ uncommented ls))
      go true p later = ap (λ x. line_steps x ls) (comment_step most r line p) ∙ later r
      go false p later = ap (λ x. line_steps x ls) (said_line_step most r line p) ∙ later (said_step most r line)

  -- which lines were read, and to what they led
  pub record Walked (r : Reading) (ps : List (List ℕ)) (out : LinesRead) : Type 0 where
    pub lines : List (List ℕ)
    pub cut : ps ≡ lines ++ ([] ∷ [])
    pub comes : out ≡ Ok (line_steps r lines)
    pub ends : Ends (line_steps r lines).stage

  pub walked : (at : ℕ) (r : Reading) (ps : List (List ℕ)) → ((ps ≡ []) → ⊥) → outcome_of (lines_from most at r ps) ≡ Ok tt → Walked r ps (lines_from most at r ps)
  unfolding lines_from steps_by
  walked at r [] any e = absurd (any refl)
  walked at r ([] ∷ []) any e = let k = ended_accepted at r e in record { lines = []; cut = refl; comes = k.0; ends = k.1 }
  walked at r ((b ∷ line) ∷ []) any e = bad_accepted at (bad_at at) refl e
  walked at r (line ∷ next ∷ ls) any e =
      let there : ℕ = at + suc (length line) in
      let k = stood_accepted at (line_step most r line) (lines_from most there (line_step most r line) (next ∷ ls)) e in
      let w = walked there (line_step most r line) (next ∷ ls) (λ h. never cc) (ap (λ x. outcome_of x) (sym k) ∙ e) in
      record { lines = line ∷ w.lines; cut = ap (λ l. line ∷ l) w.cut; comes = k ∙ w.comes; ends = w.ends }

  -- lines that lead to an end are read
  pub walks : (at : ℕ) (r : Reading) (ls : List (List ℕ)) → Ends (line_steps r ls).stage → lines_from most at r (ls ++ ([] ∷ [])) ≡ Ok (line_steps r ls)
  unfolding lines_from steps_by
  walks at r [] h = ⊎_elim (ended_at_valued at r) (ended_at_refuted at r) h
  walks at r (line ∷ ls) h =
      line_then most at r line (ls ++ ([] ∷ [])) (behind ls)
      ∙ stood at (line_step most r line) _ (stands_unless (line_step most r line) (λ f. ends_stand _ h (steps_faulty (line_step most) line_faulty (line_step most r line) ls f)))
      ∙ walks (at + suc (length line)) (line_step most r line) ls h
    where
      behind : (l : List (List ℕ)) → (l ++ ([] ∷ []) ≡ []) → ⊥
      behind [] e = never cc
      behind (x ∷ l) e = never cc
