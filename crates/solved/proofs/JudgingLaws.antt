-- The model that values say, judged and written: the arrays that hold it are those of an answer that may be said, so only the judge and the room matter.
use Prim.Native.Nat.{ℕ, ◌≤◌}
use mathlib.Core.Path.{◌≡◌, refl, sym, ap, ◌∙◌}
use mathlib.Core.Bool.{Bool, true, false, cond}
use mathlib.Core.List.{List}
use mathlib.Core.Option.{some}
use lib.ListN.{length}
use Rattle.std.specs.Prelude.{Option, None, Ok}
use Rattle.outcome.specs.Writes.{fitted, fitted_over}
use Rattle.question.specs.declared.questions.Question.{Question}
use Rattle.question.specs.Limits.{max_sets, max_terms}
use Rattle.question.specs.Questions.{terms_of}
use Rattle.question.specs.Checks.{checked}
use Rattle.question.proofs.AcceptedLaws.{accepted}
use Rattle.theory.specs.Solutions.{Solution}
use Rattle.theory.specs.Answers.{mask_bound}
use Rattle.answer.specs.Answers.{as_answer, IsArranged}
use Rattle.answer.specs.Bytes.{file_of}
use Rattle.answer.specs.Writes.{good_written, good_over, written, written_over}
use Rattle.answer.proofs.MayLaws.{may_good, as_said}
use Rattle.judge.specs.Shown.{model_shown}
use Rattle.lines.specs.declared.readings.Reading.{Reading}
use Rattle.lines.specs.declared.readings.Stage.{Stage}
use Rattle.lines.specs.declared.readings.Stage.TheVariants.{Start, Values, Valued, Refuted, Fault}
use Rattle.lines.specs.Values.{truth_of}
use Rattle.clauses.proofs.PlacedLaws.{model_placed}
use Rattle.solved.specs.declared.models.SaidModel.{SaidModel}
use Rattle.solved.specs.Solved.{as_solved, failed, model_of, passed, model_solved, model_over, reading_solved, reading_over}
use Rattle.solved.specs.Said.{said_as, shown_as, said_written, said_over, said_passed, said_judged, said_judged_over}

-- by whether the judge passes it
module _ (q : Question) (m : SaidModel) (old : List ℕ) {b : Bool} (is : b ≡ said_passed q m) where
  pub judged_passed : b ≡ true → (said_judged q m (length old) ≡ said_written q m (length old)) × (said_judged_over q m old ≡ said_over q m old)
  judged_passed e = let told = sym is ∙ e in
      (ap (λ x. cond x (said_written q m (length old)) failed) told, ap (λ x. cond x (said_over q m old) old) told)

  pub judged_failed : b ≡ false → (said_judged q m (length old) ≡ failed) × (said_judged_over q m old ≡ old)
  judged_failed e = let told = sym is ∙ e in
      (ap (λ x. cond x (said_written q m (length old)) failed) told, ap (λ x. cond x (said_over q m old) old) told)

-- the model of any values is an arrangement with masks below the bound
pub model_arranged : (q : Question) (values : List (Option Bool)) → IsArranged (terms_of q) (mask_bound q) (model_of q values)
model_arranged q values =
    let p = model_placed (terms_of q) q.sets (truth_of values) in
    record { arranged = p.arranged; each_term = p.long; each_class = p.each_class; masks_below = p.masks_below }

module _ (q : Question) (e : checked q ≡ Ok tt) where
  -- terms and sets fit their arrays
  pub few : (terms_of q ≤ max_terms) × (q.sets ≤ max_sets)
  few = (((accepted q).0 e).few_terms, ((accepted q).0 e).few_sets)

  module _ (sol : Solution) (w : IsArranged (terms_of q) (mask_bound q) sol) where
    model_written : (room : ℕ) → written q (as_answer (some sol)) room ≡ fitted (file_of (some sol)) room
    unfolding written good_written
    model_written room = rw (e, as_said (terms_of q) (mask_bound q) (some sol) w, may_good (terms_of q) (mask_bound q) (some sol) w)

    model_over_lem : (old : List ℕ) → written_over q (as_answer (some sol)) old ≡ fitted_over (file_of (some sol)) old
    unfolding written_over good_over
    model_over_lem old = rw (e, as_said (terms_of q) (mask_bound q) (some sol) w, may_good (terms_of q) (mask_bound q) (some sol) w)

    pub said_solved : (old : List ℕ) → (said_judged q (said_as sol) (length old) ≡ model_solved q sol (length old)) × (said_judged_over q (said_as sol) old ≡ model_over q sol old)
    unfolding said_as shown_as model_shown
    said_solved old = (ap (λ x. cond (passed q sol) (as_solved x) failed) (model_written (length old)), ap (λ x. cond (passed q sol) x old) (model_over_lem old))

-- lines that give every variable a value
pub reading_valued : (q : Question) (r : Reading) (old : List ℕ) → r.stage ≡ Valued → (reading_solved q r (length old) ≡ model_solved q (model_of q r.values) (length old)) × (reading_over q r old ≡ model_over q (model_of q r.values) old)
reading_valued q r old e = rw e (refl, refl)

-- lines that don't
pub reading_not_valued : (q : Question) (r : Reading) (old : List ℕ) → (r.stage ≡ Valued → ⊥) → (reading_solved q r (length old) ≡ Ok None) × (reading_over q r old ≡ old)
reading_not_valued q r old h = go r.stage refl
  where
    go : (s : Stage) → r.stage ≡ s → (reading_solved q r (length old) ≡ Ok None) × (reading_over q r old ≡ old)
    go Start e = rw e (refl, refl)
    go Values e = rw e (refl, refl)
    go Valued e = absurd (h e)
    go Refuted e = rw e (refl, refl)
    go Fault e = rw e (refl, refl)
