-- A solution of an accepted question, as a model for the judge: it agrees with the solution on every name declared, so the judge says yes to it.
use Rattle.std.proofs.Common.{Ok, None}
use Prim.Native.Nat.{ℕ, ◌^◌, ◌≤◌}
use mathlib.Core.Path.{◌≡◌, refl, sym, ap, fun_ext}
use mathlib.Core.Bool.{true}
use native.Mathlib.Omega.{arith}
use borrow.Author.Tests.{le-leb}
use lib.Dec.{T, ltb, lt→ltb}
use lib.ListN.{get_or}
use Rattle.question.specs.declared.questions.Question.{Question}
use Rattle.question.specs.Limits.{max_terms}
use Rattle.question.specs.Questions.{statements}
use Rattle.question.specs.Checks.{IsAccepted}
use Rattle.question.specs.Masks.{bit}
use Rattle.statement.specs.Meaning.{AllHold}
use Rattle.statement.proofs.TestLaws.{true_T}
use Rattle.statement.proofs.EverywhereLaws.{everywhere_of}
use Rattle.question.proofs.NamesLaws.{hold_same}
use Rattle.theory.specs.Arrangements.{classes}
use Rattle.theory.specs.Solutions.{Solution, mask_of}
use Rattle.theory.specs.Answers.{Solves, as_model}
use Rattle.theory.proofs.ArrangementLaws.{classes_few}
use Rattle.theory.proofs.DemandThree.{model_assignment, model_holds}
use Rattle.judge.specs.Models.{assigned, elements_inside, masks_inside, is_model}
use Rattle.judge.specs.Judgements.{judged}
use Rattle.judge.proofs.Verdicts.{yes_means}
use Rattle.outcome.proofs.PaddedLaws.{padded_entry}
use Rattle.judge.specs.Shown.{model_shown}

module _ (q : Question) (accepted : IsAccepted q) (sol : Solution) (s : Solves q sol) where
  -- the class of a name, and the mask of a class
  class_shown : (a : ℕ) → get_or (model_shown sol).elements a 0 ≡ get_or sol.arrangement a 0
  unfolding model_shown
  class_shown a = padded_entry max_terms sol.arrangement a

  mask_shown : (k : ℕ) → get_or (model_shown sol).masks k 0 ≡ mask_of sol.masks k
  unfolding model_shown
  mask_shown k = padded_entry max_terms sol.masks k

  size_shown : (model_shown sol).size ≡ classes sol.arrangement
  unfolding model_shown
  size_shown = refl

  few : (model_shown sol).size ≤ max_terms
  few = omega (arith, size_shown, classes_few 0 sol.arrangement s.arranged, s.each_term, accepted.few_terms)

  elements : T (elements_inside q.elements (model_shown sol).size (model_shown sol).elements)
  unfolding elements_inside
  elements =
      everywhere_of q.elements (λ a. ltb (get_or (model_shown sol).elements a 0) (model_shown sol).size)
      (λ a lt. lt→ltb (get_or (model_shown sol).elements a 0) (model_shown sol).size (omega (arith, class_shown a, size_shown, (model_assignment q accepted sol s).within (record { 0 = a }) lt)))

  masks : T (masks_inside q.sets (model_shown sol).size (model_shown sol).masks)
  unfolding masks_inside
  masks =
      everywhere_of (model_shown sol).size (λ k. ltb (get_or (model_shown sol).masks k 0) (2 ^ q.sets))
      (λ k lt. lt→ltb (get_or (model_shown sol).masks k 0) (2 ^ q.sets) (omega (arith, mask_shown k, s.masks_below k (omega (arith, size_shown)))))

  is_model_lem : is_model q.elements q.sets (model_shown sol) ≡ true
  unfolding is_model
  is_model_lem = rw (le-leb (model_shown sol).size max_terms few, true_T (elements_inside q.elements (model_shown sol).size (model_shown sol).elements) elements, true_T (masks_inside q.sets (model_shown sol).size (model_shown sol).masks) masks)

  all_hold : AllHold (assigned (model_shown sol)) (statements q)
  all_hold =
      hold_same (as_model sol) (assigned (model_shown sol)) (sym size_shown) q.elements q.sets
      (λ a lt. sym (class_shown a.0))
      (λ x lt. fun_ext (λ k. ap (λ m. bit m x.0) (sym (mask_shown k))))
      (statements q) accepted.all_declared (model_holds q accepted sol s)

  pub judge_yes : judged q (model_shown sol) ≡ Ok None
  judge_yes = (yes_means q (model_shown sol)).1 (record { question_accepted = accepted; model = is_model_lem; all_hold = all_hold })
