-- Demand 3: an accepted question is possible with a pattern of equal names exactly if its row list has a solution with that pattern.
-- From an assignment: each name goes to its element, each witness to an element in which its two sets differ. From a solution: the classes are the domain.
use Prim.Native.Nat.{ℕ, ◌+◌, ◌≤◌, ◌<◌}
use mathlib.Core.Path.{◌≡◌, refl, ◌∙◌}
use mathlib.Core.Bool.{Bool}
use mathlib.Core.List.{List, [], map}
use mathlib.Core.Logic.{◌↔◌}
use native.Mathlib.Omega.{arith}
use lib.Dec.{T}
use lib.ListN.{length}
use Rattle.question.specs.declared.questions.Question.{Question}
use Rattle.question.specs.Questions.{statements, terms_of}
use Rattle.question.specs.Checks.{IsAccepted}
use Rattle.question.specs.Masks.{bit}
use Rattle.statement.specs.Meaning.{Assignment, IsAssignment, AllHold}
use Rattle.theory.specs.Lists.{Every}
use Rattle.theory.specs.Arrangements.{classes}
use Rattle.theory.specs.Patterns.{pattern_of}
use Rattle.theory.specs.Rules.{Rule, rows_of_rules}
use Rattle.theory.specs.Solutions.{Solution, mask_of, met}
use Rattle.theory.specs.Sets.{Test, fits}
use Rattle.theory.specs.Reduction.{rule, row_list}
use Rattle.theory.specs.Answers.{mask_bound, Solves, as_model}
use Rattle.theory.specs.Possible.{element_of, Possible, Solvable}
use Rattle.theory.proofs.ArrangementLaws.{class_below}
use Rattle.theory.proofs.ListLaws.{all_every}
use Rattle.theory.proofs.RuleLaws.{own_witnesses}
use Rattle.theory.proofs.ModelLaws.{MaskModel, RulesMet, solution_meets}
use Rattle.theory.proofs.ReductionLaws.{Solved, met_solved}
use Rattle.theory.proofs.PlaceLaws.{passes_local, Named, rules_named, rules_witnesses}
use Rattle.theory.proofs.MeaningLaws.{in_masks, holds_met, element_mask, mask_below, mask_bits}

-- the rules of a question
abbrev pub rules_of : Question → List (Rule Test)
rules_of q = map rule (statements q)

-- its terms are the names and the rules' witnesses
pub terms_are : (q : Question) → q.elements + own_witnesses (rules_of q) ≡ terms_of q
unfolding terms_of
terms_are q = omega (arith, rules_witnesses (statements q))

module _ (q : Question) (accepted : IsAccepted q) where
  abbrev E : ℕ
  E = q.elements

  abbrev S : ℕ
  S = q.sets

  -- the assignment with a mask for each element, and the solution that this model of the rules gives
  abbrev mask_model : Assignment → MaskModel
  mask_model A = in_masks A (element_mask S A)

  solved : (A : Assignment) → IsAssignment E A → AllHold A (statements q) → Solved fits E (terms_of q) (mask_bound q) (rules_of q) (mask_model A)
  solved A is h =
      met_solved fits E (Named E S) local (mask_model A) (λ a lt. is.within (record { 0 = a }) lt)
      (terms_of q) (mask_bound q) (rules_of q) [] (rules_named E S (statements q) accepted.all_declared) (omega (arith, terms_are q)) (λ d lt. mask_below S A d) tt all_met
    where
      local : (m : ℕ) (same same' : ℕ → Bool) (t : Test) → Named E S t → ((a : ℕ) → a < E → same a ≡ same' a) → fits m same t ≡ fits m same' t
      local m same same' t named e = passes_local (bit m) (bit m) same same' E S (λ x lt. refl) e t named

      all_met : RulesMet fits (mask_model A) (rules_of q)
      all_met = (holds_met A (element_mask S A) E S (mask_bits S A) (statements q) accepted.all_declared).0 h

  -- it has the assignment's pattern, and no more classes than the assignment's domain has elements
  pub few_classes : (A : Assignment) → IsAssignment q.elements A → AllHold A (statements q) → (s : Solvable q (pattern_of (element_of A))) × (classes s.by.arrangement ≤ A.size)
  unfolding row_list
  few_classes A is h = let s = solved A is h in (record { by = s.by; solution = s.solution; patterned = s.patterned }, s.few)

  -- a solution as a model is an assignment
  pub model_assignment : (sol : Solution) → Solves q sol → IsAssignment q.elements (as_model sol)
  model_assignment sol s = record { large_enough = omega arith; within = λ a lt. class_below 0 sol.arrangement a.0 (omega (arith, s.each_term, terms_are q)) }

  -- in which every statement holds
  pub model_holds : (sol : Solution) → Solves q sol → AllHold (as_model sol) (statements q)
  unfolding row_list
  model_holds sol s = (holds_met (as_model sol) (mask_of sol.masks) E S (λ d x lt. refl) (statements q) accepted.all_declared).1
      (solution_meets fits sol s.arranged E (rules_of q) (omega (arith, s.each_term, terms_are q)) rows)
    where
      rows : Every (λ r. T (met fits sol.arrangement sol.masks r)) (rows_of_rules (length sol.arrangement) E (rules_of q))
      rows = all_every (met fits sol.arrangement sol.masks) (rows_of_rules (length sol.arrangement) E (rules_of q)) (rw s.each_term s.rows_met)

  possible_solvable : (pattern : ℕ → ℕ → Bool) → Possible q pattern → Solvable q pattern
  possible_solvable pattern p = let s = (few_classes p.by p.assignment p.holding).0 in
      record { by = s.by; solution = s.solution; patterned = λ a b la lb. s.patterned a b la lb ∙ p.patterned a b la lb }

  solvable_possible : (pattern : ℕ → ℕ → Bool) → Solvable q pattern → Possible q pattern
  solvable_possible pattern s = record { by = as_model s.by; assignment = model_assignment s.by s.solution; patterned = s.patterned; holding = model_holds s.by s.solution }

pub demand_three : (q : Question) → IsAccepted q → (pattern : ℕ → ℕ → Bool) → Possible q pattern ↔ Solvable q pattern
demand_three q accepted pattern = (possible_solvable q accepted pattern, solvable_possible q accepted pattern)
