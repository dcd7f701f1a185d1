-- What the clauses of an accepted question are for: they can be satisfied exactly if the reduced table has a solution, so exactly if some assignment meets the statements, pattern by pattern.
-- Truth values that satisfy them say a solution, and every solution makes truth values that do, which say that solution and no other.
use Prim.Native.Nat.{ℕ, ◌<◌}
use mathlib.Core.Path.{◌≡◌, sym, ◌∙◌}
use mathlib.Core.Bool.{Bool}
use mathlib.Core.Logic.{◌↔◌}
use mathlib.Core.Option.{none}
use native.Mathlib.Omega.{arith}
use lib.Dec.{eqb}
use Rattle.question.specs.declared.questions.Question.{Question}
use Rattle.question.specs.Questions.{statements, terms_of}
use Rattle.question.specs.Checks.{IsAccepted}
use Rattle.statement.specs.Meaning.{CanHold, CantHold}
use Rattle.theory.specs.Lists.{Every}
use Rattle.theory.specs.Arrangements.{class_of}
use Rattle.theory.specs.Patterns.{HasPattern}
use Rattle.theory.specs.Solutions.{Solution}
use Rattle.theory.specs.Reduction.{row_list}
use Rattle.theory.specs.Answers.{Solves, answer, as_model}
use Rattle.theory.specs.Possible.{Possible}
use Rattle.theory.proofs.ListLaws.{all_every}
use Rattle.theory.proofs.DemandThree.{terms_are, few_classes, model_assignment, model_holds, demand_three}
use Rattle.theory.proofs.AnswerLaws.{answer_impossible}
use Rattle.clauses.specs.Clauses.{clauses_of}
use Rattle.clauses.specs.Meaning.{Truth, clause_true, Satisfies, Satisfiable}
use Rattle.clauses.specs.Models.{model_said, truth_said}
use Rattle.clauses.proofs.WalkLaws.{each_triple, each_pair}
use Rattle.clauses.proofs.DeclaredLaws.{each_declared}
use Rattle.clauses.proofs.PlacedLaws.{IsPlaced, model_placed}
use Rattle.clauses.proofs.MeaningLaws.{same_said}
use Rattle.clauses.proofs.SaidLaws.{Holds, Says, truth_says, same_is, met_satisfies, satisfied_met}
use Rattle.clauses.proofs.SatisfiedLaws.{model_said_lem}

-- the truth values say this pattern of the element names: a and b are the same if they are one name, or their pair's variable is true
abbrev pub SaysPattern : Question → Truth → (ℕ → ℕ → Bool) → Type 0
SaysPattern q truth pattern = (a b : ℕ) → a < q.elements → b < q.elements → same_said (terms_of q) q.sets truth a b ≡ pattern a b

-- some truth values satisfy the clauses and say the pattern
pub record SatisfiableWith (q : Question) (pattern : ℕ → ℕ → Bool) : Type 0 where
  pub by : Truth
  pub satisfies : Satisfies by (clauses_of q)
  pub patterned : SaysPattern q by pattern

-- the model that truth values say, and the truth values that a solution says
abbrev pub model_from : Question → Truth → Solution
model_from q truth = model_said (terms_of q) q.sets truth

abbrev pub truth_from : Question → Solution → Truth
truth_from q sol = truth_said (terms_of q) q.sets sol

module _ (q : Question) (accepted : IsAccepted q) where
  -- truth values that satisfy the clauses say their model
  pub satisfied_says : (truth : Truth) → Satisfies truth (clauses_of q) → Says (terms_of q) q.sets truth (model_from q truth)
  satisfied_says truth h =
      let every : Every (Holds truth) (clauses_of q) = all_every (clause_true truth) (clauses_of q) h in
      model_said_lem (terms_of q) q.sets truth (each_triple (Holds truth) (terms_of q) q.sets (row_list q) every) (each_pair (Holds truth) (terms_of q) q.sets (row_list q) every)

  -- which is a solution
  pub satisfied_solves : (truth : Truth) → Satisfies truth (clauses_of q) → Solves q (model_from q truth)
  satisfied_solves truth h =
      let is : IsPlaced _ _ (model_from q truth) = model_placed (terms_of q) q.sets truth in
      record {
        arranged = is.arranged;
        each_term = is.long;
        each_class = is.each_class;
        masks_below = is.masks_below;
        rows_met = satisfied_met (terms_of q) q.sets truth (model_from q truth) (satisfied_says truth h) (row_list q) (each_declared q accepted) h;
      }

  -- the truth values of a solution satisfy the clauses
  pub solution_satisfies : (sol : Solution) → Solves q sol → Satisfies (truth_from q sol) (clauses_of q)
  solution_satisfies sol s = met_satisfies (terms_of q) q.sets (truth_from q sol) sol (truth_says (terms_of q) q.sets sol) (row_list q) (each_declared q accepted) s.rows_met

  -- the clauses can be satisfied exactly if the reduced table has a solution
  pub satisfiable_exactly : Satisfiable (clauses_of q) ↔ ((sol : Solution) × Solves q sol)
  satisfiable_exactly = (λ s. (model_from q s.by, satisfied_solves s.by s.satisfies), λ s. record { by = truth_from q s.0; satisfies = solution_satisfies s.0 s.1 })

  -- exactly if some assignment over a finite domain meets the statements
  pub possible_exactly : Satisfiable (clauses_of q) ↔ CanHold q.elements (statements q)
  possible_exactly = (to, from)
    where
      to : Satisfiable (clauses_of q) → CanHold q.elements (statements q)
      to s = let sol = satisfiable_exactly.0 s in record { by = as_model sol.0; assignment = model_assignment q accepted sol.0 sol.1; holding = model_holds q accepted sol.0 sol.1 }

      from : CanHold q.elements (statements q) → Satisfiable (clauses_of q)
      from c = let s = (few_classes q accepted c.by c.assignment c.holding).0 in satisfiable_exactly.1 (s.by, s.solution)

  -- they can't exactly if no assignment does, which is when the answer is impossible
  pub impossible_exactly : (Satisfiable (clauses_of q) → ⊥) ↔ CantHold q.elements (statements q)
  impossible_exactly = (λ no A is h. no (possible_exactly.1 (record { by = A; assignment = is; holding = h })), λ cant s. let c = possible_exactly.0 s in cant c.by c.assignment c.holding)

  pub unsatisfiable_answer : (Satisfiable (clauses_of q) → ⊥) ↔ (answer q ≡ none)
  unsatisfiable_answer = (λ no. (answer_impossible q accepted).1 (impossible_exactly.0 no), λ e. impossible_exactly.1 ((answer_impossible q accepted).0 e))

  -- truth values say the pattern that the classes of a solution that they say have
  same_classes : (truth : Truth) (sol : Solution) → Says (terms_of q) q.sets truth sol → (a b : ℕ) → a < q.elements → b < q.elements →
      same_said (terms_of q) q.sets truth a b ≡ eqb (class_of sol.arrangement a) (class_of sol.arrangement b)
  same_classes truth sol says a b la lb = sym (same_is (terms_of q) q.sets truth sol says a b (omega (arith, terms_are q)) (omega (arith, terms_are q)))

  -- so the pattern may be read off the pair variables, or off the classes of the model
  pub pattern_read : (truth : Truth) → Satisfies truth (clauses_of q) → (pattern : ℕ → ℕ → Bool) → SaysPattern q truth pattern ↔ HasPattern q.elements (class_of (model_from q truth).arrangement) pattern
  pattern_read truth h pattern = (
    λ p a b la lb. sym (same_classes truth (model_from q truth) (satisfied_says truth h) a b la lb) ∙ p a b la lb,
    λ p a b la lb. same_classes truth (model_from q truth) (satisfied_says truth h) a b la lb ∙ p a b la lb,
  )

  -- with a pattern of equal names the clauses can be satisfied exactly if the question is possible with that pattern
  pub pattern_exactly : (pattern : ℕ → ℕ → Bool) → SatisfiableWith q pattern ↔ Possible q pattern
  pattern_exactly pattern = (to, from)
    where
      to : SatisfiableWith q pattern → Possible q pattern
      to s = (demand_three q accepted pattern).1 (record { by = model_from q s.by; solution = satisfied_solves s.by s.satisfies; patterned = (pattern_read s.by s.satisfies pattern).0 s.patterned })

      from : Possible q pattern → SatisfiableWith q pattern
      from p = let s = (demand_three q accepted pattern).0 p in record {
        by = truth_from q s.by;
        satisfies = solution_satisfies s.by s.solution;
        patterned = λ a b la lb. same_classes (truth_from q s.by) s.by (truth_says (terms_of q) q.sets s.by) a b la lb ∙ s.patterned a b la lb;
      }
