-- The lowest earlier term whose pair variable is true, as the search finds it; that it is an earlier one holds for any test.
use Rattle.std.proofs.Common.{rules, tests, ℕ, get_or, ◌≤◌, ◌<◌, Bool, refl, sym, ap, subst, ◌∙◌, arith}
use Rattle.std.specs.Option.{MatchOption}
use Rattle.std.proofs.lemmas.Iterator.{YieldsList-from_range, first_from_Range}
use Rattle.std.proofs.lemmas.Iterator.Search.{find_from_yields_List}
use Rattle.clauses.specs.Variables.{pair_variable}
use Rattle.solved.specs.Said.{class_by, said_truth}
use Rattle.solved.proofs.ModelLaws.{as_found, lowest}
use Rattle.solved.proofs.models.SaidModel.class.Goals as goal

pub bounds-self-c : goal.bounds-self-c
bounds-self-c c =
    let d = c.args.d in
    let none = (k : ℕ) → 0 ≤ k → k < d → Unit {0} in
    let earlier = subst (λ o. MatchOption o none (λ k. (0 ≤ k) × (k < d) × Unit {0} × ((j : ℕ) → 0 ≤ j → j < k → Unit {0}))) c.in-Some.is
    (first_from_Range (record { start = 0; end = d }) _ _ c.find.result (λ _. Unit {0}) (λ _. Unit {0}) c.find.ensures.ran (λ x q k. tt) (λ x q k. search rules)) in
    omega (arith, earlier.1)

pub returns-in-Some : goal.returns-in-Some
returns-in-Some c =
    let a = c.args in
    let p : ℕ → Bool = λ x. said_truth a.said.now (pair_variable a.said.now.terms 0 x a.d) in
    let found = find_from_yields_List p _ _ c.find.result c.find.ensures.ran (YieldsList-from_range 0 a.d a.d refl (omega arith)) (λ x b q k. search (rules, tests)) in
    ap (λ i. get_or a.self.now.arrangement i 0) (omega arith) ∙ ap (λ o. class_by a.self.now.arrangement a.self.now.classes (as_found o)) (sym c.in-Some.is) ∙ ap (class_by a.self.now.arrangement a.self.now.classes) (lowest p a.d c.find.result found)

pub returns-in-None : goal.returns-in-None
returns-in-None c =
    let a = c.args in
    let p : ℕ → Bool = λ x. said_truth a.said.now (pair_variable a.said.now.terms 0 x a.d) in
    let found = find_from_yields_List p _ _ c.find.result c.find.ensures.ran (YieldsList-from_range 0 a.d a.d refl (omega arith)) (λ x b q k. search (rules, tests)) in
    ap (λ o. class_by a.self.now.arrangement a.self.now.classes (as_found o)) (sym c.in-None.is) ∙ ap (class_by a.self.now.arrangement a.self.now.classes) (lowest p a.d c.find.result found)
