-- Truth values that say a solution: its classes by the pair variables, its masks by the others. They satisfy the clauses exactly if it solves the rows.
use Prim.Native.Nat.{ℕ, ◌≤◌, ◌<◌}
use mathlib.Core.Path.{◌≡◌, refl, sym, ap, subst, ◌∙◌}
use mathlib.Core.Bool.{Bool, true, false, not, ◌||◌, cond}
use mathlib.Core.List.{List}
use native.Mathlib.Omega.{arith}
use borrow.Author.Tests.{ltb-true, ltb-false, eqb-true, eqb-false, eq-eqb}
use lib.Dec.{T, eqb, ltb}
use Rattle.outcome.proofs.Never.{never}
use Rattle.question.specs.Masks.{bit}
use Rattle.statement.proofs.TestLaws.{same_eqb}
use Rattle.theory.specs.Lists.{Every, all_of}
use Rattle.theory.specs.Arrangements.{class_of, in_class}
use Rattle.theory.specs.Rules.{Row}
use Rattle.theory.specs.Solutions.{Solution, mask_of, all_rows, met}
use Rattle.theory.specs.Sets.{Test, fits, row_declared}
use Rattle.theory.proofs.ListLaws.{every_both, all_every, every_all}
use Rattle.theory.proofs.PlaceLaws.{declared_term, declared_places}
use Rattle.clauses.specs.Variables.{pair_variable, in_variable}
use Rattle.clauses.specs.Clauses.{Clause, row_clauses, table_clauses}
use Rattle.clauses.specs.Meaning.{Truth, clause_true, Satisfies}
use Rattle.clauses.specs.Models.{truth_said}
use Rattle.clauses.proofs.WalkLaws.{EachTriple, EachPair, EachRow, every_clause, each_row}
use Rattle.clauses.proofs.VariableLaws.{truth_pair, truth_in_lem}
use Rattle.clauses.proofs.MeaningLaws.{same_said, row_means}

-- the clause is true
abbrev pub Holds : Truth → Clause → Type 0
Holds truth c = T (clause_true truth c)

-- of the first d terms, the truth values say the solution's classes and masks
pub record SaysUpTo (terms sets : ℕ) (truth : Truth) (d : ℕ) (sol : Solution) : Type 0 where
  pub pair_is : (b c : ℕ) → b < c → c < d → truth (pair_variable terms sets b c) ≡ eqb (class_of sol.arrangement b) (class_of sol.arrangement c)
  pub in_is : (c x : ℕ) → c < d → x < sets → truth (in_variable terms sets c x) ≡ bit (mask_of sol.masks (class_of sol.arrangement c)) x

-- of all terms
abbrev pub Says : ℕ → ℕ → Truth → Solution → Type 0
Says terms sets truth sol = SaysUpTo terms sets truth terms sol

-- the truth values made of a solution say it
pub truth_says : (terms sets : ℕ) (sol : Solution) → Says terms sets (truth_said terms sets sol) sol
truth_says terms sets sol = record { pair_is = truth_pair terms sets sol; in_is = truth_in_lem terms sets sol }

pub eqb_swap : (a b : ℕ) → eqb a b ≡ eqb b a
eqb_swap a b = same_eqb a b b a (λ e. sym e) (λ e. sym e)

-- a clause of two denials and a variable: where both are true, so is the third
pub made : (p q r : Bool) → (p ≡ true → q ≡ true → r ≡ true) → T (not p || (not q || (r || false)))
made true true true h = tt
made true true false h = never (let e : false ≡ true = h refl refl in cc)
made true false r h = tt
made false q r h = tt

pub makes : (p q r : Bool) → T (not p || (not q || (r || false))) → p ≡ true → q ≡ true → r ≡ true
makes true true true h e f = refl
makes true true false h e f = absurd h
makes true false r h e f = never cc
makes false q r h e f = never cc

module _ (terms sets : ℕ) (truth : Truth) (sol : Solution) (says : Says terms sets truth sol) where
  abbrev class : ℕ → ℕ
  class c = class_of sol.arrangement c

  -- in whichever order a pair is named, its variable says whether the two are the same
  pub same_is : (c d : ℕ) → c < terms → d < terms → eqb (class c) (class d) ≡ same_said terms sets truth c d
  same_is c d ct dt = go (eqb c d) refl (ltb c d) refl
    where
      go : (b : Bool) → eqb c d ≡ b → (t : Bool) → ltb c d ≡ t → eqb (class c) (class d) ≡ (b || truth (cond t (pair_variable terms sets c d) (pair_variable terms sets d c)))
      go true e t f = eq-eqb (class c) (class d) (ap class (eqb-true c d e))
      go false e true f = sym (says.pair_is c d (ltb-true c d f) dt)
      go false e false f =
          let ne = eqb-false c d e in
          let le : d ≤ c = ltb-false c d f in
          eqb_swap (class c) (class d) ∙ sym (says.pair_is d c (omega arith) ct)

  -- a declared row is met exactly if its clauses are true
  pub row_is : (r : Row Test) → T (row_declared terms sets r) → met fits sol.arrangement sol.masks r ≡ all_of (clause_true truth) (row_clauses terms sets r)
  row_is r h =
      let ct : r.term < terms = declared_term terms sets r h in
      row_means terms sets truth r.term (bit (mask_of sol.masks (class r.term))) (in_class sol.arrangement (class r.term))
      (λ x xs. sym (says.in_is r.term x ct xs)) (λ d dt. same_is r.term d ct dt) r.test (declared_places terms sets r h)

  -- the clauses of the triples, and those of the pairs and sets
  pub triples_hold : EachTriple (Holds truth) terms sets
  triples_hold b c d bc cd dt = (
    made (truth vbc) (truth vcd) (truth vbd) (λ e f. to b d vbd (says.pair_is b d (omega arith) dt) (from b c vbc ebc e ∙ from c d vcd ecd f)),
    (
      made (truth vbc) (truth vbd) (truth vcd) (λ e f. to c d vcd ecd (sym (from b c vbc ebc e) ∙ from b d vbd ebd f)),
      (made (truth vbd) (truth vcd) (truth vbc) (λ e f. to b c vbc ebc (from b d vbd ebd e ∙ sym (from c d vcd ecd f))), tt),
    ),
  )
    where
      vbc : ℕ
      vbc = pair_variable terms sets b c

      vcd : ℕ
      vcd = pair_variable terms sets c d

      vbd : ℕ
      vbd = pair_variable terms sets b d

      ebc : truth vbc ≡ eqb (class b) (class c)
      ebc = says.pair_is b c bc (omega arith)

      ecd : truth vcd ≡ eqb (class c) (class d)
      ecd = says.pair_is c d cd dt

      ebd : truth vbd ≡ eqb (class b) (class d)
      ebd = says.pair_is b d (omega arith) dt

      from : (i j v : ℕ) → truth v ≡ eqb (class i) (class j) → truth v ≡ true → class i ≡ class j
      from i j v is e = eqb-true (class i) (class j) (sym is ∙ e)

      to : (i j v : ℕ) → truth v ≡ eqb (class i) (class j) → class i ≡ class j → truth v ≡ true
      to i j v is e = is ∙ eq-eqb (class i) (class j) e

  pub pairs_hold : EachPair (Holds truth) terms sets
  pairs_hold c d x cd dt xs = (made (truth v) (truth p) (truth q) (λ e f. sym (same e) ∙ f), (made (truth v) (truth q) (truth p) (λ e f. same e ∙ f), tt))
    where
      v : ℕ
      v = pair_variable terms sets c d

      p : ℕ
      p = in_variable terms sets c x

      q : ℕ
      q = in_variable terms sets d x

      same : truth v ≡ true → truth p ≡ truth q
      same e = says.in_is c x (omega arith) xs ∙ ap (λ k. bit (mask_of sol.masks k) x) (eqb-true (class c) (class d) (sym (says.pair_is c d cd dt) ∙ e)) ∙ sym (says.in_is d x dt xs)

  module _ (rows : List (Row Test)) (declared : Every (λ r. T (row_declared terms sets r)) rows) where
    -- where the rows are met, every clause is true
    pub met_satisfies : T (all_rows (met fits sol.arrangement sol.masks) rows) → Satisfies truth (table_clauses terms sets rows)
    met_satisfies h = every_all (clause_true truth) (table_clauses terms sets rows) (every_clause (Holds truth) terms sets rows triples_hold pairs_hold each)
      where
        each : EachRow (Holds truth) terms sets rows
        each = every_both (λ r. T (row_declared terms sets r)) (λ r. T (met fits sol.arrangement sol.masks r)) (λ r. Every (Holds truth) (row_clauses terms sets r))
            (λ r d m. all_every (clause_true truth) (row_clauses terms sets r) (subst T (row_is r d) m)) rows declared (all_every (met fits sol.arrangement sol.masks) rows h)

    -- where every clause is true, the rows are met
    pub satisfied_met : Satisfies truth (table_clauses terms sets rows) → T (all_rows (met fits sol.arrangement sol.masks) rows)
    satisfied_met h = every_all (met fits sol.arrangement sol.masks) rows
        (every_both (λ r. T (row_declared terms sets r)) (λ r. Every (Holds truth) (row_clauses terms sets r)) (λ r. T (met fits sol.arrangement sol.masks r))
        (λ r d m. subst T (sym (row_is r d)) (every_all (clause_true truth) (row_clauses terms sets r) m)) rows declared
        (each_row (Holds truth) terms sets rows (all_every (clause_true truth) (table_clauses terms sets rows) h)))
