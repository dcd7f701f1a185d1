-- The answer to rows that are handed in: which way it goes, and what a verdict is worth.
use Rattle.std.proofs.Common.{Option, Some, None, Result, Ok}
use Prim.Native.Nat.{ℕ, ◌-◌, ◌^◌}
use mathlib.Core.Path.{◌≡◌, refl, sym, ap, ◌∙◌}
use mathlib.Core.List.{List, [], map}
use mathlib.Core.Option.{Option as Possibly, none, some}
use Rattle.outcome.proofs.Never.{never}
use Rattle.outcome.specs.declared.refusals.Refusal.{Refusal}
use Rattle.theory.specs.Rules.{Row}
use Rattle.theory.specs.Solutions.{Solution, IsSolution}
use Rattle.theory.specs.FirstModels.{first_model, IsFirstModel}
use Rattle.theory.specs.Sets.{Test, fits}
use Rattle.theory.proofs.RuleLaws.{TermsBelow}
use Rattle.theory.proofs.FirstModelLaws.{first_model_first, first_model_none}
use Rattle.theory.proofs.RowListLaws.{declared_below}
use Rattle.row.specs.Rows.{row_of}
use Rattle.row.specs.Checks.{rows_checked}
use Rattle.row.proofs.AcceptedRows.{rows_keep, all_declared}
use Rattle.mask.specs.Entries.{rows_of_entries}
use native.Mathlib.Omega.{arith}
use Rattle.cut.specs.Behind.{found_behind}
use Rattle.cut.proofs.BehindLaws.{behind_nothing}
use Rattle.search.specs.declared.answers.Found.{Found}
use Rattle.search.specs.Answers.{shown, answer_of, searched}
use Rattle.search.specs.Tasks.{Task}
use Rattle.outcome.specs.Padded.{padded}
use Rattle.question.specs.Limits.{max_terms}
use Rattle.search.specs.Placings.{found}

-- with no term placed, what is found is the first model
pub found_first : (task : Task) → found task (padded max_terms []) 0 ≡ first_model fits task.terms (2 ^ task.sets) (rows_of_entries task.entries)
found_first task = let all : task.terms - 0 ≡ task.terms = omega arith in ap (found_behind fits (2 ^ task.sets) (rows_of_entries task.entries) []) all ∙ behind_nothing fits (2 ^ task.sets) (rows_of_entries task.entries) task.terms

module _ (terms sets : ℕ) (rows : List ℕ) where
  -- the rows that the numbers say, and what is found: the first model of those
  abbrev said : List (Row Test)
  said = map row_of rows

  abbrev first : Possibly Solution
  first = first_model fits terms (2 ^ sets) said

  module _ (accepted : rows_checked terms sets rows ≡ Ok tt) where
    below : TermsBelow terms said
    below = declared_below terms sets said (all_declared terms sets rows (rows_keep terms sets rows accepted).all_good)

    pub searched_accepted : searched terms sets rows ≡ answer_of first
    unfolding searched
    searched_accepted = rw accepted

    found_of : (o : Option Found) → searched terms sets rows ≡ Ok o → shown first ≡ o
    found_of o e = let both : ◌≡◌ {A = Result (Option Found) Refusal} (Ok (shown first)) (Ok o) = sym searched_accepted ∙ e in cc

    -- a model is found: it is the first model
    pub possible_worth : (f : Found) → searched terms sets rows ≡ Ok (Some f) → (sol : Solution) × IsFirstModel fits terms (2 ^ sets) said sol × (shown (some sol) ≡ Some f)
    possible_worth f e = go first refl (found_of (Some f) e)
      where
        go : (o : Possibly Solution) → first ≡ o → shown o ≡ Some f → (sol : Solution) × IsFirstModel fits terms (2 ^ sets) said sol × (shown (some sol) ≡ Some f)
        go none p s = never cc
        go (some sol) p s = (sol, (first_model_first fits terms (2 ^ sets) said below sol).0 p, s)

    -- none is found: there is no solution
    pub impossible_worth : searched terms sets rows ≡ Ok None → (sol : Solution) → IsSolution fits terms (2 ^ sets) said sol → ⊥
    impossible_worth e = go first refl (found_of None e)
      where
        go : (o : Possibly Solution) → first ≡ o → shown o ≡ None → (sol : Solution) → IsSolution fits terms (2 ^ sets) said sol → ⊥
        go none p s = (first_model_none fits terms (2 ^ sets) said below).0 p
        go (some sol) p s = never cc
