-- Rows that have solutions in the same arrangements: their first models have one arrangement.
use Prim.Native.Nat.{ℕ}
use mathlib.Core.Path.{◌≡◌, refl, sym, ap, ◌∙◌}
use mathlib.Core.Bool.{Bool}
use mathlib.Core.List.{List}
use mathlib.Core.Logic.{inl, inr}
use mathlib.Core.Option.{Option, none, some}
use Rattle.theory.specs.Rules.{Row}
use Rattle.theory.specs.Solutions.{Solution, with_masks, IsSolution}
use Rattle.theory.specs.FirstModels.{model_of, first_model, IsFirstModel}
use Rattle.theory.proofs.ArrangementLaws.{Compared, compared}
use Rattle.theory.proofs.RuleLaws.{TermsBelow}
use Rattle.theory.proofs.MaskLaws.{ModelIs, model_of_is, smallest_one}
use Rattle.theory.proofs.FirstModelLaws.{first_model_first, first_model_none}

-- the arrangement of every solution of some rows has a solution of others
abbrev pub SolvedToo : {Test : Type 0} → (ℕ → (ℕ → Bool) → Test → Bool) → ℕ → ℕ → List (Row Test) → List (Row Test) → Type 0
SolvedToo fits terms bound rows others = (sol : Solution) → IsSolution fits terms bound rows sol → (ms : List ℕ) × IsSolution fits terms bound others (with_masks sol.arrangement ms)

module _ {Test : Type 0} (fits : ℕ → (ℕ → Bool) → Test → Bool) (terms bound : ℕ) (rows others : List (Row Test)) (below : TermsBelow terms rows) (others_below : TermsBelow terms others)
    (to : SolvedToo fits terms bound rows others) (from : SolvedToo fits terms bound others rows) where
  -- the others have none
  pub none_either : first_model fits terms bound others ≡ none → first_model fits terms bound rows ≡ none
  none_either e = (first_model_none fits terms bound rows below).1 (λ sol s. (first_model_none fits terms bound others others_below).0 e (with_masks sol.arrangement (to sol s).0) (to sol s).1)

  -- the others have one: here it is the model of that arrangement
  pub same_arrangement : (sol : Solution) → first_model fits terms bound others ≡ some sol → first_model fits terms bound rows ≡ model_of fits bound rows sol.arrangement
  same_arrangement sol e = go (first_model fits terms bound rows) refl
    where
      their : IsFirstModel fits terms bound others sol
      their = (first_model_first fits terms bound others others_below sol).0 e

      ours : IsSolution fits terms bound rows (with_masks sol.arrangement (from sol their.solution).0)
      ours = (from sol their.solution).1

      model : (mine : Solution) → IsFirstModel fits terms bound rows mine → mine.arrangement ≡ sol.arrangement → (o : Option Solution) → ModelIs fits bound rows terms sol.arrangement o → some mine ≡ o
      model mine first is none m = absurd (m (from sol their.solution).0 ours)
      model mine first is (some other) m = ap (λ s. some s) (smallest_one fits bound rows terms mine other (is ∙ sym m.0) first.solution m.1 first.smallest m.2)

      same : (mine : Solution) → IsFirstModel fits terms bound rows mine → Compared mine.arrangement sol.arrangement → mine.arrangement ≡ sol.arrangement
      same mine first (inl b) = absurd (their.no_earlier (with_masks mine.arrangement (to mine first.solution).0) (to mine first.solution).1 b)
      same mine first (inr (inl q)) = q
      same mine first (inr (inr b)) = absurd (first.no_earlier (with_masks sol.arrangement (from sol their.solution).0) ours b)

      go : (o : Option Solution) → first_model fits terms bound rows ≡ o → first_model fits terms bound rows ≡ model_of fits bound rows sol.arrangement
      go none q = absurd ((first_model_none fits terms bound rows below).0 q (with_masks sol.arrangement (from sol their.solution).0) ours)
      go (some mine) q =
          let first = (first_model_first fits terms bound rows below mine).0 q in
          let is = same mine first (compared mine.arrangement sol.arrangement (first.solution.each_term ∙ sym their.solution.each_term)) in
          q ∙ model mine first is (model_of fits bound rows sol.arrangement) (model_of_is fits bound rows terms below sol.arrangement their.solution.arranged their.solution.each_term)
