-- The first model: what `first_model` gives is the one first model there is, and it gives nothing exactly where there is no solution.
use Prim.Native.Nat.{ℕ}
use mathlib.Core.Path.{◌≡◌, refl, sym, ap, subst, ◌∙◌}
use mathlib.Core.Bool.{Bool}
use mathlib.Core.List.{List}
use mathlib.Core.Option.{Option, none, some}
use mathlib.Core.Logic.{inl, inr, ◌↔◌}
use Rattle.theory.specs.Arrangements.{Before}
use Rattle.theory.specs.Searches.{first_placing}
use Rattle.theory.specs.Rules.{Row}
use Rattle.theory.specs.Solutions.{Solution, IsSolution}
use Rattle.theory.specs.FirstModels.{model_of, first_model, IsFirstModel}
use Rattle.theory.proofs.ArrangementLaws.{Compared, compared}
use Rattle.theory.proofs.SearchLaws.{FirstPlacedIs, first_placing_is}
use Rattle.theory.proofs.RuleLaws.{TermsBelow}
use Rattle.theory.proofs.MaskLaws.{ModelIs, model_of_is, smallest_one}

module _ {Test : Type 0} (fits : ℕ → (ℕ → Bool) → Test → Bool) (terms bound : ℕ) (rows : List (Row Test)) where
  -- two first models are equal
  pub first_models_equal : (one other : Solution) → IsFirstModel fits terms bound rows one → IsFirstModel fits terms bound rows other → one ≡ other
  first_models_equal one other p q = go (compared one.arrangement other.arrangement (p.solution.each_term ∙ sym q.solution.each_term))
    where
      go : Compared one.arrangement other.arrangement → one ≡ other
      go (inl b) = absurd (q.no_earlier one p.solution b)
      go (inr (inl e)) = smallest_one fits bound rows terms one other e p.solution q.solution p.smallest q.smallest
      go (inr (inr b)) = absurd (p.no_earlier other q.solution b)

  -- what is found: the first model, or there is no solution
  abbrev FoundIs : Option Solution → Type 0
  FoundIs none = (sol : Solution) → IsSolution fits terms bound rows sol → ⊥
  FoundIs (some sol) = IsFirstModel fits terms bound rows sol

  module _ (below : TermsBelow terms rows) where
    never : (sol : Solution) → IsSolution fits terms bound rows sol → model_of fits bound rows sol.arrangement ≡ none → ⊥
    never sol s e = subst (ModelIs fits bound rows terms sol.arrangement) e (model_of_is fits bound rows terms below sol.arrangement s.arranged s.each_term) sol.masks s

    found_is : FoundIs (first_model fits terms bound rows)
    unfolding first_model
    found_is = go (first_placing terms 0 (model_of fits bound rows)) (first_placing_is terms 0 (model_of fits bound rows))
      where
        go : (o : Option Solution) → FirstPlacedIs terms 0 (model_of fits bound rows) o → FoundIs o
        go none h = λ sol s. never sol s (h sol.arrangement s.arranged s.each_term)
        go (some sol) h = let m = subst (ModelIs fits bound rows terms h.at) h.gives (model_of_is fits bound rows terms below h.at h.follows h.long) in record {
          solution = m.1;
          no_earlier = λ other s b. never other s (h.none_before other.arrangement s.arranged s.each_term (subst (Before other.arrangement) m.0 b));
          smallest = m.2;
        }

    -- what `first_model` gives is a first model, and every first model is what it gives
    pub first_model_first : (sol : Solution) → (first_model fits terms bound rows ≡ some sol) ↔ IsFirstModel fits terms bound rows sol
    first_model_first sol = (λ e. subst FoundIs e found_is, λ h. go h (first_model fits terms bound rows) found_is)
      where
        go : IsFirstModel fits terms bound rows sol → (o : Option Solution) → FoundIs o → o ≡ some sol
        go h none f = absurd (f sol h.solution)
        go h (some other) f = ap (λ s. some s) (first_models_equal other sol f h)

    -- it gives nothing exactly where there is no solution
    pub first_model_none : (first_model fits terms bound rows ≡ none) ↔ ((sol : Solution) → IsSolution fits terms bound rows sol → ⊥)
    first_model_none = (λ e. subst FoundIs e found_is, λ h. go h (first_model fits terms bound rows) found_is)
      where
        go : ((sol : Solution) → IsSolution fits terms bound rows sol → ⊥) → (o : Option Solution) → FoundIs o → o ≡ none
        go h none f = refl
        go h (some sol) f = absurd (h sol f.solution)
