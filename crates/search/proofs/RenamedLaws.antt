-- From the first model of renamed rows to that of the rows.
use Prim.Native.Nat.{ℕ, ◌-◌, ◌^◌, ◌≤◌, ◌<◌}
use mathlib.Core.Path.{◌≡◌, refl, sym, ap, subst, ◌∙◌}
use mathlib.Core.List.{List, map}
use mathlib.Core.Option.{Option as Possibly, none, some}
use native.Mathlib.Omega.{arith}
use lib.Dec.{T}
use Rattle.std.proofs.Common.{Some, None}
use Rattle.outcome.proofs.Never.{never}
use lib.ListN.{length, get_or, take, replicate, length-append, length-replicate}
use lib.Seq.{take_at, drop_at, get_or-take}
use Rattle.question.specs.Limits.{max_terms, max_sets}
use Rattle.theory.specs.Arrangements.{classes}
use Rattle.theory.specs.Rules.{Row}
use Rattle.theory.specs.Solutions.{Solution, all_rows, SameRows, IsSolution}
use Rattle.theory.specs.FirstModels.{model_of, first_model}
use Rattle.theory.specs.Sets.{Test, fits, row_declared}
use Rattle.theory.specs.Renamings.{renamed_row, IsRenaming}
use Rattle.theory.proofs.ArrangementLaws.{classes_few, class_below}
use Rattle.theory.proofs.FirstModelLaws.{first_model_first}
use Rattle.theory.proofs.SameRowLaws.{model_same}
use Rattle.theory.proofs.RenamingLaws.{rows_stay, renamed_below, none_renamed, some_renamed}
use Rattle.row.specs.Rows.{row_of}
use Rattle.mask.specs.Entries.{rows_of_entries}
use Rattle.search.specs.declared.answers.Found.{Found}
use Rattle.search.specs.Answers.{shown}
use Rattle.outcome.specs.Padded.{padded}
use Rattle.search.specs.Renamings.{new_name}
use Rattle.search.specs.Entries.{Gathered}
use Rattle.search.specs.Placings.{Placing}
use Rattle.search.proofs.PlacingLaws.{placed_length, placing_counted}
use Rattle.search.proofs.StepLaws.{shows_none}
use Rattle.search.proofs.RenamingLaws.{plain, plain_stays}

-- what is shown of a model
pub shows : (o : Possibly Solution) (f : Found) → Some f ≡ shown o → (sol : Solution) × (o ≡ some sol) × (f.arrangement ≡ padded max_terms sol.arrangement)
shows none f e = never cc
shows (some sol) f e = (sol, refl, cc)

-- the array of a solution's arrangement has all terms placed
placing_whole : (l : List ℕ) (terms : ℕ) → terms ≤ max_terms → length l ≡ terms → classes l ≤ length l → Placing (padded max_terms l) terms (classes l)
placing_whole l terms few long fewer = record {
  long = length-append l (replicate (max_terms - length l) 0) ∙ omega (arith, length-replicate {A = ℕ} (max_terms - length l) 0);
  few_terms = few;
  few_classes = omega arith;
  counted = ap classes (sym (take_at l (replicate (max_terms - length l) 0) terms long));
  rest_zero = drop_at l (replicate (max_terms - length l) 0) terms long ∙ ap (λ n. replicate (max_terms - n) 0) long;
}

-- a term's class is one of twelve
pub class_few : {arrangement : List ℕ} {placed used : ℕ} → Placing arrangement placed used → (t : ℕ) → t < placed → get_or arrangement t 0 < max_terms
class_few {arrangement} {placed} {used} here t lt =
    let low : get_or (take placed arrangement) t 0 < classes (take placed arrangement) = class_below 0 (take placed arrangement) t (omega (arith, placed_length here)) in
    omega (arith, low, get_or-take placed arrangement t 0 lt, here.counted, here.few_classes, here.few_terms)

module _ (terms sets : ℕ) (rows : List ℕ) (declared : T (all_rows (row_declared terms sets) (map row_of rows))) where
  -- the rows that the numbers say
  abbrev said : List (Row Test)
  said = map row_of rows

  -- entries gathered with the plain numbers say them
  pub plain_says : sets ≤ max_sets → (count : ℕ) (table : List ℕ) → Gathered plain rows count table → SameRows (rows_of_entries (take count table)) said
  plain_says few count table all f = all.says f ∙ ap (all_rows f) (rows_stay terms sets (new_name plain) (plain_stays sets few) said declared)

  -- searched with the plain numbers
  pub first_plain : sets ≤ max_sets → first_model fits terms (2 ^ sets) (map (renamed_row (new_name plain)) said) ≡ first_model fits terms (2 ^ sets) said
  first_plain few = ap (first_model fits terms (2 ^ sets)) (rows_stay terms sets (new_name plain) (plain_stays sets few) said declared)

  -- the masks under the plain numbers
  pub model_plain : sets ≤ max_sets → (count : ℕ) (table : List ℕ) → Gathered plain rows count table → (l : List ℕ) → model_of fits (2 ^ sets) (rows_of_entries (take count table)) l ≡ model_of fits (2 ^ sets) said l
  model_plain few count table all l = model_same fits (2 ^ sets) (rows_of_entries (take count table)) said (plain_says few count table all) l

  module _ (to back : List ℕ) (renaming : IsRenaming sets (new_name to) (λ x. get_or back x 0)) where
    abbrev renamed : List (Row Test)
    renamed = map (renamed_row (new_name to)) said

    -- none is found: there is none
    pub none_found : None ≡ shown (first_model fits terms (2 ^ sets) renamed) → None ≡ shown (first_model fits terms (2 ^ sets) said)
    none_found is = ap shown (sym (none_renamed terms sets (new_name to) (λ x. get_or back x 0) renaming said declared (shows_none (first_model fits terms (2 ^ sets) renamed) is)))

    module _ (found : Found) (is : Some found ≡ shown (first_model fits terms (2 ^ sets) renamed)) (few : terms ≤ max_terms) where
      abbrev model : (sol : Solution) × (first_model fits terms (2 ^ sets) renamed ≡ some sol) × (found.arrangement ≡ padded max_terms sol.arrangement)
      model = shows (first_model fits terms (2 ^ sets) renamed) found is

      solved : IsSolution fits terms (2 ^ sets) renamed model.0
      solved = ((first_model_first fits terms (2 ^ sets) renamed (renamed_below terms sets (new_name to) said declared) model.0).0 model.1).solution

      -- all terms are placed
      pub found_placing : Placing found.arrangement terms (classes (take terms found.arrangement))
      found_placing = placing_counted (subst (λ l. Placing l terms (classes model.0.arrangement)) (sym model.2)
          (placing_whole model.0.arrangement terms few solved.each_term (omega (arith, classes_few 0 model.0.arrangement solved.arranged))))

      -- the model of the same arrangement is the first one
      pub found_again : model_of fits (2 ^ sets) said (take terms found.arrangement) ≡ first_model fits terms (2 ^ sets) said
      found_again = ap (λ l. model_of fits (2 ^ sets) said (take terms l)) model.2
          ∙ ap (model_of fits (2 ^ sets) said) (take_at model.0.arrangement (replicate (max_terms - length model.0.arrangement) 0) terms solved.each_term)
          ∙ sym (some_renamed terms sets (new_name to) (λ x. get_or back x 0) renaming said declared model.0 model.1)
