-- One call of the recursion: how its loop over the class numbers goes, and what the calls inside it are about.
use Prim.Native.Nat.{ℕ, suc, ◌+◌, ◌-◌, ◌^◌, ◌≤◌, ◌<◌}
use mathlib.Core.Path.{◌≡◌, refl, sym, ap, ◌∙◌}
use mathlib.Core.Bool.{true, false, true≢false, false≢true}
use mathlib.Core.List.{List, [], ◌∷◌, ◌++◌}
use mathlib.Core.Option.{Option as Possibly, none, some}
use native.Mathlib.Omega.{arith}
use lib.ListN.{take, set}
use Rattle.std.proofs.Common.{Option, None, is_some}
use Rattle.outcome.proofs.Never.{never}
use Rattle.question.specs.Limits.{max_terms}
use Rattle.theory.specs.Searches.{first_from}
use Rattle.theory.specs.Solutions.{Solution}
use Rattle.theory.specs.FirstModels.{model_of}
use Rattle.theory.specs.Sets.{fits}
use Rattle.theory.proofs.LoopLaws.{FromHere, loop_start, loop_miss, loop_hit, loop_end}
use Rattle.mask.specs.Entries.{rows_of_entries}
use Rattle.cut.specs.Behind.{found_behind}
use Rattle.cut.proofs.BehindLaws.{behind_all, behind_step}
use Rattle.search.specs.declared.answers.Found.{Found}
use Rattle.search.specs.Answers.{shown}
use Rattle.search.specs.Tasks.{Task}
use Rattle.search.specs.Placings.{Placing, found}
use Rattle.search.proofs.PlacingLaws.{next_taken}

-- what shows a model, and what shows none
pub shows_none : (o : Possibly Solution) → None ≡ shown o → o ≡ none
shows_none none e = refl
shows_none (some sol) e = never cc

abbrev pub modelled : Task → List ℕ → Possibly Solution
modelled task l = model_of fits (2 ^ task.sets) (rows_of_entries task.entries) l

module _ (task : Task) (arrangement : List ℕ) (placed : ℕ) where
  -- no term is left: the model of the arrangement
  pub whole : placed ≡ task.terms → found task arrangement placed ≡ modelled task (take placed arrangement)
  whole e = let none_left : task.terms - placed ≡ 0 = omega arith in
      ap (found_behind fits (2 ^ task.sets) (rows_of_entries task.entries) (take placed arrangement)) none_left ∙ behind_all fits (2 ^ task.sets) (rows_of_entries task.entries) (take placed arrangement)

  -- what is found with the next term in the class c
  abbrev pub found_in : ℕ → Possibly Solution
  found_in c = found_behind fits (2 ^ task.sets) (rows_of_entries task.entries) (take placed arrangement ++ (c ∷ [])) (task.terms - (placed + 1))

  module _ (used : ℕ) where
    -- the loop stands before the class c: what is found is what is found from there on
    abbrev pub Before : ℕ → Type 0
    Before c = FromHere (suc used) found_in (found task arrangement placed) c

    module _ (here : Placing arrangement placed used) where
      pub before_first : placed < task.terms → Before 0
      before_first more = let e : task.terms - placed ≡ suc (task.terms - (placed + 1)) = omega arith in
          loop_start (suc used) found_in (found task arrangement placed) (ap (found_behind fits (2 ^ task.sets) (rows_of_entries task.entries) (take placed arrangement)) e
          ∙ behind_step fits (2 ^ task.sets) (rows_of_entries task.entries) (take placed arrangement) (task.terms - (placed + 1)) ∙ ap (λ u. first_from (suc u) 0 found_in) (sym here.counted))

      -- the call with the next term in the class c is about that
      pub found_next : (c : ℕ) → placed < max_terms → {same : Task} {l : List ℕ} {n : ℕ} → same ≡ task → l ≡ set arrangement placed c → n ≡ placed + 1 → found same l n ≡ found_in c
      found_next c room e f g = rw (e, f, g) (ap (λ p. found_behind fits (2 ^ task.sets) (rows_of_entries task.entries) p (task.terms - (placed + 1))) (next_taken here c room))

    module _ (c : ℕ) (allowed : c ≤ used) (r : Option Found) (is : r ≡ shown (found_in c)) (before : Before c) where
      -- it found a model
      pub class_hit : is_some r ≡ true → r ≡ shown (found task arrangement placed)
      class_hit there = go (found_in c) refl
        where
          go : (o : Possibly Solution) → found_in c ≡ o → r ≡ shown (found task arrangement placed)
          go none e = let lacks : r ≡ None = is ∙ ap shown e in absurd (false≢true (rw lacks at there))
          go (some sol) e = is ∙ ap shown (e ∙ sym (loop_hit (suc used) found_in (found task arrangement placed) c sol (omega arith) e before))

      -- it found none
      pub class_miss : is_some r ≡ false → Before (c + 1)
      class_miss lacks = go (found_in c) refl
        where
          go : (o : Possibly Solution) → found_in c ≡ o → Before (c + 1)
          go none e = loop_miss (suc used) found_in (found task arrangement placed) c (omega arith) e before
          go (some sol) e = let there : r ≡ shown (some sol) = is ∙ ap shown e in absurd (true≢false (rw there at lacks))

    -- every class was tried
    pub class_end : (c : ℕ) → used < c → Before c → found task arrangement placed ≡ none
    class_end c past = loop_end (suc used) found_in (found task arrangement placed) c past
