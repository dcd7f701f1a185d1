-- All terms are placed: the masks of the classes one after another, as far as they go.
use Prim.Native.Nat.{ℕ, ◌+◌, ◌^◌, ◌≤◌, ◌<◌}
use mathlib.Core.Path.{◌≡◌, refl, sym, ap, subst, ◌∙◌}
use mathlib.Core.List.{List}
use mathlib.Core.Option.{Option, none, some, map, none-ne-some, some-ne-none, some-injective}
use native.Mathlib.Omega.{arith}
use native.Mathlib.Decide.{dec_lt}
use lib.Dec.{T}
use Rattle.std.proofs.Common.{Some, None}
use lib.ListN.{length, get_or, take, set}
use lib.Seq.{ext_get_or, get_or-take, length-take-le, get_or-set_same, get_or-set_other}
use Rattle.question.specs.Limits.{max_terms}
use Rattle.theory.specs.Lists.{Every}
use Rattle.theory.specs.Arrangements.{classes}
use Rattle.theory.specs.Searches.{each_from}
use Rattle.theory.specs.Solutions.{with_masks, all_rows}
use Rattle.theory.specs.FirstModels.{smallest_mask, model_of}
use Rattle.theory.specs.Sets.{fits, row_declared}
use Rattle.theory.proofs.SearchLaws.{EachIs, each_from_is}
use Rattle.mask.specs.Entries.{rows_of_entries}
use Rattle.cut.specs.Members.{members}
use Rattle.cut.specs.Families.{Within}
use Rattle.cut.proofs.WholeLaws.{mask_whole}
use Rattle.cut.proofs.SetLaws.{set_tests, declared_within}
use Rattle.search.specs.Answers.{shown}
use Rattle.search.specs.Placings.{Placing}
use Rattle.search.specs.Memos.{mask_of_group}
use Rattle.search.proofs.PlacingLaws.{RestZero, rest_padded, placed_length, placing_padded}

-- a value for each number, or one without
module _ (n : ℕ) (test : ℕ → Option ℕ) where
  each_none : (k : ℕ) → k < n → test k ≡ none → each_from n 0 test ≡ none
  each_none k lt e = go (each_from n 0 test) (each_from_is n 0 test 0)
    where
      go : (o : Option (List ℕ)) → EachIs n 0 test 0 o → o ≡ none
      go none h = refl
      go (some l) h = absurd (none-ne-some (get_or l k 0) (sym e ∙ ap test (omega arith) ∙ h.1 k lt))

  each_some : (l : List ℕ) → length l ≡ n → ((k : ℕ) → k < n → test k ≡ some (get_or l k 0)) → each_from n 0 test ≡ some l
  each_some l long e = go (each_from n 0 test) (each_from_is n 0 test 0)
    where
      go : (o : Option (List ℕ)) → EachIs n 0 test 0 o → o ≡ some l
      go none h = absurd (some-ne-none (get_or l h.0 0) (sym (e h.0 (omega arith)) ∙ h.3))
      go (some m) h = ap (λ (x : List ℕ). some x) (ext_get_or 0 m l (h.0 ∙ sym long)
          (λ k lt. let inside : k < n = omega (arith, h.0) in some-injective (get_or m k 0) (get_or l k 0) (sym (h.1 k inside) ∙ ap test (omega arith) ∙ e k inside)))

-- the smallest mask of each class of the arrangement l
abbrev smallest : List ℕ → ℕ → List ℕ → ℕ → Option ℕ
smallest entries sets l = smallest_mask fits (2 ^ sets) (rows_of_entries entries) l

-- the masks of its first k classes
abbrev pub MasksTo : List ℕ → ℕ → List ℕ → ℕ → List ℕ → Type 0
MasksTo entries sets l k masks = (i : ℕ) → i < k → smallest entries sets l i ≡ some (get_or masks i 0)

module _ (entries : List ℕ) (sets : ℕ) (arrangement : List ℕ) (terms used : ℕ) (here : Placing arrangement terms used) (declared : T (all_rows (row_declared terms sets) (rows_of_entries entries))) where
  -- the arrangement
  abbrev l : List ℕ
  l = take terms arrangement

  smallest_is : (k : ℕ) → smallest entries sets l k ≡ mask_of_group entries sets (members l k)
  smallest_is k = mask_whole set_tests l k (2 ^ sets) (rows_of_entries entries) (subst (λ n. Every (Within set_tests n) (rows_of_entries entries)) (sym (placed_length here)) (declared_within terms sets (rows_of_entries entries) declared))

  module _ (k class : ℕ) (is : class ≡ members l k) where
    -- a class has none
    pub model_none : k < used → mask_of_group entries sets class ≡ none → None ≡ shown (model_of fits (2 ^ sets) (rows_of_entries entries) l)
    unfolding model_of
    model_none lt e = ap (λ o. shown (map (with_masks l) o)) (sym (each_none (classes l) (smallest entries sets l) k (omega (arith, here.counted)) (smallest_is k ∙ ap (mask_of_group entries sets) (sym is) ∙ e)))

    -- one mask more
    pub model_more : (masks : List ℕ) (m : ℕ) → k < length masks → mask_of_group entries sets class ≡ some m → MasksTo entries sets l k masks → MasksTo entries sets l (k + 1) (set masks k m)
    model_more masks m lt e before i h = go (dec_lt i k)
      where
        go : Dec (i < k) → smallest entries sets l i ≡ some (get_or (set masks k m) i 0)
        go (yes p) = before i p ∙ ap (λ (x : ℕ). some x) (sym (get_or-set_other masks k i m 0 (λ q. omega arith)))
        go (no p) = let q : i ≡ k = omega arith in
            ap (smallest entries sets l) q ∙ smallest_is k ∙ ap (mask_of_group entries sets) (sym is) ∙ e ∙ ap (λ (x : ℕ). some x) (sym (ap (λ j. get_or (set masks k m) j 0) q ∙ get_or-set_same masks k m 0 lt))

  -- every class has one
  pub model_all : (masks : List ℕ) → length masks ≡ max_terms → RestZero used masks → MasksTo entries sets l used masks →
      Some (record { classes = used; arrangement = arrangement; masks = masks }) ≡ shown (model_of fits (2 ^ sets) (rows_of_entries entries) l)
  unfolding model_of
  model_all masks long zero_rest each = as_shown ∙ ap (λ o. shown (map (with_masks l) o)) (sym all)
    where
      few : used ≤ max_terms
      few = omega (arith, here.few_classes, here.few_terms)

      all : each_from (classes l) 0 (smallest entries sets l) ≡ some (take used masks)
      all = each_some (classes l) (smallest entries sets l) (take used masks) (length-take-le used masks (omega arith) ∙ here.counted)
          (λ k lt. let inside : k < used = omega (arith, here.counted) in each k inside ∙ ap (λ (x : ℕ). some x) (sym (get_or-take used masks k 0 inside)))

      as_shown : Some (record { classes = used; arrangement = arrangement; masks = masks }) ≡ shown (some (with_masks l (take used masks)))
      as_shown = cc (here.counted, placing_padded here, rest_padded masks used long few zero_rest)
