-- Classes are independent: masks meet every row exactly if each serves its class. So the smallest masks class by class are the smallest together.
use Prim.Native.Nat.{ℕ, ◌≤◌, ◌<◌}
use mathlib.Core.Path.{◌≡◌, refl, sym, ap, subst, ◌∙◌}
use mathlib.Core.Bool.{Bool, true, false, not, ◌||◌}
use mathlib.Core.List.{List, [], ◌∷◌}
use mathlib.Core.Option.{Option, none, some, map}
use native.Mathlib.Omega.{arith}
use native.Mathlib.Decide.{dec_le}
use borrow.Author.Tests.{eqb-true, eq-eqb}
use lib.Dec.{T}
use lib.ListN.{length}
use lib.Seq.{ext_get_or}
use Rattle.theory.specs.Lists.{Every}
use Rattle.theory.specs.Arrangements.{IsArrangement, classes, class_of, in_class}
use Rattle.theory.specs.Searches.{each_from}
use Rattle.theory.specs.Rules.{Row}
use Rattle.theory.specs.Solutions.{Solution, with_masks, mask_of, all_rows, met_by, met, IsSolution}
use Rattle.theory.specs.FirstModels.{serves, serves_all, smallest_mask, model_of, HasSmallest}
use Rattle.statement.proofs.TestLaws.{T_true}
use Rattle.theory.proofs.ArrangementLaws.{class_below}
use Rattle.theory.proofs.SearchLaws.{EachIs, each_from_is, SmallestIs, first_passing_is}
use Rattle.theory.proofs.ListLaws.{all_every, every_all, all_map}
use Rattle.theory.proofs.RuleLaws.{TermsBelow}

module _ {Test : Type 0} (fits : ℕ → (ℕ → Bool) → Test → Bool) where
  module _ (l ms : List ℕ) where
    row_serves : (k : ℕ) (r : Row Test) → T (met fits l ms r) → T (serves fits l k (mask_of ms k) r)
    row_serves k r h = go (in_class l k r.term) refl
      where
        go : (b : Bool) → in_class l k r.term ≡ b → T (not b || met_by fits l k (mask_of ms k) r)
        go true e = subst (λ j. T (met_by fits l j (mask_of ms j) r)) (sym (eqb-true k (class_of l r.term) e)) h
        go false e = tt

    -- masks that meet every row serve each class
    pub met_serves : (rows : List (Row Test)) → T (all_rows (met fits l ms) rows) → (k : ℕ) → T (serves_all fits rows l k (mask_of ms k))
    met_serves rows h k = all_map (met fits l ms) (serves fits l k (mask_of ms k)) (row_serves k) rows h

    serves_row : (r : Row Test) → T (serves fits l (class_of l r.term) (mask_of ms (class_of l r.term)) r) → T (met fits l ms r)
    serves_row r h = subst (λ b. T (not b || met fits l ms r)) (eq-eqb (class_of l r.term) (class_of l r.term) refl) h

    abbrev Served : List (Row Test) → Type 0
    Served rows = (k : ℕ) → k < classes l → Every (λ r. T (serves fits l k (mask_of ms k) r)) rows

    serves_rows : (rows : List (Row Test)) → TermsBelow (length l) rows → Served rows → Every (λ r. T (met fits l ms r)) rows
    serves_rows [] below h = tt
    serves_rows (r ∷ rs) below h = (serves_row r (h (class_of l r.term) (class_below 0 l r.term below.0)).0, serves_rows rs below.1 (λ k lt. (h k lt).1))

    -- masks that serve each class meet every row
    pub serves_met : (rows : List (Row Test)) → TermsBelow (length l) rows → ((k : ℕ) → k < classes l → T (serves_all fits rows l k (mask_of ms k))) → T (all_rows (met fits l ms) rows)
    serves_met rows below h = every_all (met fits l ms) rows (serves_rows rows below (λ k lt. all_every (serves fits l k (mask_of ms k)) rows (h k lt)))

  module _ (bound : ℕ) (rows : List (Row Test)) where
    pub smallest_mask_is : (l : List ℕ) (k : ℕ) → SmallestIs bound (serves_all fits rows l k) (smallest_mask fits bound rows l k)
    unfolding smallest_mask
    smallest_mask_is l k = first_passing_is bound (serves_all fits rows l k)

    -- masks found for each class are the smallest
    module _ (l ms : List ℕ) (each : EachIs (classes l) 0 (smallest_mask fits bound rows l) 0 (some ms)) where
      each_smallest : (k : ℕ) → k < classes l → SmallestIs bound (serves_all fits rows l k) (some (mask_of ms k))
      each_smallest k lt = subst (SmallestIs bound (serves_all fits rows l k)) (ap (smallest_mask fits bound rows l) (omega arith) ∙ each.1 k lt) (smallest_mask_is l k)

      each_least : (k m : ℕ) → k < classes l → T (serves_all fits rows l k m) → mask_of ms k ≤ m
      each_least k m lt s = go (dec_le (mask_of ms k) m)
        where
          go : Dec (mask_of ms k ≤ m) → mask_of ms k ≤ m
          go (yes q) = q
          go (no q) = absurd (subst T ((each_smallest k lt).2 m (omega arith)) s)

    -- an arrangement with a class that no mask serves has no model
    pub no_model_lem : (l : List ℕ) (k : ℕ) → k < classes l → ((m : ℕ) → m < bound → T (serves_all fits rows l k m) → ⊥) → model_of fits bound rows l ≡ none
    unfolding model_of
    no_model_lem l k lt no_mask = go (each_from (classes l) 0 (smallest_mask fits bound rows l)) (each_from_is (classes l) 0 (smallest_mask fits bound rows l) 0)
      where
        go : (o : Option (List ℕ)) → EachIs (classes l) 0 (smallest_mask fits bound rows l) 0 o → map (with_masks l) o ≡ none
        go none h = refl
        go (some ms) h = let s = each_smallest l ms h k lt in absurd (no_mask (mask_of ms k) s.0 (T_true s.1))

    module _ (terms : ℕ) where
      -- the model of an arrangement: its solution with the smallest masks, or it has no solution
      abbrev pub ModelIs : List ℕ → Option Solution → Type 0
      ModelIs l none = (ms : List ℕ) → IsSolution fits terms bound rows (with_masks l ms) → ⊥
      ModelIs l (some sol) = (sol.arrangement ≡ l) × IsSolution fits terms bound rows sol × HasSmallest fits bound rows sol

      pub model_of_is : TermsBelow terms rows → (l : List ℕ) → IsArrangement l → length l ≡ terms → ModelIs l (model_of fits bound rows l)
      unfolding model_of
      model_of_is below l arranged long = go (each_from (classes l) 0 each) (each_from_is (classes l) 0 each 0)
        where
          each : ℕ → Option ℕ
          each = smallest_mask fits bound rows l

          go : (o : Option (List ℕ)) → EachIs (classes l) 0 each 0 o → ModelIs l (map (with_masks l) o)
          go none h = λ ms s. subst T (subst (SmallestIs bound (serves_all fits rows l h.0)) h.3 (smallest_mask_is l h.0) (mask_of ms h.0) (s.masks_below h.0 (omega arith))) (met_serves l ms rows s.rows_met h.0)
          go (some ms) h = (refl, solved, λ k m lt low s. each_least l ms h k m lt s)
            where
              solved : IsSolution fits terms bound rows (with_masks l ms)
              solved = record {
                arranged = arranged;
                each_term = long;
                each_class = h.0;
                masks_below = λ k lt. (each_smallest l ms h k lt).0;
                rows_met = serves_met l ms rows (subst (λ n. TermsBelow n rows) (sym long) below) (λ k lt. T_true (each_smallest l ms h k lt).1);
              }

      -- of two solutions with the same arrangement, one with the smallest masks has none that is larger
      smaller : (one other : Solution) → one.arrangement ≡ other.arrangement → HasSmallest fits bound rows one → IsSolution fits terms bound rows other →
          (k : ℕ) → k < classes one.arrangement → mask_of one.masks k ≤ mask_of other.masks k
      smaller one other e p s k lt = p k (mask_of other.masks k) lt (s.masks_below k (subst (λ l. k < classes l) e lt))
          (subst (λ l. T (serves_all fits rows l k (mask_of other.masks k))) (sym e) (met_serves other.arrangement other.masks rows s.rows_met k))

      -- so an arrangement has at most one solution with the smallest masks
      pub smallest_one : (one other : Solution) → one.arrangement ≡ other.arrangement → IsSolution fits terms bound rows one → IsSolution fits terms bound rows other →
          HasSmallest fits bound rows one → HasSmallest fits bound rows other → one ≡ other
      smallest_one one other e s t p q = ap (λ l. with_masks l one.masks) e ∙ ap (with_masks other.arrangement) (ext_get_or 0 one.masks other.masks (s.each_class ∙ ap classes e ∙ sym t.each_class) at)
        where
          at : (k : ℕ) → k < length one.masks → mask_of one.masks k ≡ mask_of other.masks k
          at k h = let lt : k < classes one.arrangement = omega (arith, s.each_class) in
              omega (arith, smaller one other e p t k lt, smaller other one (sym e) q s k (subst (λ l. k < classes l) e lt))
