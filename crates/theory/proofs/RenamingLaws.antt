-- Rows with other numbers for the sets have solutions in the same arrangements: the bits of each mask move with the numbers.
use Prim.Native.Nat.{ℕ, ◌^◌, ◌<◌}
use mathlib.Core.Path.{◌≡◌, refl, sym, ap, subst, ◌∙◌}
use mathlib.Core.Bool.{Bool}
use mathlib.Core.List.{List, map}
use mathlib.Core.Option.{none, some}
use native.Mathlib.Omega.{arith}
use lib.Dec.{T, ltb, ltb→lt, lt→ltb}
use lib.ListN.{length, length-map}
use Rattle.question.specs.Masks.{bit}
use Rattle.statement.proofs.TestLaws.{and_both}
use Rattle.theory.specs.Arrangements.{classes, class_of, in_class}
use Rattle.theory.specs.Rules.{Row, row}
use Rattle.theory.specs.Solutions.{Solution, mask_of, all_rows, met}
use Rattle.theory.specs.FirstModels.{model_of, first_model}
use Rattle.theory.specs.Sets.{Test, IsSame, IsNotSame, IsIn, IsNotIn, ExactlyIfIn, ExactlyIfNotIn, ExactlyIfSame, ExactlyIfOr, ExactlyIfAnd, ExactlyIfAndNot, passes, fits, Place, term, set, places_of, kind_of, test_with, place_declared, places_declared, row_declared}
use Rattle.theory.specs.Renamings.{renamed_place, renamed_test, renamed_row, IsRenaming}
use Rattle.theory.proofs.BitLaws.{of_bits, of_bits_below, of_bits_bit}
use Rattle.theory.proofs.ListLaws.{map_stays, all_same, all_every, all_map, map_at, every_mapped, all_mapped}
use Rattle.theory.proofs.ArrangementLaws.{class_below}
use Rattle.theory.proofs.RuleLaws.{TermsBelow}
use Rattle.theory.proofs.PlaceLaws.{passes_local, declared_term, declared_places, test_again}
use Rattle.theory.proofs.RowListLaws.{declared_below}
use Rattle.theory.proofs.SameArrangementLaws.{SolvedToo, none_either, same_arrangement}

-- masks whose bit x is bit `from x` of those of a solution: where they meet others, the same arrangement solves these
module _ (terms sets : ℕ) (from : ℕ → ℕ) (rows others : List (Row Test)) where
  moved : ℕ → ℕ
  moved m = of_bits sets (λ x. bit m (from x))

  -- the classes of l have such masks
  abbrev Moved : List ℕ → List ℕ → List ℕ → Type 0
  Moved l ms news = (k : ℕ) → k < classes l → (x : ℕ) → x < sets → bit (mask_of news k) x ≡ bit (mask_of ms k) (from x)

  moved_solves : ((l ms news : List ℕ) → length l ≡ terms → Moved l ms news → T (all_rows (met fits l ms) rows) → T (all_rows (met fits l news) others)) → SolvedToo fits terms (2 ^ sets) rows others
  unfolding moved
  moved_solves meet sol s = (
    news,
    record {
      arranged = s.arranged;
      each_term = s.each_term;
      each_class = length-map sol.masks moved ∙ s.each_class;
      masks_below = λ k lt. subst (λ m. m < 2 ^ sets) (sym (at_k k lt)) (of_bits_below sets (λ x. bit (mask_of sol.masks k) (from x)));
      rows_met = meet sol.arrangement sol.masks news s.each_term (λ k lt x h. ap (λ m. bit m x) (at_k k lt) ∙ of_bits_bit sets (λ x. bit (mask_of sol.masks k) (from x)) x h) s.rows_met;
    },
  )
    where
      news : List ℕ
      news = map moved sol.masks

      at_k : (k : ℕ) → k < classes sol.arrangement → mask_of news k ≡ moved (mask_of sol.masks k)
      at_k k lt = map_at moved sol.masks k 0 0 (omega (arith, s.each_class))

-- a renamed test has the renamed places, and is passed where the test would be by what has the sets by their new names
module _ (to : ℕ → ℕ) where
  renamed_places : (t : Test) → places_of (renamed_test to t) ≡ map (renamed_place to) (places_of t)
  renamed_places (IsSame d) = refl
  renamed_places (IsNotSame d) = refl
  renamed_places (IsIn x) = refl
  renamed_places (IsNotIn x) = refl
  renamed_places (ExactlyIfIn x y) = refl
  renamed_places (ExactlyIfNotIn x y) = refl
  renamed_places (ExactlyIfSame x a) = refl
  renamed_places (ExactlyIfOr x y z) = refl
  renamed_places (ExactlyIfAnd x y z) = refl
  renamed_places (ExactlyIfAndNot x y z) = refl

  renamed_passes : (new same : ℕ → Bool) (t : Test) → passes new same (renamed_test to t) ≡ passes (λ x. new (to x)) same t
  renamed_passes new same (IsSame d) = refl
  renamed_passes new same (IsNotSame d) = refl
  renamed_passes new same (IsIn x) = refl
  renamed_passes new same (IsNotIn x) = refl
  renamed_passes new same (ExactlyIfIn x y) = refl
  renamed_passes new same (ExactlyIfNotIn x y) = refl
  renamed_passes new same (ExactlyIfSame x a) = refl
  renamed_passes new same (ExactlyIfOr x y z) = refl
  renamed_passes new same (ExactlyIfAnd x y z) = refl
  renamed_passes new same (ExactlyIfAndNot x y z) = refl

module _ (terms sets : ℕ) (to : ℕ → ℕ) where
  -- where each set has the bit that its new number has, a declared row is met exactly if the renamed one is
  module _ (l ms news : List ℕ) (are : (k : ℕ) → k < classes l → (x : ℕ) → x < sets → bit (mask_of news k) (to x) ≡ bit (mask_of ms k) x) (long : length l ≡ terms) where
    row_same : (r : Row Test) → T (row_declared terms sets r) → met fits l news (renamed_row to r) ≡ met fits l ms r
    row_same r d =
        let k = class_of l r.term in
        let lt = declared_term terms sets r d in
        renamed_passes to (bit (mask_of news k)) (in_class l k) r.test
        ∙ passes_local (λ x. bit (mask_of news k) (to x)) (bit (mask_of ms k)) (in_class l k) (in_class l k) terms sets (are k (class_below 0 l r.term (omega arith))) (λ a h. refl) r.test (declared_places terms sets r d)

    rows_same : (rows : List (Row Test)) → T (all_rows (row_declared terms sets) rows) → all_rows (met fits l news) (map (renamed_row to) rows) ≡ all_rows (met fits l ms) rows
    rows_same rows d = all_mapped (met fits l news) (renamed_row to) rows
        ∙ all_same (λ r. T (row_declared terms sets r)) (λ r. met fits l news (renamed_row to r)) (met fits l ms) row_same rows (all_every (row_declared terms sets) rows d)

  module _ (rows : List (Row Test)) (declared : T (all_rows (row_declared terms sets) rows)) where
    pub renamed_below : TermsBelow terms (map (renamed_row to) rows)
    renamed_below = every_mapped (λ r. r.term < terms) (renamed_row to) rows (declared_below terms sets rows declared)

    -- an arrangement that solves the renamed rows solves the rows
    pub from_renamed : SolvedToo fits terms (2 ^ sets) (map (renamed_row to) rows) rows
    from_renamed = moved_solves terms sets to (map (renamed_row to) rows) rows (λ l ms news long are. subst T (rows_same l news ms (λ k lt x h. sym (are k lt x h)) long rows declared))

    -- and the reverse
    pub to_renamed : (back : ℕ → ℕ) → IsRenaming sets to back → SolvedToo fits terms (2 ^ sets) rows (map (renamed_row to) rows)
    to_renamed back renaming = moved_solves terms sets back rows (map (renamed_row to) rows)
        (λ l ms news long are. subst T (sym (rows_same l ms news (λ k lt x h. are k lt (to x) (renaming x h).0 ∙ ap (bit (mask_of ms k)) (renaming x h).1) long rows declared)))

-- where the new numbers are those of sets, renamed rows are declared
module _ (terms sets : ℕ) (to : ℕ → ℕ) (below : (x : ℕ) → x < sets → to x < sets) where
  place_declared_lem : (p : Place) → T (place_declared terms sets p) → T (place_declared terms sets (renamed_place to p))
  place_declared_lem (term c) h = h
  place_declared_lem (set x) h = lt→ltb (to x) sets (below x (ltb→lt x sets h))

  places_declared_lem : (ps : List Place) → T (places_declared terms sets ps) → T (places_declared terms sets (map (renamed_place to) ps))
  places_declared_lem ps h = subst T (sym (all_mapped (place_declared terms sets) (renamed_place to) ps)) (all_map (place_declared terms sets) (λ p. place_declared terms sets (renamed_place to p)) place_declared_lem ps h)

  row_declared_lem : (r : Row Test) → T (row_declared terms sets r) → T (row_declared terms sets (renamed_row to r))
  row_declared_lem r d =
      and_both (ltb r.term terms) (places_declared terms sets (places_of (renamed_test to r.test))) (lt→ltb r.term terms (declared_term terms sets r d))
      (subst (λ ps. T (places_declared terms sets ps)) (sym (renamed_places to r.test)) (places_declared_lem (places_of r.test) (declared_places terms sets r d)))

  pub rows_declared_too : (rows : List (Row Test)) → T (all_rows (row_declared terms sets) rows) → T (all_rows (row_declared terms sets) (map (renamed_row to) rows))
  rows_declared_too rows d = subst T (sym (all_mapped (row_declared terms sets) (renamed_row to) rows)) (all_map (row_declared terms sets) (λ r. row_declared terms sets (renamed_row to r)) row_declared_lem rows d)

-- where each number stays, so do the rows
module _ (terms sets : ℕ) (to : ℕ → ℕ) (plain : (x : ℕ) → x < sets → to x ≡ x) where
  place_stays : (p : Place) → T (place_declared terms sets p) → renamed_place to p ≡ p
  place_stays (term c) h = refl
  place_stays (set x) h = ap set (plain x (ltb→lt x sets h))

  places_stay : (ps : List Place) → T (places_declared terms sets ps) → map (renamed_place to) ps ≡ ps
  places_stay ps h = map_stays (λ p. T (place_declared terms sets p)) (renamed_place to) place_stays ps (all_every (place_declared terms sets) ps h)

  row_stays : (r : Row Test) → T (row_declared terms sets r) → renamed_row to r ≡ r
  row_stays r d = ap (row r.term) (ap (test_with (kind_of r.test)) (places_stay (places_of r.test) (declared_places terms sets r d)) ∙ test_again r.test)

  pub rows_stay : (rows : List (Row Test)) → T (all_rows (row_declared terms sets) rows) → map (renamed_row to) rows ≡ rows
  rows_stay rows d = map_stays (λ r. T (row_declared terms sets r)) (renamed_row to) row_stays rows (all_every (row_declared terms sets) rows d)

-- so the first models have one arrangement
module _ (terms sets : ℕ) (to back : ℕ → ℕ) (renaming : IsRenaming sets to back) (rows : List (Row Test)) (declared : T (all_rows (row_declared terms sets) rows)) where
  abbrev renamed : List (Row Test)
  renamed = map (renamed_row to) rows

  pub none_renamed : first_model fits terms (2 ^ sets) renamed ≡ none → first_model fits terms (2 ^ sets) rows ≡ none
  none_renamed = none_either fits terms (2 ^ sets) rows renamed (declared_below terms sets rows declared) (renamed_below terms sets to rows declared) (to_renamed terms sets to rows declared back renaming) (from_renamed terms sets to rows declared)

  pub some_renamed : (sol : Solution) → first_model fits terms (2 ^ sets) renamed ≡ some sol → first_model fits terms (2 ^ sets) rows ≡ model_of fits (2 ^ sets) rows sol.arrangement
  some_renamed = same_arrangement fits terms (2 ^ sets) rows renamed (declared_below terms sets rows declared) (renamed_below terms sets to rows declared) (to_renamed terms sets to rows declared back renaming) (from_renamed terms sets to rows declared)
