-- The check accepts exactly the rows within the limits of which each is good; so those of an accepted question pass it.
use Rattle.std.proofs.Common.{Ok, Err}
use Prim.Native.Nat.{ℕ, suc, ◌≤◌}
use mathlib.Core.Path.{◌≡◌, refl}
use mathlib.Core.Bool.{Bool, true, false, ◌||◌, cond}
use mathlib.Core.List.{List, [], ◌∷◌, map}
use borrow.Author.Tests.{ltb-false, le-ltb}
use lib.Dec.{T, ltb}
use lib.ListN.{length}
use Rattle.question.specs.Limits.{max_terms, max_sets, max_rows}
use Rattle.outcome.specs.Refusals.{refusal, too_many_names, too_many_statements, bad_row}
use Rattle.statement.proofs.TestLaws.{and_left, and_right, and_both}
use Rattle.outcome.proofs.CheckLaws.{refused_ok}
use Rattle.theory.specs.Rules.{Row}
use Rattle.theory.specs.Solutions.{all_rows}
use Rattle.theory.specs.Sets.{Test, row_declared}
use Rattle.row.specs.Rows.{pack_row, row_of}
use Rattle.row.specs.Checks.{row_good, rows_checked_from, rows_checked}
use Rattle.row.proofs.GoodRows.{good_declared, good_packs}
use Rattle.row.proofs.DeclaredRows.{row_back, declared_good}

module _ (terms sets : ℕ) where
  -- each number is good
  abbrev pub AllGood : List ℕ → Type 0
  AllGood [] = Unit {0}
  AllGood (n ∷ ns) = (row_good terms sets n ≡ true) × AllGood ns

  accepted_good : (i : ℕ) (ns : List ℕ) → rows_checked_from terms sets i ns ≡ Ok tt → AllGood ns
  unfolding rows_checked_from
  accepted_good i [] e = tt
  accepted_good i (n ∷ ns) e = go (row_good terms sets n) refl e (accepted_good (suc i) ns)
    where
      go : (b : Bool) → row_good terms sets n ≡ b → cond b (rows_checked_from terms sets (suc i) ns) (Err (refusal bad_row i)) ≡ Ok tt →
          (rows_checked_from terms sets (suc i) ns ≡ Ok tt → AllGood ns) → AllGood (n ∷ ns)
      go true p e k = (p, k e)
      go false p e k = refused_ok e

  good_accepted : (i : ℕ) (ns : List ℕ) → AllGood ns → rows_checked_from terms sets i ns ≡ Ok tt
  unfolding rows_checked_from
  good_accepted i [] h = refl
  good_accepted i (n ∷ ns) h = rw h.0 (good_accepted (suc i) ns h.1)

  -- what accepted rows keep
  pub record RowsAccepted (rows : List ℕ) : Type 0 where
    pub few_terms : terms ≤ max_terms
    pub few_sets : sets ≤ max_sets
    pub few_rows : length rows ≤ max_rows
    pub all_good : AllGood rows

  pub rows_keep : (rows : List ℕ) → rows_checked terms sets rows ≡ Ok tt → RowsAccepted rows
  unfolding rows_checked
  rows_keep rows e = go (ltb max_terms terms) (ltb max_sets sets) (ltb max_rows (length rows)) refl refl refl e
    where
      go : (a b c : Bool) → ltb max_terms terms ≡ a → ltb max_sets sets ≡ b → ltb max_rows (length rows) ≡ c →
          cond (a || b) (Err (refusal too_many_names 0)) (cond c (Err (refusal too_many_statements 0)) (rows_checked_from terms sets 0 rows)) ≡ Ok tt → RowsAccepted rows
      go true b c p q r e = refused_ok e
      go false true c p q r e = refused_ok e
      go false false true p q r e = refused_ok e
      go false false false p q r e = record { few_terms = ltb-false _ _ p; few_sets = ltb-false _ _ q; few_rows = ltb-false _ _ r; all_good = accepted_good 0 rows e }

  pub rows_accepted : (rows : List ℕ) → RowsAccepted rows → rows_checked terms sets rows ≡ Ok tt
  unfolding rows_checked
  rows_accepted rows h = rw (le-ltb max_terms terms h.few_terms, le-ltb max_sets sets h.few_sets, le-ltb max_rows (length rows) h.few_rows) (good_accepted 0 rows h.all_good)

  -- the rows that good numbers say are declared, and are those numbers again
  pub all_declared : (ns : List ℕ) → AllGood ns → T (all_rows (row_declared terms sets) (map row_of ns))
  all_declared [] h = tt
  all_declared (n ∷ ns) h = and_both (row_declared terms sets (row_of n)) (all_rows (row_declared terms sets) (map row_of ns)) (good_declared terms sets n h.0) (all_declared ns h.1)

  pub all_packed : (ns : List ℕ) → AllGood ns → map pack_row (map row_of ns) ≡ ns
  all_packed [] h = refl
  all_packed (n ∷ ns) h = rw (good_packs terms sets n h.0, all_packed ns h.1)

  -- declared rows pack to good numbers, which say them again
  module _ (few_terms : terms ≤ max_terms) (few_sets : sets ≤ max_sets) where
    pub packed_good : (rs : List (Row Test)) → T (all_rows (row_declared terms sets) rs) → AllGood (map pack_row rs)
    packed_good [] h = tt
    packed_good (r ∷ rs) h =
        (declared_good terms sets few_terms few_sets r (and_left (row_declared terms sets r) (all_rows (row_declared terms sets) rs) h), packed_good rs (and_right (row_declared terms sets r) (all_rows (row_declared terms sets) rs) h))

    pub packed_say : (rs : List (Row Test)) → T (all_rows (row_declared terms sets) rs) → map row_of (map pack_row rs) ≡ rs
    packed_say [] h = refl
    packed_say (r ∷ rs) h =
        rw (row_back terms sets few_terms few_sets r (and_left (row_declared terms sets r) (all_rows (row_declared terms sets) rs) h), packed_say rs (and_right (row_declared terms sets r) (all_rows (row_declared terms sets) rs) h))
