-- The check of rows as a walk: what one turn does, and how the walk ends.
use Rattle.std.proofs.Common.{Ok, Err}
use Prim.Native.Nat.{ℕ, ◌+◌, ◌≤◌, ◌<◌}
use mathlib.Core.Path.{◌≡◌}
use mathlib.Core.Bool.{cond}
use mathlib.Core.List.{List}
use native.Mathlib.Numerals.{add-one}
use lib.ListN.{length, get_or, drop, drop_of_length-le}
use lib.Seq.{drop-cons}
use Rattle.outcome.specs.Checks.{Check}
use Rattle.outcome.specs.Refusals.{refusal, bad_row}
use Rattle.row.specs.Checks.{row_good, rows_checked_from}

module _ (terms sets : ℕ) (rows : List ℕ) where
  -- the check from the index i on
  abbrev pub check_from : ℕ → Check
  check_from i = rows_checked_from terms sets i (drop i rows)

  pub turn : (i : ℕ) → i < length rows → check_from i ≡ cond (row_good terms sets (get_or rows i 0)) (check_from (i + 1)) (Err (refusal bad_row i))
  unfolding rows_checked_from
  turn i h = rw (drop-cons rows i 0 h, add-one)

  pub ended : (i : ℕ) → length rows ≤ i → check_from i ≡ Ok tt
  unfolding rows_checked_from
  ended i h = rw (drop_of_length-le rows h)
