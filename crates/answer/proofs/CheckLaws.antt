-- The count of classes as a walk: what one turn does, and how the walk ends.
use Prim.Native.Nat.{ℕ, ◌+◌, ◌≤◌, ◌<◌, max}
use mathlib.Core.Path.{◌≡◌}
use mathlib.Core.Bool.{cond}
use mathlib.Core.List.{List}
use native.Mathlib.Numerals.{add-one}
use borrow.Author.Tests.{le-leb, lt-leb}
use lib.ListN.{length, get_or, drop, drop_of_length-le}
use lib.Seq.{drop-cons}
use Rattle.std.proofs.Common.{Option, Some, None}
use Rattle.theory.specs.Arrangements.{classes_after}
use Rattle.answer.specs.Checks.{may_follow}

-- the classes that class numbers make where `used` stand before them
abbrev pub count_from : ℕ → List ℕ → Option ℕ
count_from used l = cond (may_follow used l) (Some (classes_after used l)) None

-- the class numbers from the index i on
module _ (l : List ℕ) (i used : ℕ) where
  pub count_more : i < length l → get_or l i 0 ≤ used → count_from used (drop i l) ≡ count_from (max used (get_or l i 0 + 1)) (drop (i + 1) l)
  unfolding may_follow
  count_more h e = rw (drop-cons l i 0 h, add-one i, add-one (get_or l i 0), le-leb (get_or l i 0) used e)

  pub count_against : i < length l → used < get_or l i 0 → count_from used (drop i l) ≡ None
  unfolding may_follow
  count_against h e = rw (drop-cons l i 0 h, lt-leb (get_or l i 0) used e)

  pub count_end : length l ≤ i → count_from used (drop i l) ≡ Some used
  unfolding may_follow
  count_end h = rw (drop_of_length-le l {i = i} h)
