-- A walk over the entries that keeps a group of the terms that the rows passed ask for.
use Prim.Native.Nat.{ℕ, suc, ◌+◌, ◌<◌}
use mathlib.Core.Path.{◌≡◌}
use mathlib.Core.Bool.{Bool, true}
use mathlib.Core.List.{List}
use native.Mathlib.Numerals.{add-one}
use lib.Bits.{bit_or}
use lib.Dec.{T}
use lib.ListN.{length, get_or, drop}
use lib.Seq.{drop-cons}
use Rattle.question.specs.Masks.{bit}
use Rattle.statement.proofs.TestLaws.{T_true, true_T}
use Rattle.theory.specs.Rules.{Row}
use Rattle.theory.specs.Sets.{Test}
use Rattle.theory.specs.Solutions.{all_rows}
use Rattle.theory.proofs.ListLaws.{all_append}
use Rattle.mask.specs.Entries.{test_in, terms_in, rows_of_entry, rows_of_entries}
use Rattle.question.proofs.BitLaws.{or_left, or_right}
use Rattle.mask.proofs.EntryLaws.{entry_pass}
use Rattle.cut.specs.Asked.{asks, asked_known, all_asked_known}
use Rattle.cut.proofs.AskedLaws.{known_more}

module _ (entries : List ℕ) where
  -- the group is enough for the rows before i: where its terms are known, and what the other rows ask for, all is
  abbrev pub Enough : ℕ → ℕ → Type 0
  Enough asked i = (known : ℕ → Bool) → ((d : ℕ) → T (bit asked d) → T (known d)) → T (all_asked_known asks known (rows_of_entries (drop i entries))) → T (all_asked_known asks known (rows_of_entries entries))

  pub enough_turn : (asked i one : ℕ) → i < length entries → ((c : ℕ) → T (bit (terms_in (get_or entries i 0)) c) → T (asked_known asks (bit one) c (test_in (get_or entries i 0)))) → Enough asked i → Enough (bit_or asked one) (i + 1)
  enough_turn asked i one inside this before known sub h =
      let e = get_or entries i 0 in
      let f : Row Test → Bool = λ r. asked_known asks known r.term r.test in
      let in_one : (d : ℕ) → T (bit one d) → T (known d) = λ d b. sub d (T_true (or_right asked one d (true_T (bit one d) b))) in
      let these : all_rows f (rows_of_entry e) ≡ true = entry_pass f e (λ c b. true_T (asked_known asks known c (test_in e)) (known_more asks (bit one) known in_one c (test_in e) (this c (T_true b)))) in
      before known (λ d b. sub d (T_true (or_left asked one d (true_T (bit asked d) b)))) (rw (drop-cons entries i 0 inside, all_append f (rows_of_entry e) (rows_of_entries (drop (suc i) entries)), these) (rw add-one at h))
