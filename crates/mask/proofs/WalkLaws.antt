-- The walk of a mask over the entries: how it ends, and which masks fail where one fails.
use Prim.Native.Nat.{ℕ, zero, suc, ◌≤◌, ◌<◌}
use mathlib.Core.Path.{◌≡◌, refl, sym, ap, ◌∙◌}
use mathlib.Core.Bool.{Bool, true, false, ◌&&◌, true≢false, and-false}
use mathlib.Core.List.{List, [], ◌∷◌}
use native.Mathlib.Omega.{arith}
use native.Mathlib.Decide.{ℕ_discrete}
use lib.Bits.{bit_and}
use lib.ListN.{length, get_or}
use Rattle.question.specs.Masks.{bit}
use Rattle.theory.specs.Rules.{Row}
use Rattle.theory.specs.Sets.{Test}
use Rattle.theory.specs.Solutions.{all_rows}
use Rattle.theory.proofs.ListLaws.{all_append}
use Rattle.mask.specs.Least.{meets_row}
use Rattle.mask.specs.Entries.{test_in, terms_in, rows_of_entry, rows_of_entries}
use Rattle.mask.specs.Meetings.{meets_entry}
use Rattle.mask.specs.Reasons.{Agrees}
use Rattle.mask.specs.Blames.{blamed}
use Rattle.mask.specs.Trials.{IsDecided}
use Rattle.mask.proofs.BlameLaws.{blamed_decides}
use Rattle.mask.proofs.EntryLaws.{entry_apart, entry_meets}
use Rattle.mask.proofs.LeastLaws.{meets_all}

-- the mask m meets every entry before i
abbrev pub MeetsBefore : ℕ → List ℕ → ℕ → ℕ → Type 0
MeetsBefore class entries m i = (k : ℕ) → k < i → meets_entry class m (get_or entries k 0) ≡ true

-- all entries pass
all_pass : (f : Row Test → Bool) (entries : List ℕ) → ((k : ℕ) → k < length entries → all_rows f (rows_of_entry (get_or entries k 0)) ≡ true) → all_rows f (rows_of_entries entries) ≡ true
all_pass f [] h = refl
all_pass f (e ∷ es) h = all_append f (rows_of_entry e) (rows_of_entries es) ∙ ap (λ b. b && all_rows f (rows_of_entries es)) (h 0 (omega arith)) ∙ all_pass f es (λ k lt. h (suc k) (omega arith))

-- one entry that fails
one_fails : (f : Row Test → Bool) (entries : List ℕ) (i : ℕ) → i < length entries → all_rows f (rows_of_entry (get_or entries i 0)) ≡ false → all_rows f (rows_of_entries entries) ≡ false
one_fails f [] i h e = absurd (omega arith)
one_fails f (r ∷ rs) zero h e = all_append f (rows_of_entry r) (rows_of_entries rs) ∙ ap (λ b. b && all_rows f (rows_of_entries rs)) e
one_fails f (r ∷ rs) (suc i) h e = all_append f (rows_of_entry r) (rows_of_entries rs) ∙ ap (λ b. all_rows f (rows_of_entry r) && b) (one_fails f rs i (omega arith) e) ∙ and-false (all_rows f (rows_of_entry r))

module _ (class : ℕ) where
  -- a mask that agrees on the blamed bits with one that fails the rows of an entry fails them too
  entry_decided : (m w e : ℕ) → meets_entry class m e ≡ false → Agrees 2 0 (bit (blamed m (test_in e))) m w → meets_entry class w e ≡ false
  entry_decided m w e h a = go (ℕ_discrete (bit_and (terms_in e) class) 0)
    where
      go : Dec (bit_and (terms_in e) class ≡ 0) → meets_entry class w e ≡ false
      go (yes z) = absurd (true≢false (sym (entry_apart class m e z) ∙ h))
      go (no ne) = entry_meets class w e ne ∙ blamed_decides m (test_in e) (bit class) (sym (entry_meets class m e ne) ∙ h) w a

  -- the entry at i decides that all of them fail
  pub walk_decided : (entries : List ℕ) (m i : ℕ) → i < length entries → meets_entry class m (get_or entries i 0) ≡ false → IsDecided (meets_all (rows_of_entries entries) class) (blamed m (test_in (get_or entries i 0))) m
  walk_decided entries m i h e w a = one_fails (meets_row class w) entries i h (entry_decided m w (get_or entries i 0) e a)

  -- past the last entry the mask meets all rows
  pub walk_end : (entries : List ℕ) (m i : ℕ) → MeetsBefore class entries m i → length entries ≤ i → meets_all (rows_of_entries entries) class m ≡ true
  walk_end entries m i s h = all_pass (meets_row class m) entries (λ k lt. s k (omega arith))
