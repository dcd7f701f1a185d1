-- The parts of an entry that is made, and the rows of any: when a walk over them passes, and that one test is that of all.
use Prim.Native.Nat.{ℕ, zero, suc, ◌+◌, ◌*◌, ◌%◌, ◌^◌, ◌≤◌, ◌<◌}
use mathlib.Core.Path.{◌≡◌, refl, sym, ap, subst, ◌∙◌}
use mathlib.Core.Logic.{◌≢◌}
use mathlib.Core.Bool.{Bool, true, false, not, ◌&&◌, ◌||◌, cond, true≢false, or-true}
use mathlib.Core.List.{◌∷◌}
use native.Mathlib.Omega.{arith}
use native.Mathlib.Decide.{ℕ_discrete}
use native.Mathlib.Nat.{mod-lt, mod-eq_of_lt}
use borrow.Author.Tests.{eqb-true, eqb-false, not-true, not-false}
use lib.Bits.{bit_and, and_le_l}
use lib.Dec.{eqb}
use lib.Pow.{pow_pos, high, low}
use Rattle.question.specs.Masks.{bit}
use Rattle.statement.proofs.TestLaws.{same_test, both_true}
use Rattle.theory.specs.Rules.{Row, row}
use Rattle.theory.specs.Sets.{Test, fits}
use Rattle.theory.specs.Solutions.{all_rows}
use Rattle.row.specs.Rows.{row_of}
use Rattle.mask.specs.Least.{meets_row}
use Rattle.mask.specs.Lowest.{lowest_set}
use Rattle.mask.specs.Entries.{term_room, row_width, entry_of, row_in, test_in, terms_in, rows_for, rows_of_entry}
use Rattle.mask.specs.Meetings.{is_asked}
use Rattle.question.proofs.BitLaws.{bit_and_lem, bit_both, bit_of_zero}
use Rattle.mask.proofs.BitLaws.{some_bit}

-- an entry that is made has the row, and the terms that there is room for
module _ (n terms : ℕ) (word : n < 2 ^ row_width) where
  pub made_row : row_in (entry_of n terms) ≡ n
  unfolding entry_of
  made_row = low (lowest_set (row_of n).test * 2 ^ term_room + terms % 2 ^ term_room) row_width word

  pub made_terms : terms_in (entry_of n terms) ≡ terms % 2 ^ term_room
  unfolding entry_of
  made_terms =
      let place = lowest_set (row_of n).test in
      ap (λ k. k % 2 ^ term_room) (high (place * 2 ^ term_room + terms % 2 ^ term_room) row_width word) ∙ low place term_room (mod-lt terms (pow_pos term_room))

  -- so its rows are those of the row's test for these terms
  pub made_rows : terms < 2 ^ term_room → rows_of_entry (entry_of n terms) ≡ rows_for term_room 0 terms (row_of n).test
  unfolding rows_of_entry
  made_rows small =
      ap (λ s. rows_for term_room 0 s (test_in (entry_of n terms))) (made_terms ∙ mod-eq_of_lt small) ∙ ap (λ k. rows_for term_room 0 terms (row_of k).test) made_row

-- the walk over the rows of some terms passes exactly if each of them does
module _ (f : Row Test → Bool) (t : Test) where
  pub rows_pass : (n c terms : ℕ) → ((d : ℕ) → c ≤ d → d < c + n → bit terms d ≡ true → f (row d t) ≡ true) → all_rows f (rows_for n c terms t) ≡ true
  rows_pass zero c terms h = refl
  rows_pass (suc n) c terms h = go (rows_pass n (suc c) terms (λ d lo hi b. h d (omega arith) (omega arith) b)) (bit terms c) refl
    where
      go : all_rows f (rows_for n (suc c) terms t) ≡ true → (b : Bool) → bit terms c ≡ b → all_rows f (cond b (row c t ∷ rows_for n (suc c) terms t) (rows_for n (suc c) terms t)) ≡ true
      go later true e = ap (λ b. b && all_rows f (rows_for n (suc c) terms t)) (h c (omega arith) (omega arith) e) ∙ later
      go later false e = later

  pub rows_each : (n c terms : ℕ) → all_rows f (rows_for n c terms t) ≡ true → (d : ℕ) → c ≤ d → d < c + n → bit terms d ≡ true → f (row d t) ≡ true
  rows_each zero c terms h d lo hi b = absurd (omega arith)
  rows_each (suc n) c terms h d lo hi b = go (λ k ne. rows_each n (suc c) terms k d (omega arith) (omega arith) b) (ℕ_discrete d c) (bit terms c) refl h
    where
      go : (all_rows f (rows_for n (suc c) terms t) ≡ true → d ≢ c → f (row d t) ≡ true) → Dec (d ≡ c) → (x : Bool) → bit terms c ≡ x →
          all_rows f (cond x (row c t ∷ rows_for n (suc c) terms t) (rows_for n (suc c) terms t)) ≡ true → f (row d t) ≡ true
      go later (yes e) true q k = subst (λ i. f (row i t) ≡ true) (sym e) (both_true (f (row c t)) (all_rows f (rows_for n (suc c) terms t)) k).0
      go later (yes e) false q k = absurd (true≢false (sym b ∙ ap (bit terms) e ∙ q))
      go later (no ne) true q k = later (both_true (f (row c t)) (all_rows f (rows_for n (suc c) terms t)) k).1 ne
      go later (no ne) false q k = later k ne

-- a test that every row of the entry passes
pub entry_pass : (f : Row Test → Bool) (e : ℕ) → ((c : ℕ) → bit (terms_in e) c ≡ true → f (row c (test_in e)) ≡ true) → all_rows f (rows_of_entry e) ≡ true
unfolding rows_of_entry
entry_pass f e h = rows_pass f (test_in e) term_room 0 (terms_in e) (λ d lo hi b. h d b)

-- rows that are passed over where their term is not in the class, and else all say P
module _ (class : ℕ) (P : Bool) (t : Test) (f : Row Test → Bool) (f_is : (c : ℕ) → f (row c t) ≡ (not (bit class c) || P)) (terms : ℕ) where
  -- where no term of the set is in the class, they pass
  apart : bit_and terms class ≡ 0 → all_rows f (rows_for term_room 0 terms t) ≡ true
  apart e = rows_pass f t term_room 0 terms (λ d lo hi b. f_is d ∙ go d (bit class d) refl b)
    where
      go : (d : ℕ) (x : Bool) → bit class d ≡ x → bit terms d ≡ true → (not x || P) ≡ true
      go d true q b = absurd (true≢false (sym (ap (λ x. x && bit class d) b ∙ q) ∙ sym (bit_and_lem terms class d) ∙ ap (λ i. bit i d) e ∙ bit_of_zero d))
      go d false q b = refl

  -- else they say P
  meet : terms < 2 ^ term_room → bit_and terms class ≢ 0 → all_rows f (rows_for term_room 0 terms t) ≡ P
  meet small ne = same_test (all_rows f (rows_for term_room 0 terms t)) P to from
    where
      to : all_rows f (rows_for term_room 0 terms t) ≡ true → P ≡ true
      to h = let s = some_bit term_room (bit_and terms class) (omega (arith, and_le_l terms class)) ne in
          let both = bit_both terms class s.0 s.2 in
          sym (ap (λ x. not x || P) both.1) ∙ sym (f_is s.0) ∙ rows_each f t term_room 0 terms h s.0 (omega arith) (omega (arith, s.1)) both.0

      from : P ≡ true → all_rows f (rows_for term_room 0 terms t) ≡ true
      from e = rows_pass f t term_room 0 terms (λ d lo hi b. f_is d ∙ ap (λ p. not (bit class d) || p) e ∙ or-true (not (bit class d)))

-- an entry is asked of a class that has one of its terms
module _ (class e : ℕ) where
  pub not_asked : is_asked class e ≡ false → bit_and (terms_in e) class ≡ 0
  not_asked h = eqb-true (bit_and (terms_in e) class) 0 (not-false (eqb (bit_and (terms_in e) class) 0) h)

  pub asked : is_asked class e ≡ true → bit_and (terms_in e) class ≢ 0
  asked h = eqb-false (bit_and (terms_in e) class) 0 (not-true (eqb (bit_and (terms_in e) class) 0) h)

module _ (class m e : ℕ) where
  -- no term of the entry is in the class
  pub entry_apart : bit_and (terms_in e) class ≡ 0 → all_rows (meets_row class m) (rows_of_entry e) ≡ true
  unfolding rows_of_entry
  entry_apart = apart class (fits m (bit class) (test_in e)) (test_in e) (meets_row class m) (λ c. refl) (terms_in e)

  -- some is: one test is that of all
  pub entry_meets : bit_and (terms_in e) class ≢ 0 → all_rows (meets_row class m) (rows_of_entry e) ≡ fits m (bit class) (test_in e)
  unfolding rows_of_entry
  entry_meets = meet class (fits m (bit class) (test_in e)) (test_in e) (meets_row class m) (λ c. refl) (terms_in e) (omega arith)
