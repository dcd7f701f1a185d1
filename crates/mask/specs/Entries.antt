-- Entries: rows that have one test and differ only in their term, written as one number.
use Rattle.std.specs.Prelude.{ℕ, zero, suc, ◌+◌, ◌*◌, ◌/◌, ◌%◌, ◌^◌, cond, List, [], ◌∷◌, ◌++◌}
use Rattle.question.specs.Masks.{bit}
use Rattle.theory.specs.Rules.{Row, row}
use Rattle.theory.specs.Sets.{Test}
use Rattle.row.specs.Parts.{term_bits}
use Rattle.row.specs.Rows.{row_of}
use Rattle.mask.specs.Lowest.{lowest_set}

-- how many terms a row's number has room for
abbrev pub term_room : ℕ
term_room = 2 ^ term_bits

-- the width of a row's number in an entry
abbrev pub row_width : ℕ
row_width = 32

-- the entry of the test of the row n for a set of terms, from the left: its place in the order of entries, the set of which as many bits count as there is room for terms, and the row's number
unfoldable pub entry_of : ℕ → ℕ → ℕ
entry_of n terms = (lowest_set (row_of n).test * 2 ^ term_room + terms % 2 ^ term_room) * 2 ^ row_width + n

-- the number of one of the rows of an entry, which says the test
abbrev pub row_in : ℕ → ℕ
row_in e = e % 2 ^ row_width

abbrev pub test_in : ℕ → Test
test_in e = (row_of (row_in e)).test

-- the set of the terms: bit c says that there is a row for the term c
abbrev pub terms_in : ℕ → ℕ
terms_in e = e / 2 ^ row_width % 2 ^ term_room

-- the rows with the test t for those of the terms c, c + 1, .. , n of them, that are in the set
abbrev pub rows_for : ℕ → ℕ → ℕ → Test → List (Row Test)
rows_for zero c terms t = []
rows_for (suc n) c terms t = cond (bit terms c) (row c t ∷ rows_for n (suc c) terms t) (rows_for n (suc c) terms t)

-- the rows of an entry, and those of a list of entries
unfoldable pub rows_of_entry : ℕ → List (Row Test)
rows_of_entry e = rows_for term_room 0 (terms_in e) (test_in e)

abbrev pub rows_of_entries : List ℕ → List (Row Test)
rows_of_entries [] = []
rows_of_entries (e ∷ es) = rows_of_entry e ++ rows_of_entries es
