-- Of which classes an entry is asked, and whether a mask meets it.
use Rattle.std.specs.Prelude.{ℕ, Bool, not, eqb}
use Rattle.std.specs.Int.Bits.{bit_and}
use Rattle.theory.specs.Solutions.{all_rows}
use Rattle.mask.specs.Least.{meets_row}
use Rattle.mask.specs.Entries.{terms_in, rows_of_entry}

-- has the entry a row for a term of the class
abbrev pub is_asked : ℕ → ℕ → Bool
is_asked class e = not (eqb (bit_and (terms_in e) class) 0)

-- does the mask m of the class meet the rows of the entry
abbrev pub meets_entry : ℕ → ℕ → ℕ → Bool
meets_entry class m e = all_rows (meets_row class m) (rows_of_entry e)
