-- A row as one number of 20 bits, and its parts.
use Rattle.std.specs.Prelude.{ℕ, ◌+◌, ◌*◌, ◌/◌, ◌%◌, ◌^◌}
use Rattle.row.specs.declared.parts.RowParts.{RowParts}

-- the width of a place, and that of the term and of the kind
abbrev pub place_bits : ℕ
place_bits = 4

abbrev pub term_bits : ℕ
term_bits = 4

-- where the term's bits begin, and the kind's, and how many bits a row has
abbrev pub term_at : ℕ
term_at = 3 * place_bits

abbrev pub kind_at : ℕ
kind_at = term_at + term_bits

abbrev pub row_bits : ℕ
row_bits = kind_at + term_bits

-- the kind in bits 16 to 19, c in 12 to 15, then three places of four bits, from the left
unfoldable pub packed : RowParts → ℕ
packed p =
    p.kind % 2 ^ term_bits * 2 ^ kind_at + p.term % 2 ^ term_bits * 2 ^ term_at
    + p.first % 2 ^ place_bits * 2 ^ (2 * place_bits) + p.second % 2 ^ place_bits * 2 ^ place_bits + p.third % 2 ^ place_bits

-- the parts of a number
unfoldable pub parts_of : ℕ → RowParts
parts_of n = record {
  kind = n / 2 ^ kind_at % 2 ^ term_bits;
  term = n / 2 ^ term_at % 2 ^ term_bits;
  first = n / 2 ^ (2 * place_bits) % 2 ^ place_bits;
  second = n / 2 ^ place_bits % 2 ^ place_bits;
  third = n % 2 ^ place_bits;
}
