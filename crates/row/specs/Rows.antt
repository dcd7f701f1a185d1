-- Rows as numbers, and the row that a number says.
use Rattle.std.specs.Prelude.{ℕ}
use Rattle.theory.specs.Rules.{Row}
use Rattle.theory.specs.Sets.{Test, places_of, kind_of, test_of, number_at}
use Rattle.row.specs.declared.parts.RowParts.{RowParts}
use Rattle.row.specs.Parts.{packed, parts_of}

-- the place i of a test: places not used hold 0
abbrev pub place_at : Test → ℕ → ℕ
place_at t i = number_at (places_of t) i

-- a row as its parts, and as its number
abbrev pub parts_of_row : Row Test → RowParts
parts_of_row r = record { kind = kind_of r.test; term = r.term; first = place_at r.test 0; second = place_at r.test 1; third = place_at r.test 2 }

unfoldable pub pack_row : Row Test → ℕ
pack_row r = packed (parts_of_row r)

-- the row that parts say, and the one that a number says
abbrev pub row_of_parts : RowParts → Row Test
row_of_parts p = record { term = p.term; test = test_of p.kind p.first p.second p.third }

unfoldable pub row_of : ℕ → Row Test
row_of n = row_of_parts (parts_of n)
