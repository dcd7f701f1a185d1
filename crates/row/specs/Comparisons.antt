-- Which rows have one test.
use Rattle.std.specs.Prelude.{ℕ, ◌/◌, ◌%◌, ◌^◌, Bool, ◌&&◌, eqb}
use Rattle.row.specs.Parts.{term_at, kind_at}

-- two rows agree in the bits from the kind on, and in those of the places: in all but the term's
unfoldable pub same_test : ℕ → ℕ → Bool
same_test a b = eqb (a / 2 ^ kind_at) (b / 2 ^ kind_at) && eqb (a % 2 ^ term_at) (b % 2 ^ term_at)
