-- A declared row packs to a good number, and the number says the row again.
use Prim.Native.Nat.{ℕ, ◌^◌, ◌≤◌, ◌<◌}
use mathlib.Core.Path.{◌≡◌}
use mathlib.Core.Bool.{true}
use native.Mathlib.Omega.{arith}
use lib.Dec.{T, ltb, ltb→lt}
use Rattle.question.specs.Limits.{max_terms, max_sets}
use Rattle.statement.proofs.TestLaws.{and_left, and_right}
use Rattle.theory.specs.Rules.{Row}
use Rattle.theory.specs.Sets.{Test, Place, term, set, number_of, place_declared, places_of, places_declared, row_declared}
use Rattle.theory.proofs.ListLaws.{every_map, all_every}
use Rattle.row.specs.Parts.{place_bits, term_bits}
use Rattle.row.specs.Rows.{pack_row, row_of}
use Rattle.row.specs.Checks.{row_good}
use Rattle.row.specs.Tests.{HasRoom}
use Rattle.row.proofs.RoomLaws.{room_back}
use Rattle.row.proofs.GoodRows.{room_good}

-- the limits on terms and sets keep every place within its width
module _ (terms sets : ℕ) (few_terms : terms ≤ max_terms) (few_sets : sets ≤ max_sets) where
  small : (p : Place) → T (place_declared terms sets p) → number_of p < 2 ^ place_bits
  small (term c) h = omega (arith, ltb→lt c terms h)
  small (set x) h = omega (arith, ltb→lt x sets h)

  module _ (r : Row Test) (declared : T (row_declared terms sets r)) where
    term_small : r.term < 2 ^ term_bits
    term_small = omega (arith, ltb→lt r.term terms (and_left (ltb r.term terms) (places_declared terms sets (places_of r.test)) declared))

    room : HasRoom r.test
    room =
        let ps = places_of r.test in
        every_map (λ p. T (place_declared terms sets p)) (λ p. number_of p < 2 ^ place_bits) small ps (all_every (place_declared terms sets) ps (and_right (ltb r.term terms) (places_declared terms sets ps) declared))

    pub row_back : row_of (pack_row r) ≡ r
    row_back = room_back r term_small room

    pub declared_good : row_good terms sets (pack_row r) ≡ true
    declared_good = room_good terms sets r term_small room declared
