-- A row has room for the tests that numbers say, and what it has room for it says again.
use Rattle.std.proofs.Common.{ℕ, zero, suc, ◌^◌, ◌<◌, ◌≡◌, ap, ◌∙◌, List, [], ◌∷◌, get_or, arith}
use Rattle.theory.specs.Lists.{Every}
use Rattle.theory.specs.Rules.{Row}
use Rattle.theory.specs.Sets.{Test, Place, IsSame, IsNotSame, IsIn, IsNotIn, ExactlyIfIn, ExactlyIfNotIn, ExactlyIfSame, ExactlyIfOr, ExactlyIfAnd, ExactlyIfAndNot, kind_of, tests_of, places_of, number_of, number_at}
use Rattle.theory.proofs.PlaceLaws.{test_again}
use Rattle.row.specs.declared.parts.RowParts.{RowParts}
use Rattle.row.specs.Parts.{place_bits, term_bits, row_bits, packed, parts_of}
use Rattle.row.specs.Rows.{parts_of_row, pack_row, row_of_parts, row_of}
use Rattle.row.specs.Tests.{HasRoom}
use Rattle.row.proofs.RoundTrips.{unpacked}

at_kind : (ts : List Test) (t : Test) → Every HasRoom ts → HasRoom t → (k : ℕ) → HasRoom (get_or ts k t)
at_kind [] t h e k = e
at_kind (s ∷ ts) t h e zero = h.0
at_kind (s ∷ ts) t h e (suc k) = at_kind ts t h.1 e k

abbrev Small : List ℕ → Type 0
Small = Every (λ x. x < 2 ^ place_bits)

pub row_room : (n : ℕ) → HasRoom (row_of n).test
unfolding row_of parts_of
row_room n = at_kind (tests_of p.first p.second p.third) (IsSame p.first) (one, (one, (one, (one, (two, (two, (two, (three, (three, (three, tt)))))))))) one p.kind
  where
    p : RowParts
    p = parts_of n

    one : Small (p.first ∷ [])
    one = (omega arith, tt)

    two : Small (p.first ∷ p.second ∷ [])
    two = (omega arith, (omega arith, tt))

    three : Small (p.first ∷ p.second ∷ p.third ∷ [])
    three = (omega arith, (omega arith, (omega arith, tt)))

kind_small : (t : Test) → kind_of t < 2 ^ term_bits
kind_small (IsSame d) = omega arith
kind_small (IsNotSame d) = omega arith
kind_small (IsIn x) = omega arith
kind_small (IsNotIn x) = omega arith
kind_small (ExactlyIfIn x y) = omega arith
kind_small (ExactlyIfNotIn x y) = omega arith
kind_small (ExactlyIfSame x a) = omega arith
kind_small (ExactlyIfOr x y z) = omega arith
kind_small (ExactlyIfAnd x y z) = omega arith
kind_small (ExactlyIfAndNot x y z) = omega arith

-- each place, and 0 where there is none
place_small : (ps : List Place) → Every (λ p. number_of p < 2 ^ place_bits) ps → (i : ℕ) → number_at ps i < 2 ^ place_bits
place_small [] h i = omega arith
place_small (p ∷ ps) h zero = h.0
place_small (p ∷ ps) h (suc i) = place_small ps h.1 i

pub packed_small : (p : RowParts) → packed p < 2 ^ row_bits
unfolding packed
packed_small p = omega arith

-- the term of a number has room too
pub term_room : (n : ℕ) → (row_of n).term < 2 ^ term_bits
unfolding row_of parts_of
term_room n = omega arith

module _ (r : Row Test) (term : r.term < 2 ^ term_bits) (room : HasRoom r.test) where
  pub parts_back : parts_of (pack_row r) ≡ parts_of_row r
  unfolding pack_row
  parts_back =
      let ps = places_of r.test in
      unpacked (parts_of_row r) (record { kind = kind_small r.test; term = term; first = place_small ps room 0; second = place_small ps room 1; third = place_small ps room 2 })

  pub room_back : row_of (pack_row r) ≡ r
  unfolding row_of
  room_back = ap row_of_parts parts_back ∙ ap (λ t. record { term = r.term; test = t }) (test_again r.test)
