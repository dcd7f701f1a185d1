-- A good number is the packing of the row that it says, and that row is declared; a declared row that there is room for packs to a good number.
use Prim.Native.Nat.{ℕ, zero, suc, ◌^◌, ◌≤◌, ◌<◌}
use mathlib.Core.Path.{◌≡◌, refl, sym, ap, ◌∙◌}
use mathlib.Core.Bool.{Bool, true, false, ◌&&◌}
use native.Mathlib.Omega.{arith}
use lib.Dec.{T, eqb, ltb, ltb→lt, lt→ltb, eqb→eq}
use lib.ListN.{get_or, get_or-eq_default}
use Rattle.statement.proofs.TestLaws.{T_true, true_T, and_left, and_right, and_both}
use Rattle.theory.specs.Rules.{Row}
use Rattle.theory.specs.Sets.{Test, IsSame, IsNotSame, IsIn, IsNotIn, ExactlyIfIn, ExactlyIfNotIn, ExactlyIfSame, ExactlyIfOr, ExactlyIfAnd, ExactlyIfAndNot, places_of, kind_of, test_of, places_declared, row_declared}
use Rattle.row.specs.declared.parts.RowParts.{RowParts}
use Rattle.row.specs.Parts.{term_bits, row_bits, packed, parts_of}
use Rattle.row.specs.Rows.{place_at, parts_of_row, pack_row, row_of_parts, row_of}
use Rattle.row.specs.Checks.{good_by_kind, places_good, row_good}
use Rattle.row.specs.Tests.{HasRoom}
use Rattle.row.proofs.RoomLaws.{packed_small, parts_back}
use Rattle.row.proofs.RoundTrips.{packed_again}

-- ten kinds, and no other
by_kind : (P : ℕ → Type 0) → P 0 → P 1 → P 2 → P 3 → P 4 → P 5 → P 6 → P 7 → P 8 → P 9 → ((k : ℕ) → P (suc (suc (suc (suc (suc (suc (suc (suc (suc (suc k))))))))))) → (k : ℕ) → P k
by_kind P a b c d e f g h i j more zero = a
by_kind P a b c d e f g h i j more (suc zero) = b
by_kind P a b c d e f g h i j more (suc (suc zero)) = c
by_kind P a b c d e f g h i j more (suc (suc (suc zero))) = d
by_kind P a b c d e f g h i j more (suc (suc (suc (suc zero)))) = e
by_kind P a b c d e f g h i j more (suc (suc (suc (suc (suc zero))))) = f
by_kind P a b c d e f g h i j more (suc (suc (suc (suc (suc (suc zero)))))) = g
by_kind P a b c d e f g h i j more (suc (suc (suc (suc (suc (suc (suc zero))))))) = h
by_kind P a b c d e f g h i j more (suc (suc (suc (suc (suc (suc (suc (suc zero)))))))) = i
by_kind P a b c d e f g h i j more (suc (suc (suc (suc (suc (suc (suc (suc (suc zero))))))))) = j
by_kind P a b c d e f g h i j more (suc (suc (suc (suc (suc (suc (suc (suc (suc (suc k)))))))))) = more k

-- three tests joined, taken apart
three : (a b c : Bool) → T (a && b && c) → T a × T b × T c
three a b c h = let ab = and_left (a && b) c h in (and_left a b ab, and_right a b ab, and_right (a && b) c h)

module _ (terms sets : ℕ) where
  -- what is good of the places x, y and z of a kind
  abbrev pub Good : ℕ → ℕ → ℕ → ℕ → Type 0
  Good x y z k = T (get_or (good_by_kind terms sets x y z) k false)

  -- one, two or three places used
  one : (a : Bool) → T a → T (a && true)
  one a h = and_both a true h tt

  two : (a b : Bool) → T a → T b → T (a && (b && true))
  two a b h i = and_both a (b && true) h (one b i)

  all_three : (a b c : Bool) → T (a && b && c) → T (a && (b && (c && true)))
  all_three a b c h = let p = three a b c h in and_both a (b && (c && true)) p.0 (two b c p.1 p.2)

  first_of : (a b c : Bool) → T (a && b && c) → T (a && true)
  first_of a b c h = one a (three a b c h).0

  two_of : (a b c : Bool) → T (a && b && c) → T (a && (b && true))
  two_of a b c h = let p = three a b c h in two a b p.0 p.1

  places_declared_lem : (x y z k : ℕ) → Good x y z k → T (places_declared terms sets (places_of (test_of k x y z)))
  places_declared_lem x y z =
      let a = ltb x terms in let b = ltb x sets in let c = ltb y sets in let d = ltb y terms in let e = ltb z sets in let f = eqb y 0 in let g = eqb z 0 in
      by_kind (λ k. Good x y z k → T (places_declared terms sets (places_of (test_of k x y z))))
      (first_of a f g) (first_of a f g) (first_of b f g) (first_of b f g)
      (two_of b c g) (two_of b c g) (two_of b d g)
      (all_three b c e) (all_three b c e) (all_three b c e)
      (λ k h. absurd h)

  abbrev parts : ℕ → ℕ → ℕ → ℕ → ℕ → RowParts
  parts k c x y z = record { kind = k; term = c; first = x; second = y; third = z }

  -- unused places hold 0, so the row's parts are those of the number
  parts_again : (c x y z k : ℕ) → Good x y z k → parts_of_row (row_of_parts (parts k c x y z)) ≡ parts k c x y z
  parts_again c x y z =
      by_kind (λ k. Good x y z k → parts_of_row (row_of_parts (parts k c x y z)) ≡ parts k c x y z)
      (two_zero 0 (ltb x terms)) (two_zero 1 (ltb x terms)) (two_zero 2 (ltb x sets)) (two_zero 3 (ltb x sets))
      (one_zero 4 (ltb x sets) (ltb y sets)) (one_zero 5 (ltb x sets) (ltb y sets)) (one_zero 6 (ltb x sets) (ltb y terms))
      (λ h. refl) (λ h. refl) (λ h. refl)
      (λ k h. absurd h)
    where
      two_zero : (k : ℕ) (a : Bool) → T (a && eqb y 0 && eqb z 0) → parts k c x 0 0 ≡ parts k c x y z
      two_zero k a h = let p = three a (eqb y 0) (eqb z 0) h in let ey = eqb→eq y 0 p.1 in let ez = eqb→eq z 0 p.2 in rw (ey, ez)

      one_zero : (k : ℕ) (a b : Bool) → T (a && b && eqb z 0) → parts k c x y 0 ≡ parts k c x y z
      one_zero k a b h = let ez = eqb→eq z 0 (three a b (eqb z 0) h).2 in rw ez

  -- what the code tests of parts that say the test t
  abbrev pub good_by_test : RowParts → Test → Bool
  good_by_test p (IsSame d) = ltb d terms && eqb p.second 0 && eqb p.third 0
  good_by_test p (IsNotSame d) = ltb d terms && eqb p.second 0 && eqb p.third 0
  good_by_test p (IsIn x) = ltb x sets && eqb p.second 0 && eqb p.third 0
  good_by_test p (IsNotIn x) = ltb x sets && eqb p.second 0 && eqb p.third 0
  good_by_test p (ExactlyIfIn x y) = ltb x sets && ltb y sets && eqb p.third 0
  good_by_test p (ExactlyIfNotIn x y) = ltb x sets && ltb y sets && eqb p.third 0
  good_by_test p (ExactlyIfSame x a) = ltb x sets && ltb a terms && eqb p.third 0
  good_by_test p (ExactlyIfOr x y z) = ltb x sets && ltb y sets && ltb z sets
  good_by_test p (ExactlyIfAnd x y z) = ltb x sets && ltb y sets && ltb z sets
  good_by_test p (ExactlyIfAndNot x y z) = ltb x sets && ltb y sets && ltb z sets

  -- is what is good of their kind, if there is such a kind
  pub places_tested : (p : RowParts) (t : Test) → p.kind < 10 → t ≡ (row_of_parts p).test → good_by_test p t ≡ places_good terms sets p
  unfolding places_good
  places_tested p t few e =
      let x = p.first in let y = p.second in let z = p.third in
      rw e
      (by_kind (λ k. k < 10 → good_by_test p (test_of k x y z) ≡ get_or (good_by_kind terms sets x y z) k false)
      (λ h. refl) (λ h. refl) (λ h. refl) (λ h. refl) (λ h. refl) (λ h. refl) (λ h. refl) (λ h. refl) (λ h. refl) (λ h. refl)
      (λ k h. absurd (omega arith))
      p.kind few)

  pub places_past : (p : RowParts) → 10 ≤ p.kind → false ≡ places_good terms sets p
  unfolding places_good
  places_past p h = sym (get_or-eq_default (good_by_kind terms sets p.first p.second p.third) false {n = p.kind} h)

  -- the places of a test are good if they are declared: one place used, two, three
  used_one : (a : Bool) → T (a && true) → T (a && true && true)
  used_one true h = tt
  used_one false h = absurd h

  used_two : (a b : Bool) → T (a && (b && true)) → T (a && b && true)
  used_two true true h = tt
  used_two true false h = absurd h
  used_two false b h = absurd h

  used_three : (a b c : Bool) → T (a && (b && (c && true))) → T (a && b && c)
  used_three true true true h = tt
  used_three true true false h = absurd h
  used_three true false c h = absurd h
  used_three false b c h = absurd h

  pub test_good : (t : Test) → T (places_declared terms sets (places_of t)) → Good (place_at t 0) (place_at t 1) (place_at t 2) (kind_of t)
  test_good (IsSame d) h = used_one (ltb d terms) h
  test_good (IsNotSame d) h = used_one (ltb d terms) h
  test_good (IsIn x) h = used_one (ltb x sets) h
  test_good (IsNotIn x) h = used_one (ltb x sets) h
  test_good (ExactlyIfIn x y) h = used_two (ltb x sets) (ltb y sets) h
  test_good (ExactlyIfNotIn x y) h = used_two (ltb x sets) (ltb y sets) h
  test_good (ExactlyIfSame x a) h = used_two (ltb x sets) (ltb a terms) h
  test_good (ExactlyIfOr x y z) h = used_three (ltb x sets) (ltb y sets) (ltb z sets) h
  test_good (ExactlyIfAnd x y z) h = used_three (ltb x sets) (ltb y sets) (ltb z sets) h
  test_good (ExactlyIfAndNot x y z) h = used_three (ltb x sets) (ltb y sets) (ltb z sets) h

  -- a declared row that there is room for packs to a good number
  pub room_good : (r : Row Test) → r.term < 2 ^ term_bits → HasRoom r.test → T (row_declared terms sets r) → row_good terms sets (pack_row r) ≡ true
  unfolding row_good places_good pack_row
  room_good r term room declared =
      let n = packed (parts_of_row r) in
      let its_term = and_left (ltb r.term terms) (places_declared terms sets (places_of r.test)) declared in
      let its_places = and_right (ltb r.term terms) (places_declared terms sets (places_of r.test)) declared in
      true_T (row_good terms sets n)
      (and_both (ltb n (2 ^ row_bits)) (ltb (parts_of n).term terms && places_good terms sets (parts_of n)) (lt→ltb n (2 ^ row_bits) (packed_small (parts_of_row r)))
      (rw (parts_back r term room) (and_both (ltb r.term terms) (places_good terms sets (parts_of_row r)) its_term (test_good r.test its_places))))

  module _ (n : ℕ) (good : row_good terms sets n ≡ true) where
    small : T (ltb n (2 ^ row_bits))
    unfolding row_good
    small = and_left (ltb n (2 ^ row_bits)) (ltb (parts_of n).term terms && places_good terms sets (parts_of n)) (T_true good)

    rest : T (ltb (parts_of n).term terms && places_good terms sets (parts_of n))
    unfolding row_good
    rest = and_right (ltb n (2 ^ row_bits)) (ltb (parts_of n).term terms && places_good terms sets (parts_of n)) (T_true good)

    places : Good (parts_of n).first (parts_of n).second (parts_of n).third (parts_of n).kind
    unfolding places_good
    places = and_right (ltb (parts_of n).term terms) (places_good terms sets (parts_of n)) rest

    pub good_declared : T (row_declared terms sets (row_of n))
    unfolding row_of
    good_declared = and_both (ltb (parts_of n).term terms) (places_declared terms sets (places_of (row_of n).test)) (and_left (ltb (parts_of n).term terms) (places_good terms sets (parts_of n)) rest) (places_declared_lem (parts_of n).first (parts_of n).second (parts_of n).third (parts_of n).kind places)

    pub good_packs : pack_row (row_of n) ≡ n
    unfolding row_of pack_row
    good_packs = ap packed (parts_again (parts_of n).term (parts_of n).first (parts_of n).second (parts_of n).third (parts_of n).kind places) ∙ packed_again n (ltb→lt n (2 ^ row_bits) small)
