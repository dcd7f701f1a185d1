-- The numbers of the variables: pairs, terms and sets, and the spare each have their own, a number leads back to its pair or its term and set, and a solution's truth values are read there.
use Prim.Native.Nat.{ℕ, zero, suc, ◌+◌, ◌-◌, ◌*◌, ◌≤◌, ◌<◌}
use mathlib.Core.Path.{◌≡◌, refl}
use mathlib.Core.Bool.{Bool, true, false, cond}
use mathlib.Core.Logic.{◌≢◌}
use native.Mathlib.Omega.{arith}
use borrow.Author.Tests.{ltb-true, ltb-false, lt-ltb, le-ltb}
use lib.Arith.{digits_lt, digits_div, digits_mod}
use lib.Dec.{eqb, ltb}
use Rattle.question.specs.Masks.{bit}
use Rattle.theory.specs.Arrangements.{class_of}
use Rattle.theory.specs.Solutions.{Solution, mask_of}
use Rattle.clauses.specs.Variables.{pair_count, pair_index, pair_variable, same_variable, in_variable, spare_variable}
use Rattle.clauses.specs.Models.{Pair, pair_at, truth_said}

-- one less than n + 1
less_one : (n : ℕ) → suc n - 1 ≡ n
less_one n = omega arith

pub pair_below : (terms c d : ℕ) → c < d → d < terms → pair_index terms c d < pair_count terms
unfolding pair_index pair_count
pair_below zero c d cd dt = absurd (omega arith)
pair_below (suc n) zero d cd dt = omega arith
pair_below (suc n) (suc c) d cd dt = rw (less_one n) (omega (arith, pair_below n c (d - 1) (omega arith) (omega arith)))

abbrev pub pair_of : ℕ → ℕ → Pair
pair_of c d = record { low = c; high = d }

-- the index of a pair leads back to the pair
pub pair_back : (terms c d : ℕ) → c < d → d < terms → pair_at terms (pair_index terms c d) ≡ pair_of c d
unfolding pair_index pair_at
pair_back zero c d cd dt = absurd (omega arith)
pair_back (suc n) zero d cd dt = let e : suc (d - 1) ≡ d = omega arith in rw (lt-ltb (d - 1) n (omega arith), e)
pair_back (suc n) (suc c) d cd dt =
    let e : suc (d - 1) ≡ d = omega arith in
    let f : n + pair_index n c (d - 1) - n ≡ pair_index n c (d - 1) = omega arith in
    rw (less_one n, le-ltb (n + pair_index n c (d - 1)) n (omega arith), f, pair_back n c (d - 1) (omega arith) (omega arith), e)

module _ (terms sets : ℕ) where
  pub in_below : (c x : ℕ) → c < terms → x < sets → c * sets + x < terms * sets
  in_below c x ct xs = digits_lt ct xs

  -- a number from 1 to the number of variables
  abbrev pub Numbered : ℕ → Type 0
  Numbered v = (1 ≤ v) × (v ≤ spare_variable terms sets)

  pub pair_numbered : (c d : ℕ) → c < d → d < terms → Numbered (pair_variable terms sets c d)
  pair_numbered c d cd dt = (omega arith, omega (arith, pair_below terms c d cd dt))

  pub in_numbered : (c x : ℕ) → c < terms → x < sets → Numbered (in_variable terms sets c x)
  in_numbered c x ct xs = (omega arith, omega (arith, in_below c x ct xs))

  pub spare_numbered : Numbered (spare_variable terms sets)
  spare_numbered = (omega arith, omega arith)

  pub same_numbered : (c d : ℕ) → c ≢ d → c < terms → d < terms → Numbered (same_variable terms sets c d)
  same_numbered c d ne ct dt = go (ltb c d) refl
    where
      go : (b : Bool) → ltb c d ≡ b → Numbered (cond b (pair_variable terms sets c d) (pair_variable terms sets d c))
      go true e = pair_numbered c d (ltb-true c d e) dt
      go false e = let le : d ≤ c = ltb-false c d e in pair_numbered d c (omega arith) ct

  -- the truth values that a solution says
  module _ (sol : Solution) where
    abbrev class_in : ℕ → ℕ
    class_in c = class_of sol.arrangement c

    pub truth_pair : (c d : ℕ) → c < d → d < terms → truth_said terms sets sol (pair_variable terms sets c d) ≡ eqb (class_in c) (class_in d)
    unfolding truth_said
    truth_pair c d cd dt = rw (lt-ltb (pair_index terms c d) (pair_count terms) (pair_below terms c d cd dt), pair_back terms c d cd dt)

    pub truth_in_lem : (c x : ℕ) → c < terms → x < sets → truth_said terms sets sol (in_variable terms sets c x) ≡ bit (mask_of sol.masks (class_in c)) x
    unfolding truth_said
    truth_in_lem c x ct xs =
        let v : ℕ = c * sets + x in
        let less : pair_count terms + v - pair_count terms ≡ v = omega arith in
        rw (
          le-ltb (pair_count terms + v) (pair_count terms) (omega arith),
          lt-ltb (pair_count terms + v) (pair_count terms + terms * sets) (omega (arith, in_below c x ct xs)),
          less,
          digits_div c xs,
          digits_mod c xs,
        )

    pub truth_spare : truth_said terms sets sol (spare_variable terms sets) ≡ false
    unfolding truth_said
    truth_spare = rw (le-ltb (pair_count terms + terms * sets) (pair_count terms) (omega arith), le-ltb (pair_count terms + terms * sets) (pair_count terms + terms * sets) (omega arith))
