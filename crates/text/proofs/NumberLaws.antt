-- Numbers in decimal, read from a place on: a digit, a byte that is none, the end, and a number that is too large already.
use Prim.Native.Nat.{ℕ, ◌+◌, ◌-◌, ◌*◌, ◌≤◌, ◌<◌}
use mathlib.Core.Path.{◌≡◌, refl}
use mathlib.Core.Bool.{Bool, true, false, and-false}
use mathlib.Core.List.{List, [], ◌∷◌}
use native.Mathlib.Omega.{arith}
use native.Mathlib.Numerals.{add-one}
use borrow.Author.Tests.{eq-eqb, ne_eqb, le-leb, lt-leb}
use lib.Dec.{leb}
use lib.ListN.{length, get_or, drop, drop_of_length-le}
use lib.Seq.{drop-cons}
use Rattle.std.specs.Prelude.{Some, None}
use Rattle.text.specs.Decimals.{digit, is_digit, digits_from, number_said, up_to, number_up_to}

-- which bytes are digits
pub below_digits : (b : ℕ) → b < digit 0 → is_digit b ≡ false
below_digits b h = rw (lt-leb (digit 0) b h)

pub above_digits : (b : ℕ) → digit 9 < b → is_digit b ≡ false
above_digits b h = rw (lt-leb b (digit 9) h) (and-false (leb (digit 0) b))

pub among_digits : (b : ℕ) → digit 0 ≤ b → b ≤ digit 9 → is_digit b ≡ true
among_digits b h k = rw (le-leb (digit 0) b h) (le-leb b (digit 9) k)

-- a number that is too large stays so, whatever follows
pub digits_above : (most n : ℕ) (bytes : List ℕ) → most < n → up_to most (digits_from n bytes) ≡ None
unfolding digits_from
digits_above most n [] h = rw (lt-leb n most h)
digits_above most n (b ∷ bytes) h = go (is_digit b) refl (digits_above most (n * 10 + (b - digit 0)) bytes (omega arith))
  where
    go : (d : Bool) → is_digit b ≡ d → up_to most (digits_from (n * 10 + (b - digit 0)) bytes) ≡ None → up_to most (digits_from n (b ∷ bytes)) ≡ None
    go true e later = rw e later
    go false e later = rw e

module _ (most n : ℕ) (bytes : List ℕ) (i : ℕ) where
  pub digits_end : length bytes ≤ i → n ≤ most → up_to most (digits_from n (drop i bytes)) ≡ Some n
  unfolding digits_from
  digits_end h k = rw (drop_of_length-le bytes h) (rw (le-leb n most k))

  pub digits_stop : i < length bytes → is_digit (get_or bytes i 0) ≡ false → up_to most (digits_from n (drop i bytes)) ≡ None
  unfolding digits_from
  digits_stop h e = rw (drop-cons bytes i 0 h) (rw e)

  pub digits_next : i < length bytes → is_digit (get_or bytes i 0) ≡ true → digits_from n (drop i bytes) ≡ digits_from (n * 10 + (get_or bytes i 0 - digit 0)) (drop (i + 1) bytes)
  unfolding digits_from
  digits_next h e = rw (add-one i, drop-cons bytes i 0 h) (rw e)

-- a number by its first byte
module _ (most : ℕ) (bytes : List ℕ) where
  pub number_none : length bytes ≡ 0 → number_up_to most bytes ≡ None
  unfolding number_up_to number_said
  number_none h = rw (drop_of_length-le bytes {i = 0} (omega arith))

pub number_led : (most : ℕ) (bytes : List ℕ) → get_or bytes 0 0 ≡ digit 0 → 1 < length bytes → number_up_to most bytes ≡ None
unfolding number_up_to number_said
number_led most [] e h = absurd (omega arith)
number_led most (b ∷ []) e h = absurd (omega arith)
number_led most (b ∷ c ∷ bytes) e h = rw (eq-eqb b (digit 0) e)

pub number_other : (most : ℕ) (bytes : List ℕ) → 0 < length bytes → (get_or bytes 0 0 ≡ digit 0 → ⊥) → number_up_to most bytes ≡ up_to most (digits_from 0 bytes)
unfolding number_up_to number_said
number_other most [] h e = absurd (omega arith)
number_other most (b ∷ []) h e = refl
number_other most (b ∷ c ∷ bytes) h e = rw (ne_eqb b (digit 0) e)

pub number_single : (most : ℕ) (bytes : List ℕ) → length bytes ≡ 1 → number_up_to most bytes ≡ up_to most (digits_from 0 bytes)
unfolding number_up_to number_said
number_single most [] h = absurd (omega arith)
number_single most (b ∷ []) h = refl
number_single most (b ∷ c ∷ bytes) h = absurd (omega arith)
