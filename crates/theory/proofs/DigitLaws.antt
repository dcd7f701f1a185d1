-- Numbers by their digits to a base, the lowest first: some digits below the base make a number, which has those digits.
use Prim.Native.Nat.{ℕ, zero, suc, ◌+◌, ◌*◌, ◌/◌, ◌%◌, ◌^◌, ◌<◌}
use mathlib.Core.Path.{◌≡◌}
use native.Mathlib.Omega.{arith}
use native.Mathlib.Nat.{pow-zero, pow-suc, pow-succ', div-one, div-div-eq-div-mul}
use lib.Arith.{digits_lt, digits_div, digits_mod}

-- digit x of m to the base b
abbrev pub digit : ℕ → ℕ → ℕ → ℕ
digit b m x = m / b ^ x % b

-- the number of n digits whose digit x is f x
abbrev pub number : ℕ → ℕ → (ℕ → ℕ) → ℕ
number b zero f = 0
number b (suc n) f = number b n (λ x. f (suc x)) * b + f 0

pub number_below : (b n : ℕ) (f : ℕ → ℕ) → ((x : ℕ) → f x < b) → number b n f < b ^ n
number_below b zero f h = rw pow-zero (omega arith)
number_below b (suc n) f h = rw pow-suc (digits_lt (number_below b n (λ x. f (suc x)) (λ x. h (suc x))) (h 0))

pub number_digit : (b n : ℕ) (f : ℕ → ℕ) → ((x : ℕ) → f x < b) → (x : ℕ) → x < n → digit b (number b n f) x ≡ f x
number_digit b zero f h x lt = absurd (omega arith)
number_digit b (suc n) f h zero lt = rw (pow-zero, div-one) (digits_mod (number b n (λ x. f (suc x))) (h 0))
number_digit b (suc n) f h (suc x) lt =
    rw (pow-succ', ← (div-div-eq-div-mul (number b (suc n) f) b (b ^ x)), digits_div (number b n (λ x. f (suc x))) (h 0)) (number_digit b n (λ x. f (suc x)) (λ x. h (suc x)) x (omega arith))
