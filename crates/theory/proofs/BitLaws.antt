-- Numbers by their bits: some bits make a number, which has them.
use Prim.Native.Nat.{ℕ, ◌^◌, ◌<◌}
use mathlib.Core.Path.{◌≡◌, refl, ap, ◌∙◌}
use mathlib.Core.Bool.{Bool, true, false, cond}
use native.Mathlib.Omega.{arith}
use lib.Dec.{eqb}
use Rattle.question.specs.Masks.{bit}
use Rattle.theory.proofs.DigitLaws.{number, number_below, number_digit}

-- a bit as a digit to the base 2
unfoldable pub flag : Bool → ℕ
flag b = cond b 1 0

flag_below : (b : Bool) → flag b < 2
unfolding flag
flag_below true = omega arith
flag_below false = omega arith

flag_back : (b : Bool) → eqb (flag b) 1 ≡ b
unfolding flag
flag_back true = refl
flag_back false = refl

-- the number of n bits whose bit x is f x
module _ (n : ℕ) (f : ℕ → Bool) where
  unfoldable pub of_bits : ℕ
  of_bits = number 2 n (λ x. flag (f x))

  pub of_bits_below : of_bits < 2 ^ n
  unfolding of_bits
  of_bits_below = number_below 2 n (λ x. flag (f x)) (λ x. flag_below (f x))

  pub of_bits_bit : (x : ℕ) → x < n → bit of_bits x ≡ f x
  unfolding of_bits
  of_bits_bit x lt = ap (λ d. eqb d 1) (number_digit 2 n (λ x. flag (f x)) (λ x. flag_below (f x)) x lt) ∙ flag_back (f x)
