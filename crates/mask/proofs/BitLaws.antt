-- Single bits of a number as digits to the base 2.
use Prim.Native.Nat.{ℕ, zero, suc, ◌+◌, ◌*◌, ◌/◌, ◌%◌, ◌^◌, ◌≤◌, ◌<◌}
use mathlib.Core.Path.{◌≡◌, ap, ◌∙◌}
use mathlib.Core.Bool.{true, false}
use mathlib.Core.Logic.{◌≢◌}
use native.Mathlib.Omega.{arith}
use native.Mathlib.Decide.{ℕ_discrete}
use native.Mathlib.Nat.{mul-le-mul_left, pow-zero, pow-suc, div-one}
use borrow.Author.Tests.{eqb-true, eqb-false, eq-eqb}
use lib.Dec.{eqb}
use lib.Pow.{pow_pos}
use Rattle.question.specs.Masks.{bit}
use Rattle.theory.proofs.DigitLaws.{digit}
use Rattle.mask.specs.Reasons.{raised}
use Rattle.mask.proofs.RaisedLaws.{digit_lt, digit_suc, raised_more, raised_fits}

-- a bit that is set is the largest digit, and one that is not can rise
pub bit_set : (m q : ℕ) → bit m q ≡ true → digit 2 m q + 1 ≡ 2
bit_set m q e = omega (arith, eqb-true (digit 2 m q) 1 e)

pub bit_clear : (m q : ℕ) → bit m q ≡ false → digit 2 m q + 1 < 2
bit_clear m q e = let n : digit 2 m q ≡ 1 → ⊥ = eqb-false (digit 2 m q) 1 e in omega (arith, digit_lt 2 m q (omega arith))

-- a number of s bits raised at one that it lacks is larger, and has s bits
pub raised_larger : (s m q : ℕ) → q < s → m < 2 ^ s → bit m q ≡ false → (m < raised 2 q m) × (raised 2 q m < 2 ^ s)
raised_larger s m q hq hm e = (raised_more 2 q m (omega arith) (bit_clear m q e), raised_fits 2 q m (omega arith) (bit_clear m q e) s hq hm)

-- the quotient that is shifted up is no larger than the word that it makes
pub quotient_small : (m q : ℕ) → m / 2 ^ q + 1 ≤ raised 2 q m
quotient_small m q = let p : (m / 2 ^ q + 1) * 1 ≤ (m / 2 ^ q + 1) * 2 ^ q = mul-le-mul_left (m / 2 ^ q + 1) (pow_pos q) in omega arith

-- every number but 0 has a bit
pub some_bit : (k n : ℕ) → n < 2 ^ k → n ≢ 0 → (x : ℕ) × (x < k) × (bit n x ≡ true)
some_bit zero n h ne = absurd (ne (omega (arith, pow-zero 2)))
some_bit (suc k) n h ne = go (ℕ_discrete (n % 2) 1) (λ z. some_bit k (n / 2) (omega (arith, pow-suc 2 k)) z)
  where
    go : Dec (n % 2 ≡ 1) → (n / 2 ≢ 0 → (x : ℕ) × (x < k) × (bit (n / 2) x ≡ true)) → (x : ℕ) × (x < suc k) × (bit n x ≡ true)
    go (yes e) upper = (0, omega arith, eq-eqb (n / 2 ^ 0 % 2) 1 (rw (pow-zero, div-one) e))
    go (no e) upper = let s = upper (λ z. ne (omega arith)) in (suc s.0, omega (arith, s.1), ap (λ d. eqb d 1) (digit_suc 2 n s.0) ∙ s.2)
