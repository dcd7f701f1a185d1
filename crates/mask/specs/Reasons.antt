-- Reasons: which digits of a number already decide that it is of no use, so that a search may go past all numbers that have them.
-- Numbers are to any base b: masks have the base 2. `Fails w` says that the number w is of no use.
use Rattle.std.specs.Prelude.{ℕ, suc, ◌+◌, ◌*◌, ◌/◌, ◌^◌, ◌≤◌, ◌<◌, ◌≡◌, Bool, true}
use Rattle.theory.proofs.DigitLaws.{digit}

-- at the marked places from q on, w has the digits of m
abbrev pub Agrees : ℕ → ℕ → (ℕ → Bool) → ℕ → ℕ → Type 0
Agrees b q marked m w = (x : ℕ) → q ≤ x → marked x ≡ true → digit b m x ≡ digit b w x

-- those digits of m decide: every number that has them fails
abbrev pub Decided : ℕ → (ℕ → Type 0) → ℕ → (ℕ → Bool) → ℕ → Type 0
Decided b Fails q marked m = (w : ℕ) → Agrees b q marked m w → Fails w

-- at each place q, m's digits at the places above q that `why q` marks are the reason why a digit smaller than m's at q is of no use
abbrev pub Reasons : ℕ → (ℕ → Type 0) → (ℕ → ℕ → Bool) → ℕ → Type 0
Reasons b Fails why m = (q w : ℕ) → Agrees b (suc q) (why q) m w → digit b w q < digit b m q → Fails w

-- m with one more at the place q, and nothing below
abbrev pub raised : ℕ → ℕ → ℕ → ℕ
raised b q m = (m / b ^ q + 1) * b ^ q
