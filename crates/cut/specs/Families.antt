-- What the laws take for granted of a family of tests.
use Rattle.std.specs.Prelude.{ℕ, ◌<◌, ◌≡◌, Bool, List, T}
use Rattle.theory.specs.Lists.{Every}
use Rattle.theory.specs.Rules.{Row}

-- a family of tests: three operations, and three laws about them
pub record Family (Test : Type 0) : Type 0 where
  -- does a term pass a test, where its class's mask is given and which terms are the same as it
  pub fits : ℕ → (ℕ → Bool) → Test → Bool
  -- the terms that a test names, and those that it asks for
  pub names : Test → List ℕ
  pub asks : Test → List ℕ
  -- a test looks at no terms but those that it names
  pub looks : (m : ℕ) (same other : ℕ → Bool) (t : Test) → Every (λ d. same d ≡ other d) (names t) → fits m same t ≡ fits m other t
  -- it asks for none but those that it names
  pub named : (terms : ℕ) (t : Test) → Every (λ d. d < terms) (names t) → Every (λ d. d < terms) (asks t)
  -- fewer terms of a class pass what all of them pass, if they have those of the class that are asked for
  pub fewer : (m : ℕ) (few all : ℕ → Bool) (t : Test) → ((d : ℕ) → T (few d) → T (all d)) → Every (λ d. few d ≡ all d) (asks t) → T (fits m all t) → T (fits m few t)

-- the row is about one of so many terms, and names only such
abbrev pub Within : {Test : Type 0} → Family Test → ℕ → Row Test → Type 0
Within F terms r = (r.term < terms) × Every (λ d. d < terms) (F.names r.test)
