-- The terms that rows ask for: of any family of tests, then of tests of sets.
use Rattle.std.specs.Prelude.{ℕ, Bool, ◌&&◌, ◌||◌, cond, List, [], eqb, ltb}
use Rattle.question.specs.Masks.{bit}
use Rattle.theory.specs.Lists.{all_of}
use Rattle.theory.specs.Rules.{Row}
use Rattle.theory.specs.Solutions.{all_rows}
use Rattle.theory.specs.Sets.{Test, places_of, terms_among, kind_of}

-- `asks t`: the terms that the test t asks for
module _ {Test : Type 0} (asks : Test → List ℕ) where
  -- are the terms known that a test of the term c asks for, but for c itself
  abbrev pub asked_known : (ℕ → Bool) → ℕ → Test → Bool
  asked_known known c t = all_of (λ d. eqb d c || known d) (asks t)

  -- are those of each row
  abbrev pub all_asked_known : (ℕ → Bool) → List (Row Test) → Bool
  all_asked_known known rows = all_rows (λ r. asked_known known r.term r.test) rows

-- the terms of a set, a number, that come before the term t
abbrev pub before : ℕ → ℕ → ℕ → Bool
before asked t d = bit asked d && ltb d t

-- the terms that a test of sets asks for: those among its places. "Is not the same", kind 1, asks for none: where it fails for some terms of a class, it fails for all of them
abbrev pub asks : Test → List ℕ
asks t = cond (eqb (kind_of t) 1) [] (terms_among (places_of t))
