-- The rows of flat sets: the row kinds 0 to 9 of document 01, when a term passes each, and the places of each.
use Rattle.std.specs.Prelude.{ℕ, Bool, not, ◌&&◌, ◌||◌, List, [], ◌∷◌, map, ltb, get_or}
use Rattle.std.specs.Bool.{beq}
use Rattle.question.specs.Masks.{bit}
use Rattle.theory.specs.Lists.{all_of}
use Rattle.theory.specs.Rules.{Row}

-- the column "row for term c", without c: d and a are terms, x, y and z are sets
pub data Test : Type 0 where
  -- 0, 1: c is, or is not, the same as term d
  IsSame IsNotSame : ℕ → Test
  -- 2, 3: c in x; c not in x
  IsIn IsNotIn : ℕ → Test
  -- 4, 5, 6: c in x exactly if c in y; if c not in y; if c is the same as term a
  ExactlyIfIn ExactlyIfNotIn ExactlyIfSame : ℕ → ℕ → Test
  -- 7, 8, 9: c in x exactly if c in y or z; y and z; y and not z
  ExactlyIfOr ExactlyIfAnd ExactlyIfAndNot : ℕ → ℕ → ℕ → Test

-- does a term pass, where `has` says which sets it is in and `same` which terms are the same as it
abbrev pub passes : (ℕ → Bool) → (ℕ → Bool) → Test → Bool
passes has same (IsSame d) = same d
passes has same (IsNotSame d) = not (same d)
passes has same (IsIn x) = has x
passes has same (IsNotIn x) = not (has x)
passes has same (ExactlyIfIn x y) = beq (has x) (has y)
passes has same (ExactlyIfNotIn x y) = beq (has x) (not (has y))
passes has same (ExactlyIfSame x a) = beq (has x) (same a)
passes has same (ExactlyIfOr x y z) = beq (has x) (has y || has z)
passes has same (ExactlyIfAnd x y z) = beq (has x) (has y && has z)
passes has same (ExactlyIfAndNot x y z) = beq (has x) (has y && not (has z))

-- bit x of a class's mask set means that the class is in set x
abbrev pub fits : ℕ → (ℕ → Bool) → Test → Bool
fits m = passes (bit m)

-- a place of a row: a term or a set
pub data Place : Type 0 where
  term set : ℕ → Place

-- the places of each kind in their order: x y z, x y, x a, x or d
abbrev pub places_of : Test → List Place
places_of (IsSame d) = term d ∷ []
places_of (IsNotSame d) = term d ∷ []
places_of (IsIn x) = set x ∷ []
places_of (IsNotIn x) = set x ∷ []
places_of (ExactlyIfIn x y) = set x ∷ set y ∷ []
places_of (ExactlyIfNotIn x y) = set x ∷ set y ∷ []
places_of (ExactlyIfSame x a) = set x ∷ term a ∷ []
places_of (ExactlyIfOr x y z) = set x ∷ set y ∷ set z ∷ []
places_of (ExactlyIfAnd x y z) = set x ∷ set y ∷ set z ∷ []
places_of (ExactlyIfAndNot x y z) = set x ∷ set y ∷ set z ∷ []

-- the terms among some places, and the sets
abbrev pub terms_among : List Place → List ℕ
terms_among [] = []
terms_among (term c ∷ ps) = c ∷ terms_among ps
terms_among (set x ∷ ps) = terms_among ps

abbrev pub sets_among : List Place → List ℕ
sets_among [] = []
sets_among (term c ∷ ps) = sets_among ps
sets_among (set x ∷ ps) = x ∷ sets_among ps

-- the column "kind"
abbrev pub kind_of : Test → ℕ
kind_of (IsSame d) = 0
kind_of (IsNotSame d) = 1
kind_of (IsIn x) = 2
kind_of (IsNotIn x) = 3
kind_of (ExactlyIfIn x y) = 4
kind_of (ExactlyIfNotIn x y) = 5
kind_of (ExactlyIfSame x a) = 6
kind_of (ExactlyIfOr x y z) = 7
kind_of (ExactlyIfAnd x y z) = 8
kind_of (ExactlyIfAndNot x y z) = 9

-- the tests that the numbers x, y and z make, kind by kind
abbrev pub tests_of : ℕ → ℕ → ℕ → List Test
tests_of x y z = IsSame x ∷ IsNotSame x ∷ IsIn x ∷ IsNotIn x ∷ ExactlyIfIn x y ∷ ExactlyIfNotIn x y ∷ ExactlyIfSame x y ∷ ExactlyIfOr x y z ∷ ExactlyIfAnd x y z ∷ ExactlyIfAndNot x y z ∷ []

-- the test that a kind and three numbers say; rows of a kind above 9 are refused, and a number above 9 reads as kind 0
abbrev pub test_of : ℕ → ℕ → ℕ → ℕ → Test
test_of kind x y z = get_or (tests_of x y z) kind (IsSame x)

-- the number of a term or set
abbrev pub number_of : Place → ℕ
number_of (term c) = c
number_of (set x) = x

-- the number at the place i: places not used hold 0
abbrev pub number_at : List Place → ℕ → ℕ
number_at ps i = get_or (map number_of ps) i 0

-- the test of a kind with these places
abbrev pub test_with : ℕ → List Place → Test
test_with kind ps = test_of kind (number_at ps 0) (number_at ps 1) (number_at ps 2)

-- where there are so many terms and so many sets
module _ (terms sets : ℕ) where
  -- is the place the number of a term, or of a set, that there is
  abbrev pub place_declared : Place → Bool
  place_declared (term c) = ltb c terms
  place_declared (set x) = ltb x sets

  -- are all places
  abbrev pub places_declared : List Place → Bool
  places_declared ps = all_of place_declared ps

  -- are the row's term and its places
  abbrev pub row_declared : Row Test → Bool
  row_declared r = ltb r.term terms && places_declared (places_of r.test)
