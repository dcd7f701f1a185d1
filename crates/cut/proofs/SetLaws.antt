-- Tests of sets are a family: they look at their places and at nothing else.
use Prim.Native.Nat.{ℕ, ◌<◌}
use mathlib.Core.Path.{◌≡◌, refl}
use mathlib.Core.Bool.{Bool, true, false, not, cond}
use mathlib.Core.List.{List, [], ◌∷◌}
use lib.Dec.{T, eqb, ltb→lt}
use Rattle.question.specs.Masks.{bit}
use Rattle.theory.specs.Lists.{Every}
use Rattle.theory.specs.Rules.{Row}
use Rattle.theory.specs.Solutions.{all_rows}
use Rattle.theory.specs.Sets.{Test, IsSame, IsNotSame, IsIn, IsNotIn, ExactlyIfIn, ExactlyIfNotIn, ExactlyIfSame, ExactlyIfOr, ExactlyIfAnd, ExactlyIfAndNot, fits, Place, term, set, places_of, terms_among, kind_of, place_declared, row_declared}
use Rattle.theory.proofs.ListLaws.{every_map, all_every}
use Rattle.theory.proofs.PlaceLaws.{Agree, passes_places, declared_term, declared_places}
use Rattle.cut.specs.Asked.{asks}
use Rattle.cut.specs.Families.{Family, Within}

-- what holds of each term among some places
module _ (P : ℕ → Type 0) (Q : Place → Type 0) where
  at_terms : ((c : ℕ) → Q (term c) → P c) → (ps : List Place) → Every Q ps → Every P (terms_among ps)
  at_terms f [] h = tt
  at_terms f (term c ∷ ps) h = (f c h.0, at_terms f ps h.1)
  at_terms f (set x ∷ ps) h = at_terms f ps h.1

  of_terms : ((c : ℕ) → P c → Q (term c)) → ((x : ℕ) → Q (set x)) → (ps : List Place) → Every P (terms_among ps) → Every Q ps
  of_terms f g [] h = tt
  of_terms f g (term c ∷ ps) h = (f c h.0, of_terms f g ps h.1)
  of_terms f g (set x ∷ ps) h = (g x, of_terms f g ps h)

-- the three laws of a family
pub looks_at_terms : (m : ℕ) (same other : ℕ → Bool) (t : Test) → Every (λ d. same d ≡ other d) (terms_among (places_of t)) → fits m same t ≡ fits m other t
looks_at_terms m same other t e = passes_places (bit m) (bit m) same other t (of_terms (λ d. same d ≡ other d) (Agree (bit m) (bit m) same other) (λ c h. h) (λ x. refl) (places_of t) e)

pub asks_of_named : (terms : ℕ) (t : Test) → Every (λ d. d < terms) (terms_among (places_of t)) → Every (λ d. d < terms) (asks t)
asks_of_named terms t h = go (eqb (kind_of t) 1)
  where
    go : (b : Bool) → Every (λ d. d < terms) (cond b [] (terms_among (places_of t)))
    go true = tt
    go false = h

pub fewer_terms : (m : ℕ) (few all : ℕ → Bool) (t : Test) → ((d : ℕ) → T (few d) → T (all d)) → Every (λ d. few d ≡ all d) (asks t) → T (fits m all t) → T (fits m few t)
fewer_terms m few all (IsSame d) sub e p = rw e.0 p
fewer_terms m few all (IsNotSame d) sub e p = lacks (few d) (all d) (sub d) p
  where
    lacks : (a b : Bool) → (T a → T b) → T (not b) → T (not a)
    lacks true true f q = q
    lacks true false f q = absurd (f tt)
    lacks false b f q = tt
fewer_terms m few all (IsIn x) sub e p = p
fewer_terms m few all (IsNotIn x) sub e p = p
fewer_terms m few all (ExactlyIfIn x y) sub e p = p
fewer_terms m few all (ExactlyIfNotIn x y) sub e p = p
fewer_terms m few all (ExactlyIfSame x a) sub e p = rw e.0 p
fewer_terms m few all (ExactlyIfOr x y z) sub e p = p
fewer_terms m few all (ExactlyIfAnd x y z) sub e p = p
fewer_terms m few all (ExactlyIfAndNot x y z) sub e p = p

-- the family
abbrev pub set_tests : Family Test
set_tests = record { fits = fits; names = λ t. terms_among (places_of t); asks = asks; looks = looks_at_terms; named = asks_of_named; fewer = fewer_terms }

-- declared rows are within the terms that there are
module _ (terms sets : ℕ) where
  row_within : (r : Row Test) → T (row_declared terms sets r) → Within set_tests terms r
  row_within r d = (
    declared_term terms sets r d,
    at_terms (λ c. c < terms) (λ p. T (place_declared terms sets p)) (λ c h. ltb→lt c terms h) (places_of r.test) (all_every (place_declared terms sets) (places_of r.test) (declared_places terms sets r d)),
  )

  pub declared_within : (rows : List (Row Test)) → T (all_rows (row_declared terms sets) rows) → Every (Within set_tests terms) rows
  declared_within rows d = every_map (λ r. T (row_declared terms sets r)) (Within set_tests terms) row_within rows (all_every (row_declared terms sets) rows d)
