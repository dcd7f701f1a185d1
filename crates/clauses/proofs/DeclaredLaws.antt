-- Every clause of an accepted question is short and speaks only of variables that there are: at most three literals, numbered from 1 to the number of variables.
use Prim.Native.Nat.{ℕ, ◌≤◌, ◌<◌}
use mathlib.Core.Path.{◌≡◌, refl}
use mathlib.Core.Bool.{Bool, true, false, cond}
use mathlib.Core.List.{[], ◌∷◌}
use native.Mathlib.Omega.{arith}
use borrow.Author.Tests.{eqb-false}
use lib.Dec.{T, eqb, ltb→lt}
use lib.ListN.{length}
use Rattle.text.specs.declared.literals.Literal.{Literal}
use Rattle.text.specs.Literals.{is, is_not}
use Rattle.question.specs.declared.questions.Question.{Question}
use Rattle.question.specs.Questions.{terms_of}
use Rattle.question.specs.Checks.{IsAccepted}
use Rattle.theory.specs.Lists.{Every}
use Rattle.theory.specs.Rules.{Row}
use Rattle.theory.specs.Sets.{Test, IsSame, IsNotSame, IsIn, IsNotIn, ExactlyIfIn, ExactlyIfNotIn, ExactlyIfSame, ExactlyIfOr, ExactlyIfAnd, ExactlyIfAndNot, Place, term, set, places_of, place_declared, row_declared}
use Rattle.theory.specs.Reduction.{row_list}
use Rattle.theory.proofs.ListLaws.{every_map, all_every}
use Rattle.theory.proofs.PlaceLaws.{declared_term, declared_places}
use Rattle.theory.proofs.RowListLaws.{rows_declared}
use Rattle.clauses.specs.Variables.{same_variable, in_variable, spare_variable}
use Rattle.clauses.specs.Clauses.{Clause, one, two, three, exactly_if, exactly_if_not, exactly_if_or, exactly_if_and, exactly_if_and_not, joining, agreeing, test_clauses, row_clauses, clauses_of}
use Rattle.clauses.proofs.WalkLaws.{every_clause}
use Rattle.clauses.proofs.VariableLaws.{Numbered, pair_numbered, in_numbered, spare_numbered, same_numbered}

-- the places of a test are terms and sets that there are
abbrev pub PlaceBelow : ℕ → ℕ → Place → Type 0
PlaceBelow terms sets (term c) = c < terms
PlaceBelow terms sets (set x) = x < sets

abbrev pub PlacesBelow : ℕ → ℕ → Test → Type 0
PlacesBelow terms sets t = Every (PlaceBelow terms sets) (places_of t)

pub places_below : (terms sets : ℕ) (r : Row Test) → T (row_declared terms sets r) → PlacesBelow terms sets r.test
places_below terms sets r h = every_map (λ p. T (place_declared terms sets p)) (PlaceBelow terms sets) one_below (places_of r.test) (all_every (place_declared terms sets) (places_of r.test) (declared_places terms sets r h))
  where
    one_below : (p : Place) → T (place_declared terms sets p) → PlaceBelow terms sets p
    one_below (term c) lt = ltb→lt c terms lt
    one_below (set x) lt = ltb→lt x sets lt

module _ (terms sets : ℕ) where
  -- a literal of a variable that there is; a clause of at most three of them
  abbrev pub Declared : Literal → Type 0
  Declared l = Numbered terms sets l.variable

  abbrev pub Short : Clause → Type 0
  Short c = (length c ≤ 3) × Every Declared c

  abbrev N : ℕ → Type 0
  N v = Numbered terms sets v

  one_short : (l : Literal) → Declared l → Short (one l)
  one_short l p = (omega arith, (p, tt))

  two_short_lem : (k l : Literal) → Declared k → Declared l → Short (two k l)
  two_short_lem k l p q = (omega arith, (p, (q, tt)))

  three_short : (k l m : Literal) → Declared k → Declared l → Declared m → Short (three k l m)
  three_short k l m p q r = (omega arith, (p, (q, (r, tt))))

  if_short : (p q : ℕ) → N p → N q → Every Short (exactly_if p q)
  if_short p q a b = (two_short_lem (is_not p) (is q) a b, (two_short_lem (is p) (is_not q) a b, tt))

  if_not_short : (p q : ℕ) → N p → N q → Every Short (exactly_if_not p q)
  if_not_short p q a b = (two_short_lem (is p) (is q) a b, (two_short_lem (is_not p) (is_not q) a b, tt))

  or_short : (p q r : ℕ) → N p → N q → N r → Every Short (exactly_if_or p q r)
  or_short p q r a b c = (three_short (is_not p) (is q) (is r) a b c, (two_short_lem (is p) (is_not q) a b, (two_short_lem (is p) (is_not r) a c, tt)))

  and_short : (p q r : ℕ) → N p → N q → N r → Every Short (exactly_if_and p q r)
  and_short p q r a b c = (two_short_lem (is_not p) (is q) a b, (two_short_lem (is_not p) (is r) a c, (three_short (is p) (is_not q) (is_not r) a b c, tt)))

  and_not_short : (p q r : ℕ) → N p → N q → N r → Every Short (exactly_if_and_not p q r)
  and_not_short p q r a b c = (two_short_lem (is_not p) (is q) a b, (two_short_lem (is_not p) (is_not r) a c, (three_short (is p) (is_not q) (is r) a b c, tt)))

  joining_short : (p q r : ℕ) → N p → N q → N r → Every Short (joining p q r)
  joining_short p q r a b c = (three_short (is_not p) (is_not q) (is r) a b c, (three_short (is_not p) (is_not r) (is q) a c b, (three_short (is_not r) (is_not q) (is p) c b a, tt)))

  agreeing_short : (p q r : ℕ) → N p → N q → N r → Every Short (agreeing p q r)
  agreeing_short p q r a b c = (three_short (is_not p) (is_not q) (is r) a b c, (three_short (is_not p) (is_not r) (is q) a c b, tt))

  module _ (c : ℕ) (ct : c < terms) where
    of_set : (x : ℕ) → x < sets → N (in_variable terms sets c x)
    of_set x lt = in_numbered terms sets c x ct lt

    of_term : (d : ℕ) → eqb c d ≡ false → d < terms → N (same_variable terms sets c d)
    of_term d e dt = same_numbered terms sets c d (eqb-false c d e) ct dt

    test_short : (t : Test) → PlacesBelow terms sets t → Every Short (test_clauses terms sets c t)
    test_short (IsSame d) h = go (eqb c d) refl
      where
        go : (b : Bool) → eqb c d ≡ b → Every Short (cond b [] (one (is (same_variable terms sets c d)) ∷ []))
        go true e = tt
        go false e = (one_short (is (same_variable terms sets c d)) (of_term d e h.0), tt)
    test_short (IsNotSame d) h = go (eqb c d) refl
      where
        go : (b : Bool) → eqb c d ≡ b → Every Short (cond b (one (is (spare_variable terms sets)) ∷ one (is_not (spare_variable terms sets)) ∷ []) (one (is_not (same_variable terms sets c d)) ∷ []))
        go true e = (one_short (is (spare_variable terms sets)) (spare_numbered terms sets), (one_short (is_not (spare_variable terms sets)) (spare_numbered terms sets), tt))
        go false e = (one_short (is_not (same_variable terms sets c d)) (of_term d e h.0), tt)
    test_short (IsIn x) h = (one_short (is (in_variable terms sets c x)) (of_set x h.0), tt)
    test_short (IsNotIn x) h = (one_short (is_not (in_variable terms sets c x)) (of_set x h.0), tt)
    test_short (ExactlyIfIn x y) h = if_short (in_variable terms sets c x) (in_variable terms sets c y) (of_set x h.0) (of_set y h.1.0)
    test_short (ExactlyIfNotIn x y) h = if_not_short (in_variable terms sets c x) (in_variable terms sets c y) (of_set x h.0) (of_set y h.1.0)
    test_short (ExactlyIfSame x a) h = go (eqb c a) refl
      where
        go : (b : Bool) → eqb c a ≡ b → Every Short (cond b (one (is (in_variable terms sets c x)) ∷ []) (exactly_if (in_variable terms sets c x) (same_variable terms sets c a)))
        go true e = (one_short (is (in_variable terms sets c x)) (of_set x h.0), tt)
        go false e = if_short (in_variable terms sets c x) (same_variable terms sets c a) (of_set x h.0) (of_term a e h.1.0)
    test_short (ExactlyIfOr x y z) h = or_short (in_variable terms sets c x) (in_variable terms sets c y) (in_variable terms sets c z) (of_set x h.0) (of_set y h.1.0) (of_set z h.1.1.0)
    test_short (ExactlyIfAnd x y z) h = and_short (in_variable terms sets c x) (in_variable terms sets c y) (in_variable terms sets c z) (of_set x h.0) (of_set y h.1.0) (of_set z h.1.1.0)
    test_short (ExactlyIfAndNot x y z) h = and_not_short (in_variable terms sets c x) (in_variable terms sets c y) (in_variable terms sets c z) (of_set x h.0) (of_set y h.1.0) (of_set z h.1.1.0)

  row_short : (r : Row Test) → T (row_declared terms sets r) → Every Short (row_clauses terms sets r)
  row_short r h = test_short r.term (declared_term terms sets r h) r.test (places_below terms sets r h)

module _ (q : Question) (accepted : IsAccepted q) where
  -- the rows of the question are declared
  pub each_declared : Every (λ r. T (row_declared (terms_of q) q.sets r)) (row_list q)
  each_declared = all_every (row_declared (terms_of q) q.sets) (row_list q) (rows_declared q accepted)

  pub every_short : Every (Short (terms_of q) q.sets) (clauses_of q)
  every_short =
      every_clause (Short terms sets) terms sets (row_list q)
      (λ b c d bc cd dt. joining_short terms sets _ _ _ (pair_numbered terms sets b c bc (omega arith)) (pair_numbered terms sets c d cd dt) (pair_numbered terms sets b d (omega arith) dt))
      (λ c d x cd dt xs. agreeing_short terms sets _ _ _ (pair_numbered terms sets c d cd dt) (in_numbered terms sets c x (omega arith) xs) (in_numbered terms sets d x dt xs))
      (every_map (λ r. T (row_declared terms sets r)) (λ r. Every (Short terms sets) (row_clauses terms sets r)) (row_short terms sets) (row_list q) each_declared)
    where
      terms : ℕ
      terms = terms_of q

      sets : ℕ
      sets = q.sets

  -- every literal of every clause is about a variable from 1 to the number of variables
  pub every_declared : Every (λ c. Every (Declared (terms_of q) q.sets) c) (clauses_of q)
  every_declared = every_map (Short (terms_of q) q.sets) (λ c. Every (Declared (terms_of q) q.sets) c) (λ c h. h.1) (clauses_of q) every_short
