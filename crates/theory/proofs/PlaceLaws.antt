-- The places of rows: a test looks at its places and at nothing else, and the places of a statement's rule are the statement's names.
use Prim.Native.Nat.{ℕ, suc, ◌≤◌, ◌<◌}
use mathlib.Core.Path.{◌≡◌, refl, ap, subst}
use mathlib.Core.Bool.{Bool, true, false, not, ◌&&◌, cond}
use mathlib.Core.List.{List, [], ◌∷◌, map}
use native.Mathlib.Omega.{arith}
use lib.Dec.{T, ltb, ltb→lt, lt→ltb}
use Rattle.outcome.proofs.Never.{never}
use Rattle.statement.specs.declared.statements.Statement.{Statement}
use Rattle.statement.specs.declared.statements.Statement.TheVariants.{ElementsEqual, ElementsDiffer, In, NotIn, SetsEqual, SetsDiffer, Empty, Single, Union, Intersection, Difference}
use Rattle.std.specs.Prelude.{Ok, Err}
use Rattle.statement.specs.Statements.{Name, element, set as set_name, names_of, witness, witnesses}
use Rattle.statement.specs.NameTests.{declared, leftmost, name_test}
use Rattle.question.specs.Checks.{AllDeclared}
use Rattle.theory.specs.Lists.{Every}
use Rattle.theory.specs.Rules.{Row, Rule, OneTerm, EachTerm, OwnWitness, own_witness}
use Rattle.theory.specs.Sets.{Test, IsSame, IsNotSame, IsIn, IsNotIn, ExactlyIfIn, ExactlyIfNotIn, ExactlyIfSame, ExactlyIfOr, ExactlyIfAnd, ExactlyIfAndNot, passes, Place, term, set, places_of, kind_of, test_with, place_declared, places_declared, row_declared}
use Rattle.theory.specs.Reduction.{rule}
use Rattle.statement.proofs.TestLaws.{and_left, and_right}
use Rattle.theory.proofs.ListLaws.{every_map, all_every, all_map}
use Rattle.theory.proofs.RuleLaws.{own_witnesses, RuleNamed, RulesNamed}

-- a test looks at its places and at nothing else
module _ (has has' same same' : ℕ → Bool) where
  abbrev pub Agree : Place → Type 0
  Agree (term c) = same c ≡ same' c
  Agree (set x) = has x ≡ has' x

  pub passes_places : (t : Test) → Every Agree (places_of t) → passes has same t ≡ passes has' same' t
  passes_places (IsSame d) h = h.0
  passes_places (IsNotSame d) h = ap not h.0
  passes_places (IsIn x) h = h.0
  passes_places (IsNotIn x) h = ap not h.0
  passes_places (ExactlyIfIn x y) h = cc
  passes_places (ExactlyIfNotIn x y) h = cc
  passes_places (ExactlyIfSame x a) h = cc
  passes_places (ExactlyIfOr x y z) h = cc
  passes_places (ExactlyIfAnd x y z) h = cc
  passes_places (ExactlyIfAndNot x y z) h = cc

  module _ (E S : ℕ) (sets : (x : ℕ) → x < S → has x ≡ has' x) (terms : (a : ℕ) → a < E → same a ≡ same' a) where
    agree : (p : Place) → T (place_declared E S p) → Agree p
    agree (term c) h = terms c (ltb→lt c E h)
    agree (set x) h = sets x (ltb→lt x S h)

    pub passes_local : (t : Test) → T (places_declared E S (places_of t)) → passes has same t ≡ passes has' same' t
    passes_local t h = passes_places t (every_map (λ p. T (place_declared E S p)) Agree agree (places_of t) (all_every (place_declared E S) (places_of t) h))

-- with more terms and sets, what was declared still is
module _ (E S terms sets : ℕ) (e : E ≤ terms) (s : S ≤ sets) where
  place_more : (p : Place) → T (place_declared E S p) → T (place_declared terms sets p)
  place_more (term c) h = lt→ltb c terms (omega (arith, ltb→lt c E h))
  place_more (set x) h = lt→ltb x sets (omega (arith, ltb→lt x S h))

  pub places_more : (ps : List Place) → T (places_declared E S ps) → T (places_declared terms sets ps)
  places_more = all_map (place_declared E S) (place_declared terms sets) place_more

-- the term of a declared row, and its places
module _ (terms sets : ℕ) (r : Row Test) (declared : T (row_declared terms sets r)) where
  pub declared_term : r.term < terms
  declared_term = ltb→lt r.term terms (and_left (ltb r.term terms) (places_declared terms sets (places_of r.test)) declared)

  pub declared_places : T (places_declared terms sets (places_of r.test))
  declared_places = and_right (ltb r.term terms) (places_declared terms sets (places_of r.test)) declared

-- the test of the kind of a test with its places is that test
pub test_again : (t : Test) → test_with (kind_of t) (places_of t) ≡ t
test_again (IsSame d) = refl
test_again (IsNotSame d) = refl
test_again (IsIn x) = refl
test_again (IsNotIn x) = refl
test_again (ExactlyIfIn x y) = refl
test_again (ExactlyIfNotIn x y) = refl
test_again (ExactlyIfSame x a) = refl
test_again (ExactlyIfOr x y z) = refl
test_again (ExactlyIfAnd x y z) = refl
test_again (ExactlyIfAndNot x y z) = refl

-- a rule's places are its statement's names
abbrev place_of : Name → Place
place_of (element a) = term a.0
place_of (set_name x) = set x.0

abbrev rule_places : Rule Test → List Place
rule_places (OneTerm a t) = term a ∷ places_of t
rule_places (EachTerm t) = places_of t
rule_places (OwnWitness t) = places_of t

rule_places_lem : (s : Statement) → map place_of (names_of s) ≡ rule_places (rule s)
rule_places_lem (ElementsEqual a b) = refl
rule_places_lem (ElementsDiffer a b) = refl
rule_places_lem (In a x) = refl
rule_places_lem (NotIn a x) = refl
rule_places_lem (SetsEqual x y) = refl
rule_places_lem (SetsDiffer x y) = refl
rule_places_lem (Empty x) = refl
rule_places_lem (Single x a) = refl
rule_places_lem (Union x y z) = refl
rule_places_lem (Intersection x y z) = refl
rule_places_lem (Difference x y z) = refl

module _ (E S : ℕ) where
  -- the test names only declared names
  abbrev pub Named : Test → Type 0
  Named t = T (places_declared E S (places_of t))

  name_place : (n : Name) → declared E S n ≡ place_declared E S (place_of n)
  name_place (element a) = refl
  name_place (set_name x) = refl

  names_places : (at : ℕ) (ns : List Name) → leftmost at (map (declared E S) ns) ≡ Ok tt → T (places_declared E S (map place_of ns))
  names_places at [] h = tt
  names_places at (n ∷ ns) h = subst (λ b. T (b && places_declared E S (map place_of ns))) (name_place n) (go (declared E S n) h (names_places (suc at) ns))
    where
      go : (b : Bool) → cond b (leftmost (suc at) (map (declared E S) ns)) (Err at) ≡ Ok tt →
          (leftmost (suc at) (map (declared E S) ns) ≡ Ok tt → T (places_declared E S (map place_of ns))) → T (b && places_declared E S (map place_of ns))
      go true e ih = ih e
      go false e ih = never cc

  places_named : (r : Rule Test) → T (places_declared E S (rule_places r)) → RuleNamed E Named r
  places_named (OneTerm a t) h = (ltb→lt a E (and_left (ltb a E) (places_declared E S (places_of t)) h), and_right (ltb a E) (places_declared E S (places_of t)) h)
  places_named (EachTerm t) h = h
  places_named (OwnWitness t) h = h

  pub rule_named : (s : Statement) → name_test E S s ≡ Ok tt → RuleNamed E Named (rule s)
  rule_named s h = places_named (rule s) (subst (λ ps. T (places_declared E S ps)) (rule_places_lem s) (names_places 0 (names_of s) h))

  pub rules_named : (ss : List Statement) → AllDeclared E S ss → RulesNamed E Named (map rule ss)
  rules_named [] h = tt
  rules_named (s ∷ ss) h = (rule_named s h.0, rules_named ss h.1)

-- a rule has as many witnesses as its statement makes
pub rule_witness : (s : Statement) → own_witness (rule s) ≡ witness s
unfolding witness
rule_witness (ElementsEqual a b) = refl
rule_witness (ElementsDiffer a b) = refl
rule_witness (In a x) = refl
rule_witness (NotIn a x) = refl
rule_witness (SetsEqual x y) = refl
rule_witness (SetsDiffer x y) = refl
rule_witness (Empty x) = refl
rule_witness (Single x a) = refl
rule_witness (Union x y z) = refl
rule_witness (Intersection x y z) = refl
rule_witness (Difference x y z) = refl

pub rules_witnesses : (ss : List Statement) → own_witnesses (map rule ss) ≡ witnesses ss
unfolding witnesses
rules_witnesses [] = refl
rules_witnesses (s ∷ ss) = omega (arith, rule_witness s, rules_witnesses ss)
