-- Whether a statement holds depends only on the elements and the parts of the names in it: two assignments that agree on the names declared agree on every statement.
use Prim.Native.Nat.{ℕ, suc, ◌<◌}
use mathlib.Core.Path.{◌≡◌, refl, ap, ap₂, subst, ◌∙◌}
use mathlib.Core.Bool.{Bool, true, false, not, ◌&&◌, ◌||◌, beq, cond}
use mathlib.Core.List.{List, [], ◌∷◌, map}
use Rattle.std.specs.Prelude.{Ok, Err}
use borrow.Author.Tests.{ltb-true}
use lib.Dec.{T, eqb}
use Rattle.outcome.proofs.Never.{never}
use Rattle.statement.specs.declared.names.ElementName.{ElementName}
use Rattle.statement.specs.declared.names.SetName.{SetName}
use Rattle.statement.specs.declared.statements.Statement.{Statement}
use Rattle.statement.specs.declared.statements.Statement.TheVariants.{ElementsEqual, ElementsDiffer, In, NotIn, SetsEqual, SetsDiffer, Empty, Single, Union, Intersection, Difference}
use Rattle.statement.specs.Statements.{Name, element, set, names_of}
use Rattle.statement.specs.NameTests.{declared, leftmost}
use Rattle.question.specs.Checks.{AllDeclared}
use Rattle.statement.specs.Meaning.{Assignment, everywhere, holds, AllHold}

-- two assignments over a domain of the same size
module _ (A B : Assignment) (size : A.size ≡ B.size) where
  abbrev Agree : Name → Type 0
  Agree (element a) = A.element a ≡ B.element a
  Agree (set x) = A.part x ≡ B.part x

  abbrev AgreeAll : List Name → Type 0
  AgreeAll [] = Unit {0}
  AgreeAll (n ∷ ns) = Agree n × AgreeAll ns

  -- the same test of two parts, and of three, at each domain element
  two : (f : Bool → Bool → Bool) (x y : SetName) → A.part x ≡ B.part x → A.part y ≡ B.part y →
      everywhere A.size (λ d. f (A.part x d) (A.part y d)) ≡ everywhere B.size (λ d. f (B.part x d) (B.part y d))
  two f x y p q = ap₂ (λ n s. everywhere n (λ d. f (s d) (A.part y d))) size p ∙ ap (λ s. everywhere B.size (λ d. f (B.part x d) (s d))) q

  three : (f : Bool → Bool → Bool → Bool) (x y z : SetName) → A.part x ≡ B.part x → A.part y ≡ B.part y → A.part z ≡ B.part z →
      everywhere A.size (λ d. f (A.part x d) (A.part y d) (A.part z d)) ≡ everywhere B.size (λ d. f (B.part x d) (B.part y d) (B.part z d))
  three f x y z p q r =
      ap₂ (λ n s. everywhere n (λ d. f (s d) (A.part y d) (A.part z d))) size p
      ∙ ap₂ (λ s t. everywhere B.size (λ d. f (B.part x d) (s d) (t d))) q r

  same_names : (s : Statement) → AgreeAll (names_of s) → holds A s ≡ holds B s
  same_names (ElementsEqual a b) h = ap₂ eqb h.0 h.1.0
  same_names (ElementsDiffer a b) h = ap not (ap₂ eqb h.0 h.1.0)
  same_names (In a x) h = ap₂ (λ p d. p d) h.1.0 h.0
  same_names (NotIn a x) h = ap not (ap₂ (λ p d. p d) h.1.0 h.0)
  same_names (SetsEqual x y) h = two beq x y h.0 h.1.0
  same_names (SetsDiffer x y) h = ap not (two beq x y h.0 h.1.0)
  same_names (Empty x) h = ap₂ (λ n p. everywhere n (λ d. not (p d))) size h.0
  same_names (Single x a) h = ap₂ (λ n p. everywhere n (λ d. beq (p d) (eqb d (A.element a)))) size h.0 ∙ ap (λ e. everywhere B.size (λ d. beq (B.part x d) (eqb d e))) h.1.0
  same_names (Union x y z) h = three (λ a b c. beq a (b || c)) x y z h.0 h.1.0 h.1.1.0
  same_names (Intersection x y z) h = three (λ a b c. beq a (b && c)) x y z h.0 h.1.0 h.1.1.0
  same_names (Difference x y z) h = three (λ a b c. beq a (b && not c)) x y z h.0 h.1.0 h.1.1.0

  -- which agree on the names declared
  module _ (E S : ℕ) (elements : (a : ElementName) → a.0 < E → A.element a ≡ B.element a) (parts : (x : SetName) → x.0 < S → A.part x ≡ B.part x) where
    agree : (n : Name) → declared E S n ≡ true → Agree n
    agree (element a) e = elements a (ltb-true a.0 E e)
    agree (set x) e = parts x (ltb-true x.0 S e)

    agree_all : (at : ℕ) (ns : List Name) → leftmost at (map (declared E S) ns) ≡ Ok tt → AgreeAll ns
    agree_all at [] h = tt
    agree_all at (n ∷ ns) h = go (declared E S n) refl h (agree_all (suc at) ns)
      where
        go : (b : Bool) → declared E S n ≡ b → cond b (leftmost (suc at) (map (declared E S) ns)) (Err at) ≡ Ok tt →
            (leftmost (suc at) (map (declared E S) ns) ≡ Ok tt → AgreeAll ns) → AgreeAll (n ∷ ns)
        go true p e rest = (agree n p, rest e)
        go false p e rest = never cc

    pub hold_same : (ss : List Statement) → AllDeclared E S ss → AllHold A ss → AllHold B ss
    hold_same [] d h = tt
    hold_same (s ∷ ss) d h = (subst T (same_names s (agree_all 0 (names_of s) d.0)) h.0, hold_same ss d.1 h.1)
