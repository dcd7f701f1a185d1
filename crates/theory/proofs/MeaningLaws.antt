-- A statement holds in an assignment exactly if its rule is met in masks whose bits are the parts; and every assignment has such masks.
use Prim.Native.Nat.{ℕ, ◌^◌, ◌<◌}
use mathlib.Core.Path.{◌≡◌, refl, ap, subst, fun_ext}
use mathlib.Core.Bool.{Bool, true, false, not, beq}
use mathlib.Core.List.{List, [], ◌∷◌, map}
use mathlib.Core.Logic.{◌↔◌}
use lib.Dec.{T}
use Rattle.statement.specs.declared.statements.Statement.{Statement}
use Rattle.statement.specs.declared.statements.Statement.TheVariants.{ElementsEqual, ElementsDiffer, In, NotIn, SetsEqual, SetsDiffer, Empty, Single, Union, Intersection, Difference}
use Rattle.std.specs.Prelude.{Ok}
use Rattle.statement.specs.NameTests.{name_test}
use Rattle.question.specs.Checks.{AllDeclared}
use Rattle.question.specs.Masks.{bit}
use Rattle.statement.specs.Meaning.{Assignment, everywhere, holds, AllHold}
use Rattle.theory.specs.Sets.{passes, fits}
use Rattle.theory.specs.Reduction.{rule}
use Rattle.theory.specs.Possible.{element_of}
use Rattle.theory.proofs.ModelLaws.{MaskModel, RuleMet, RulesMet}
use Rattle.theory.proofs.BitLaws.{of_bits, of_bits_below, of_bits_bit}
use Rattle.theory.proofs.AskedLaws.{asked, asked_is_met}
use Rattle.theory.proofs.PlaceLaws.{passes_local, Named, rule_named}

-- what a statement means is what its rule asks
module _ (A : Assignment) where
  -- is the domain element d in the set number x
  abbrev pub part_of : ℕ → ℕ → Bool
  part_of x d = A.part (record { 0 = x }) d

  -- not "in x exactly if in y" is "in x exactly if not in y"
  differ : (a b : Bool) → beq a b ≡ not (beq a (not b))
  differ true true = refl
  differ true false = refl
  differ false true = refl
  differ false false = refl

  pub holds_asked : (s : Statement) → holds A s ≡ asked passes A.size (element_of A) part_of (rule s)
  holds_asked (ElementsEqual a b) = refl
  holds_asked (ElementsDiffer a b) = refl
  holds_asked (In a x) = refl
  holds_asked (NotIn a x) = refl
  holds_asked (SetsEqual x y) = refl
  holds_asked (SetsDiffer x y) = ap (λ f. not (everywhere A.size f)) (fun_ext (λ d. differ (A.part x d) (A.part y d)))
  holds_asked (Empty x) = refl
  holds_asked (Single x a) = refl
  holds_asked (Union x y z) = refl
  holds_asked (Intersection x y z) = refl
  holds_asked (Difference x y z) = refl

  -- the assignment with a mask for each element
  abbrev pub in_masks : (ℕ → ℕ) → MaskModel
  in_masks mask = record { size = A.size; element = element_of A; mask = mask }

  -- where bit x of an element's mask says whether it is in x, the statements hold exactly if their rules are met
  module _ (mask : ℕ → ℕ) (E S : ℕ) (bits : (d x : ℕ) → x < S → bit (mask d) x ≡ part_of x d) where
    one_met : (s : Statement) → name_test E S s ≡ Ok tt → T (holds A s) ↔ RuleMet fits (in_masks mask) (rule s)
    one_met s nm =
        let iff = asked_is_met passes A.size (element_of A) part_of fits mask E (Named E S) (λ t h d. passes_local (bit (mask d)) (λ x. part_of x d) _ _ E S (bits d) (λ a lt. refl) t h) (rule s) (rule_named E S s nm) in
        (λ h. iff.0 (subst T (holds_asked s) h), λ h. rw holds_asked (iff.1 h))

    pub holds_met : (ss : List Statement) → AllDeclared E S ss → AllHold A ss ↔ RulesMet fits (in_masks mask) (map rule ss)
    holds_met [] nm = (λ h. tt, λ h. tt)
    holds_met (s ∷ ss) nm = let one = one_met s nm.0 in let rest = holds_met ss nm.1 in (λ h. (one.0 h.0, rest.0 h.1), λ h. (one.1 h.0, rest.1 h.1))

-- the mask of a domain element: bit x says whether it is in the set x
module _ (S : ℕ) (A : Assignment) where
  pub element_mask : ℕ → ℕ
  element_mask d = of_bits S (λ x. part_of A x d)

  pub mask_below : (d : ℕ) → element_mask d < 2 ^ S
  unfolding element_mask
  mask_below d = of_bits_below S (λ x. part_of A x d)

  pub mask_bits : (d x : ℕ) → x < S → bit (element_mask d) x ≡ part_of A x d
  unfolding element_mask
  mask_bits d x lt = of_bits_bit S (λ x. part_of A x d) x lt
