-- What a rule asks of an assignment, as a test over the domain; and that it is met there in masks exactly if it is met in the assignment.
-- Generic over what an element has at each name: membership for sets, and for bags it would be a count.
use Prim.Native.Nat.{ℕ}
use mathlib.Core.Path.{◌≡◌, sym, subst, ◌∙◌}
use mathlib.Core.Bool.{Bool, not, not-not}
use mathlib.Core.Logic.{◌↔◌}
use lib.Dec.{T, eqb}
use Rattle.statement.specs.Meaning.{everywhere}
use Rattle.theory.specs.Rules.{Rule, OneTerm, EachTerm, OwnWitness}
use Rattle.statement.proofs.EverywhereLaws.{everywhere_at, everywhere_of, fails_at, fails_of}
use Rattle.theory.proofs.RuleLaws.{RuleNamed}
use Rattle.theory.proofs.ModelLaws.{MaskModel, passes_at, RuleMet}

module _ {Value Test : Type 0} (passes : (ℕ → Value) → (ℕ → Bool) → Test → Bool) (n : ℕ) (element : ℕ → ℕ) (part : ℕ → ℕ → Value) where
  -- does the domain element d pass the test
  abbrev pub element_passes : Test → ℕ → Bool
  element_passes t d = passes (λ x. part x d) (λ a. eqb d (element a)) t

  -- the test of the element of a name; of each element; that not every element fails it
  abbrev pub asked : Rule Test → Bool
  asked (OneTerm a t) = element_passes t (element a)
  asked (EachTerm t) = everywhere n (element_passes t)
  asked (OwnWitness t) = not (everywhere n (λ d. not (element_passes t d)))

  module _ (fits : ℕ → (ℕ → Bool) → Test → Bool) (mask : ℕ → ℕ) (E : ℕ) (Named : Test → Type 0) where
    abbrev M : MaskModel
    M = record { size = n; element = element; mask = mask }

    module _ (in_mask : (t : Test) → Named t → (d : ℕ) → passes_at fits M d t ≡ element_passes t d) where
      asked_met : (r : Rule Test) → RuleNamed E Named r → T (asked r) → RuleMet fits M r
      asked_met (OneTerm a t) nm h = rw (in_mask t nm.1 (element a)) h
      asked_met (EachTerm t) nm h = λ d lt. rw (in_mask t nm d) (everywhere_at n (element_passes t) h d lt)
      asked_met (OwnWitness t) nm h = let w = fails_at n (λ d. not (element_passes t d)) h in (w.0, w.1, rw (in_mask t nm w.0) (subst T (not-not (element_passes t w.0)) w.2))

      met_asked : (r : Rule Test) → RuleNamed E Named r → RuleMet fits M r → T (asked r)
      met_asked (OneTerm a t) nm h = rw (← (in_mask t nm.1 (element a))) h
      met_asked (EachTerm t) nm h = everywhere_of n (element_passes t) (λ d lt. rw (← (in_mask t nm d)) (h d lt))
      met_asked (OwnWitness t) nm h = fails_of n (λ d. not (element_passes t d)) h.0 h.1 (subst T (in_mask t nm h.0 ∙ sym (not-not (element_passes t h.0))) h.2)

      pub asked_is_met : (r : Rule Test) → RuleNamed E Named r → T (asked r) ↔ RuleMet fits M r
      asked_is_met r nm = (asked_met r nm, met_asked r nm)
