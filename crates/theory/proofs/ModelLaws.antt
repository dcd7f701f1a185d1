-- Rules in a model: a domain whose elements have masks. A solution of the rules' rows is a model that meets the rules.
use Prim.Native.Nat.{ℕ, ◌+◌, ◌≤◌, ◌<◌}
use mathlib.Core.Path.{subst}
use mathlib.Core.Bool.{Bool}
use mathlib.Core.List.{List, [], ◌∷◌}
use native.Mathlib.Omega.{arith}
use lib.Dec.{T, eqb}
use lib.ListN.{length}
use Rattle.theory.specs.Lists.{Every}
use Rattle.theory.specs.Arrangements.{IsArrangement, classes, class_of}
use Rattle.theory.specs.Rules.{Row, Rule, OneTerm, EachTerm, OwnWitness, own_witness, rows_of_rule, rows_of_rules}
use Rattle.theory.specs.Solutions.{Solution, mask_of, met}
use Rattle.theory.proofs.ArrangementLaws.{class_below, class_has_term}
use Rattle.theory.proofs.ListLaws.{every_front, every_back}
use Rattle.theory.proofs.RuleLaws.{terms_at, own_witnesses}

-- a domain of `size` elements, the element of each name, and the mask of each element
pub record MaskModel : Type 0 where
  pub size : ℕ
  pub element : ℕ → ℕ
  pub mask : ℕ → ℕ

-- the model that a solution is: its elements are the classes
abbrev pub model_by : Solution → MaskModel
model_by sol = record { size = classes sol.arrangement; element = class_of sol.arrangement; mask = mask_of sol.masks }

module _ {Test : Type 0} (fits : ℕ → (ℕ → Bool) → Test → Bool) where
  module _ (M : MaskModel) where
    -- does the element d pass the test
    abbrev pub passes_at : ℕ → Test → Bool
    passes_at d t = fits (M.mask d) (λ c. eqb d (M.element c)) t

    -- the rule asks its test of the element of a name, of each element, or of some element
    abbrev pub RuleMet : Rule Test → Type 0
    RuleMet (OneTerm a t) = T (passes_at (M.element a) t)
    RuleMet (EachTerm t) = (d : ℕ) → d < M.size → T (passes_at d t)
    RuleMet (OwnWitness t) = (d : ℕ) × (d < M.size) × T (passes_at d t)

    abbrev pub RulesMet : List (Rule Test) → Type 0
    RulesMet rs = Every RuleMet rs

  module _ (sol : Solution) (arranged : IsArrangement sol.arrangement) where
    abbrev l : List ℕ
    l = sol.arrangement

    abbrev Met : Row Test → Type 0
    Met r = T (met fits l sol.masks r)

    -- each class has a term, so what is asked of each term is asked of each class; a witness's element is its class
    rule_met : (w : ℕ) (r : Rule Test) → w + own_witness r ≤ length l → Every Met (rows_of_rule (length l) w r) → RuleMet (model_by sol) r
    rule_met w (OneTerm a t) fit h = h.0
    rule_met w (EachTerm t) fit h = λ d lt. let c = class_has_term 0 l arranged d (omega arith) lt in
        subst (λ k. T (passes_at (model_by sol) k t)) c.2 (terms_at Met t (length l) 0 h c.0 (omega arith) (omega arith))
    rule_met w (OwnWitness t) fit h = (class_of l w, class_below 0 l w (omega arith), h.0)

    pub solution_meets : (w : ℕ) (rs : List (Rule Test)) → w + own_witnesses rs ≤ length l → Every Met (rows_of_rules (length l) w rs) → RulesMet (model_by sol) rs
    solution_meets w [] fit h = tt
    solution_meets w (r ∷ rs) fit h = (
      rule_met w r (omega arith) (every_front Met (rows_of_rule (length l) w r) (rows_of_rules (length l) (w + own_witness r) rs) h),
      solution_meets (w + own_witness r) rs (omega arith) (every_back Met (rows_of_rule (length l) w r) (rows_of_rules (length l) (w + own_witness r) rs) h),
    )
