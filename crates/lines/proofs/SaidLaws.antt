-- Literals that lead to all values: each is new in its turn, a 0 stands last, and then every variable has a value. What the table holds after them.
use Prim.Native.Nat.{ℕ, ◌≤◌}
use mathlib.Core.Path.{◌≡◌, refl, ap, ap₂, ◌∙◌}
use mathlib.Core.Bool.{Bool, true, false, cond}
use mathlib.Core.List.{List, [], ◌∷◌, ◌++◌}
use native.Mathlib.Omega.{arith}
use borrow.Author.Tests.{eqb-true, eqb-false}
use lib.Dec.{eqb}
use Rattle.std.specs.Prelude.{Option}
use Rattle.outcome.proofs.Never.{never}
use Rattle.text.specs.declared.literals.Literal.{Literal}
use Rattle.text.specs.Literals.{is, Sayable}
use Rattle.theory.specs.Lists.{Every}
use Rattle.lines.specs.declared.readings.Stage.TheVariants.{Values, Valued, Fault}
use Rattle.lines.specs.declared.readings.Reading.{Reading}
use Rattle.lines.specs.Values.{value_of, is_said, all_said, with_value}
use Rattle.lines.specs.Steps.{at_stage, last_step, value_step}
use Rattle.lines.proofs.Folds.{steps_by}
use Rattle.lines.proofs.StepLaws.{said_first, last_due}
use Rattle.lines.proofs.ValueLineLaws.{literal_steps, fault_literals}

-- the table after some literals
unfoldable pub table_after : List (Option Bool) → List Literal → List (Option Bool)
table_after t [] = t
table_after t (l ∷ ls) = table_after (with_value t l) ls

abbrev pub with_values : List (Option Bool) → Reading
with_values t = record { stage = Values; values = t }

module _ (most : ℕ) where
  -- each variable is declared and new in its turn
  abbrev pub Fresh : List (Option Bool) → List Literal → Type 0
  Fresh t [] = Unit {0}
  Fresh t (l ∷ ls) = (1 ≤ l.variable) × (l.variable ≤ most) × (is_said (value_of t l.variable) ≡ false) × Fresh (with_value t l) ls

  pub record SaidAll (t : List (Option Bool)) (all : List Literal) : Type 0 where
    pub said : List Literal
    pub whole : all ≡ said ++ (is 0 ∷ [])
    pub fresh : Fresh t said
    pub full : all_said most (table_after t said) ≡ true

  -- literals that lead to all values
  pub literals_say : (t : List (Option Bool)) (all : List Literal) → Every (Sayable most) all → (literal_steps most (with_values t) all).stage ≡ Valued → SaidAll t all
  unfolding steps_by table_after
  literals_say t [] h e = never cc
  literals_say t (l ∷ ls) h e = go (eqb l.variable 0) refl e (literals_say (with_value t l) ls h.1)
    where
      nothing_left : (ms : List Literal) → (literal_steps most (record { stage = Valued; values = t }) ms).stage ≡ Valued → ms ≡ []
      nothing_left [] e = refl
      nothing_left (m ∷ ms) e = let f = ap (λ x. x.stage) (fault_literals most (with_values t) ms) in never cc

      zero_is : l.variable ≡ 0 → l ≡ is 0
      zero_is z = ap₂ (λ d v. record { denied = d; variable = v }) (h.0.no_minus_zero z) z

      last : (a : Bool) → all_said most t ≡ a → l.variable ≡ 0 → (literal_steps most (cond a (at_stage Valued (with_values t)) (at_stage Fault (with_values t))) ls).stage ≡ Valued → SaidAll t (l ∷ ls)
      last true p z e = record { said = []; whole = ap₂ (λ x xs. x ∷ xs) (zero_is z) (nothing_left ls e); fresh = tt; full = p }
      last false p z e = let f = ap (λ x. x.stage) (fault_literals most (with_values t) ls) in never cc

      value : (s : Bool) → is_said (value_of t l.variable) ≡ s → (l.variable ≡ 0 → ⊥) → (literal_steps most (cond s (at_stage Fault (with_values t)) (with_values (with_value t l))) ls).stage ≡ Valued →
          ((literal_steps most (with_values (with_value t l)) ls).stage ≡ Valued → SaidAll (with_value t l) ls) → SaidAll t (l ∷ ls)
      value true p z e later = let f = ap (λ x. x.stage) (fault_literals most (with_values t) ls) in never cc
      value false p z e later =
          let x = later e in
          record { said = l ∷ x.said; whole = ap (λ xs. l ∷ xs) x.whole; fresh = (omega (arith, z), h.0.within, p, x.fresh); full = x.full }

      go : (z : Bool) → eqb l.variable 0 ≡ z → (literal_steps most (cond z (last_step most (with_values t)) (value_step (with_values t) l)) ls).stage ≡ Valued →
          ((literal_steps most (with_values (with_value t l)) ls).stage ≡ Valued → SaidAll (with_value t l) ls) → SaidAll t (l ∷ ls)
      go true p e later = last (all_said most t) refl (eqb-true l.variable 0 p) e
      go false p e later = value (is_said (value_of t l.variable)) refl (eqb-false l.variable 0 p) e later

  -- and that they lead there
  pub said_literals : (t : List (Option Bool)) (said : List Literal) → Fresh t said → all_said most (table_after t said) ≡ true → literal_steps most (with_values t) (said ++ (is 0 ∷ [])) ≡ record { stage = Valued; values = table_after t said }
  unfolding steps_by table_after
  said_literals t [] fresh full = last_due most (with_values t) full
  said_literals t (l ∷ ls) fresh full =
      ap (λ x. literal_steps most x (ls ++ (is 0 ∷ []))) (number (eqb l.variable 0) refl)
      ∙ said_literals (with_value t l) ls fresh.3 full
    where
      number : (z : Bool) → eqb l.variable 0 ≡ z → cond z (last_step most (with_values t)) (value_step (with_values t) l) ≡ with_values (with_value t l)
      number true p = let z = eqb-true l.variable 0 p in absurd (omega (arith, fresh.0))
      number false p = said_first most (with_values t) l fresh.2
