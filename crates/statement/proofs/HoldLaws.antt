-- Statements among others hold where those hold: to leave statements out, to put them in another order or to say one twice makes no possible list impossible.
use Prim.Native.Nat.{ℕ}
use mathlib.Core.Path.{refl, sym, subst}
use mathlib.Core.List.{List, [], ◌∷◌}
use mathlib.Core.Logic.{inl, inr, ⊎_elim}
use lib.Dec.{T}
use Rattle.statement.specs.declared.statements.Statement.{Statement}
use Rattle.statement.specs.Meaning.{Assignment, holds, AllHold, CantHold, CanHold}
use Rattle.statement.specs.Among.{OneOf, Among}

module _ (A : Assignment) where
  holds_one : (s : Statement) (ts : List Statement) → AllHold A ts → OneOf s ts → T (holds A s)
  holds_one s [] h o = absurd o
  holds_one s (t ∷ ts) h o = ⊎_elim (λ e. subst (λ x. T (holds A x)) (sym e) h.0) (λ r. holds_one s ts h.1 r) o

  pub hold_among : (ss ts : List Statement) → Among ss ts → AllHold A ts → AllHold A ss
  hold_among [] ts among h = tt
  hold_among (s ∷ ss) ts among h = (holds_one s ts h (among s (inl refl)), hold_among ss ts (λ x o. among x (inr o)) h)

module _ (E : ℕ) (ss ts : List Statement) (among : Among ss ts) where
  -- fewer statements can hold where all can
  pub can_among : CanHold E ts → CanHold E ss
  can_among c = record { by = c.by; assignment = c.assignment; holding = hold_among c.by ss ts among c.holding }

  -- and where they can't, all can't
  pub cant_among : CantHold E ss → CantHold E ts
  cant_among h A is all = h A is (hold_among A ss ts among all)
