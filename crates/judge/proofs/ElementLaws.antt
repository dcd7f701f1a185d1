-- What is asked of one domain element doesn't depend on how many there are.
use Rattle.std.proofs.Common.{ℕ, ◌≡◌, refl}
use Rattle.statement.specs.declared.statements.Statement.{Statement}
use Rattle.statement.specs.declared.statements.Statement.TheVariants.{ElementsEqual, ElementsDiffer, In, NotIn, SetsEqual, SetsDiffer, Empty, Single, Union, Intersection, Difference}
use Rattle.judge.specs.declared.models.Model.{Model}
use Rattle.judge.specs.Models.{assigned}
use Rattle.judge.specs.Elements.{at_element}

module _ (m : Model) (n k : ℕ) where
  pub any_size : (s : Statement) (d : ℕ) → at_element (assigned (record m { size = n })) s d ≡ at_element (assigned (record m { size = k })) s d
  any_size (ElementsEqual a b) d = refl
  any_size (ElementsDiffer a b) d = refl
  any_size (In a x) d = refl
  any_size (NotIn a x) d = refl
  any_size (SetsEqual x y) d = refl
  any_size (SetsDiffer x y) d = refl
  any_size (Empty x) d = refl
  any_size (Single x a) d = refl
  any_size (Union x y z) d = refl
  any_size (Intersection x y z) d = refl
  any_size (Difference x y z) d = refl
