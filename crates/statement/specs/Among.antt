-- One list among another: it has no entry that the other lacks, whatever their order and however often an entry stands.
use Rattle.std.specs.Prelude.{◌≡◌, List, [], ◌∷◌, ◌⊎◌}

module _ {A : Type 0} where
  -- x stands in the list
  abbrev pub OneOf : A → List A → Type 0
  OneOf x [] = ⊥
  OneOf x (y ∷ l) = (x ≡ y) ⊎ OneOf x l

  -- what stands in k stands in l
  abbrev pub Among : List A → List A → Type 0
  Among k l = (x : A) → OneOf x k → OneOf x l
