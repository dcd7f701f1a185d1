-- Sets of terms that stand for classes of an arrangement, of which no more is known.
use Rattle.std.specs.Prelude.{ℕ, ◌<◌, ◌≡◌, Bool, List, T, length, get_or}
use Rattle.std.proofs.Math.Option.{none}
use Rattle.question.specs.Masks.{bit}
use Rattle.theory.specs.Arrangements.{classes, class_of, in_class}
use Rattle.theory.specs.Rules.{Row}
use Rattle.theory.specs.FirstModels.{model_of}

-- the set is a part of the class j of the arrangement l: it has terms of that class only, and of the known terms all that are in it
pub record Part (known : ℕ → Bool) (set : ℕ) (l : List ℕ) (j : ℕ) : Type 0 where
  pub there : j < classes l
  pub inside : (c : ℕ) → T (bit set c) → T (in_class l j c)
  pub agree : (d : ℕ) → T (known d) → bit set d ≡ in_class l j d

-- the first `used` sets stand for classes of l, whose numbers `at` gives: each is a part of its class, two sets stand for two classes, and every known term is in one of these
pub record Stand (known : ℕ → Bool) (groups : List ℕ) (used : ℕ) (l : List ℕ) (at : ℕ → ℕ) : Type 0 where
  pub part : (k : ℕ) → k < used → Part known (get_or groups k 0) l (at k)
  pub apart : (i k : ℕ) → i < used → k < used → at i ≡ at k → i ≡ k
  pub covered : (d : ℕ) → T (known d) → (k : ℕ) × (k < used) × (at k ≡ class_of l d)

module _ {Test : Type 0} (fits : ℕ → (ℕ → Bool) → Test → Bool) where
  -- no arrangement of so many terms, of a class of which the set is a part, has a model
  abbrev pub NonePart : ℕ → List (Row Test) → (ℕ → Bool) → ℕ → ℕ → Type 0
  NonePart bound rows known set terms = (l : List ℕ) (j : ℕ) → length l ≡ terms → Part known set l j → model_of fits bound rows l ≡ none

  -- no arrangement of so many terms, for classes of which the sets stand, has a model
  abbrev pub NoneStands : ℕ → List (Row Test) → (ℕ → Bool) → List ℕ → ℕ → ℕ → Type 0
  NoneStands bound rows known groups used terms = (l : List ℕ) (at : ℕ → ℕ) → length l ≡ terms → Stand known groups used l at → model_of fits bound rows l ≡ none
