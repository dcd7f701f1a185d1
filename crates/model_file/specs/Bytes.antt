-- A model as bytes: n, the element of each of E names, and the masks of the n domain elements, high byte first.
use Rattle.std.specs.Prelude.{ℕ, ◌+◌, ◌*◌, List, ◌∷◌, ◌++◌, take}
use Rattle.outcome.specs.Padded.{padded}
use Rattle.question.specs.Limits.{max_terms}
use Rattle.body.specs.Bodies.{mask_bytes, masks_body}
use Rattle.judge.specs.declared.models.Model.{Model}

-- how many bytes a model of n elements has
abbrev pub model_length : ℕ → ℕ → ℕ
model_length E n = 1 + E + n * mask_bytes

-- the bytes of a model: what lies past the names and past the domain is left out
unfoldable pub model_file : ℕ → Model → List ℕ
model_file E m = m.size ∷ take E m.elements ++ masks_body mask_bytes (take m.size m.masks)

-- the model that they are read back as: the entries that were left out are 0
unfoldable pub cleaned : ℕ → Model → Model
cleaned E m = record { size = m.size; elements = padded max_terms (take E m.elements); masks = padded max_terms (take m.size m.masks) }
