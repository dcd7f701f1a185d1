-- The reader of models: bytes that have the length of their n say a model.
use Rattle.std.specs.Prelude.{ℕ, ◌+◌, Bool, cond, List, eqb, length, get_or, take, drop, Result, Ok, Err}
use Rattle.outcome.specs.declared.refusals.Refusal.{Refusal}
use Rattle.outcome.specs.Refusals.{refusal, bad_model}
use Rattle.body.specs.Bodies.{numbers_of, masks_of}
use Rattle.judge.specs.declared.models.Model.{Model}
use Rattle.model_file.specs.Bytes.{model_length}

-- n, the first byte
abbrev pub size_in : List ℕ → ℕ
size_in bytes = get_or bytes 0 0

-- the E bytes behind it: the element of each name
abbrev pub elements_in : ℕ → List ℕ → List ℕ
elements_in E bytes = take E (drop 1 bytes)

-- have the bytes the length of their n, for E names; no bytes have none
unfoldable pub has_its_length : ℕ → List ℕ → Bool
has_its_length E bytes = eqb (length bytes) (model_length E (size_in bytes))

-- the model that they say: n, the elements, the masks; entries past those are 0
unfoldable pub model_in : ℕ → List ℕ → Model
model_in E bytes = record { size = size_in bytes; elements = numbers_of (elements_in E bytes); masks = masks_of (drop (1 + E) bytes) }

-- the model of some bytes for E names, or 11 at place 0
unfoldable pub model_read : ℕ → List ℕ → Result Model Refusal
model_read E bytes = cond (has_its_length E bytes) (Ok (model_in E bytes)) (Err (refusal bad_model 0))
