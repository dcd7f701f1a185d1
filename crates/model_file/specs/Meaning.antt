-- What the bytes of a model mean, read straight off them: an assignment, and when it is a good model.
use Rattle.std.specs.Prelude.{ℕ, ◌+◌, ◌*◌, ◌^◌, ◌≤◌, ◌<◌, ◌≡◌, List, length, get_or, take, drop}
use Rattle.number.specs.Numbers.{number_in}
use Rattle.question.specs.Limits.{max_terms}
use Rattle.question.specs.Masks.{bit}
use Rattle.statement.specs.Meaning.{Assignment}
use Rattle.body.specs.Bodies.{mask_bytes}
use Rattle.model_file.specs.Bytes.{model_length}
use Rattle.model_file.specs.Reads.{size_in, elements_in}

-- the mask of the domain element d, behind n and the elements of E names
abbrev pub mask_in : ℕ → List ℕ → ℕ → ℕ
mask_in E bytes d = number_in (take mask_bytes (drop (1 + E + d * mask_bytes) bytes))

-- the assignment: n, the element of each name, and a domain element is in the set x if its mask has bit x
abbrev pub assignment_in : ℕ → List ℕ → Assignment
assignment_in E bytes = record { size = size_in bytes; element = λ a. get_or (elements_in E bytes) a.0 0; part = λ x d. bit (mask_in E bytes d) x.0 }

-- a good model for E element names and S set names; any other gets 11
pub record IsGoodModel (E S : ℕ) (bytes : List ℕ) : Type 0 where
  pub its_length : length bytes ≡ model_length E (size_in bytes)
  pub few_elements : size_in bytes ≤ max_terms
  pub elements_below : (a : ℕ) → a < E → get_or (elements_in E bytes) a 0 < size_in bytes
  pub masks_below : (d : ℕ) → d < size_in bytes → mask_in E bytes d < 2 ^ S
