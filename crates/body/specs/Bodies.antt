-- Bodies that hold numbers: those of one byte each, and masks of some bytes each, high byte first, as they are written and as they are read.
use Rattle.std.specs.Prelude.{ℕ, zero, suc, ◌/◌, min, List, [], ◌∷◌, ◌++◌, length, take, drop}
use Rattle.outcome.specs.Padded.{padded}
use Rattle.number.specs.Numbers.{bytes_of, number_in}
use Rattle.question.specs.Limits.{max_terms}

-- a mask has two bytes, one bit for each of 16 sets
abbrev pub mask_bytes : ℕ
mask_bytes = 2

-- some masks as a body, w bytes each
unfoldable pub masks_body : ℕ → List ℕ → List ℕ
masks_body w [] = []
masks_body w (m ∷ ms) = bytes_of w m ++ masks_body w ms

-- the n masks with which some bytes begin, w bytes each
unfoldable pub masks_in : ℕ → ℕ → List ℕ → List ℕ
masks_in w zero bytes = []
masks_in w (suc n) bytes = number_in (take w bytes) ∷ masks_in w n (drop w bytes)

-- the numbers of a body as an array, one byte each: the first twelve, and 0 past the last
abbrev pub numbers_of : List ℕ → List ℕ
numbers_of body = padded max_terms (take max_terms body)

-- the masks of a body as an array: the first twelve, and 0 past the last
abbrev pub masks_of : List ℕ → List ℕ
masks_of body = padded max_terms (masks_in mask_bytes (min max_terms (length body / mask_bytes)) body)
