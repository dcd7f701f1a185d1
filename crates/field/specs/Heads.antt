-- A field as bytes: a tag, a length in two bytes with the high byte first, and the body.
use Rattle.std.specs.Prelude.{ℕ, ◌+◌, ◌*◌, ◌/◌, ◌%◌, List, [], ◌∷◌, length, Option, Some, None}

-- a tag and a length in two bytes
abbrev pub head_length : ℕ
head_length = 3

-- the bytes of a field
abbrev pub field_bytes : ℕ → List ℕ → List ℕ
field_bytes tag body = tag ∷ length body / 256 ∷ length body % 256 ∷ body

-- field 7F, with which every file ends
abbrev pub end_bytes : List ℕ
end_bytes = field_bytes 0x7f []

-- the head with which a field begins: its tag and length; none, where fewer than three bytes are there
unfoldable pub head_of : List ℕ → Option (ℕ × ℕ)
head_of [] = None
head_of (tag ∷ []) = None
head_of (tag ∷ high ∷ []) = None
head_of (tag ∷ high ∷ low ∷ rest) = Some (tag, high * 256 + low)
