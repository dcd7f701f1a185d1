-- The length of a field, and writing it at the front of a lent part of a buffer.
use Rattle.std.specs.Prelude.{ℕ, ◌+◌, Bool, ◌&&◌, cond, List, leb, length, Option, Some, None}
use Rattle.outcome.specs.Writes.{over}
use Rattle.field.specs.declared.tags.File.{File}
use Rattle.field.specs.declared.tags.BodyLength.{BodyLength}
use Rattle.field.specs.declared.tags.BodyLength.TheVariants.{Fixed, Depends}
use Rattle.field.specs.Tags.{length_of}
use Rattle.field.specs.Heads.{head_length, field_bytes}

-- the longest body whose length two bytes can say
abbrev pub longest_body : ℕ
longest_body = 65535

-- how many bytes a field with a body of n bytes has; none, where two bytes can't say its length
abbrev pub with_head : ℕ → ℕ
with_head n = cond (leb n longest_body) (head_length + n) 0

-- how many bytes a field has by the table, where a length that depends is `size`
abbrev pub sized_length : Option BodyLength → ℕ → ℕ
sized_length None size = 0
sized_length (Some (Fixed n)) size = with_head n
sized_length (Some Depends) size = with_head size

-- how many bytes a file's field with this tag has; none, where the file has no such field
unfoldable pub field_length : File → ℕ → ℕ → ℕ
field_length file tag size = sized_length (length_of file tag) size

-- can a field with this body be written where there is room for so many bytes
abbrev pub field_fits : List ℕ → ℕ → Bool
field_fits body room = leb (length body) longest_body && leb (head_length + length body) room

-- how many bytes are written: those of the whole field, or none
unfoldable pub field_count : List ℕ → ℕ → ℕ
field_count body room = cond (field_fits body room) (head_length + length body) 0

-- the part after the call: the whole field over what was there, or what was there
unfoldable pub field_over : ℕ → List ℕ → List ℕ → List ℕ
field_over tag body old = cond (field_fits body (length old)) (over (field_bytes tag body) old) old
