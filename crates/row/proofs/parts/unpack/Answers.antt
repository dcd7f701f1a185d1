-- `unpack` takes each part from its place.
use native.Mathlib.Nat.{div-one}
use Rattle.row.specs.Parts.{parts_of}
use Rattle.row.proofs.parts.unpack.Goals as goal

pub returns : goal.returns
unfolding parts_of
returns c =
    simp (c.part.ensures, c.part-2.ensures, c.part-3.ensures, c.part-4.ensures, c.part-5.ensures, div-one)
