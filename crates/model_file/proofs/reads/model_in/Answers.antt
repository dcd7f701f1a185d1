-- `model_in` reads n, the elements from the byte behind it on, and the masks from where those end.
use Rattle.std.proofs.Common.{◌≡◌, ◌+◌, ◌-◌, length, arith}
use lib.ListN.{length-drop}
use Rattle.model_file.proofs.ReadLaws.{parts}
use Rattle.model_file.proofs.reads.model_in.Goals as goal

pub returns : goal.returns
returns c =
    let E = c.args.elements in
    let bytes = c.args.bytes.now in
    let same : 1 + E - 1 ≡ E = omega arith in
    parts E bytes {n = length bytes - (1 + E)} same (omega (arith, length-drop (1 + E) bytes)) (rw (c.from.ensures, c.byte_at.ensures, c.numbers_in.ensures, c.masks_in.ensures, c.from-end.ensures))
