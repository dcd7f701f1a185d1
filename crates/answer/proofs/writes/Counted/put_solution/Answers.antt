-- `put_solution` writes field 41, and field 42 into the part that starts behind it.
use Rattle.std.proofs.Common.{arith}
use Rattle.std.proofs.Common.{take}
use Rattle.std.proofs.lemmas.List.{length-append}
use Rattle.outcome.proofs.OverLaws.{behind}
use Rattle.answer.specs.Bytes.{numbers_bytes, masks_bytes}
use Rattle.answer.proofs.writes.Counted.put_solution.Goals as goal

pub returns : goal.returns
returns c =
    let m = c.put_masks-second in
    let p = c.put_numbers-first in
    let s = c.args.self in
    let first = numbers_bytes (take s.terms s.answer.arrangement) in
    let second = masks_bytes (take s.classes s.answer.masks) in
    (omega (arith, p.ensures.0, m.ensures.0, length-append first second), behind first second c.args.buf.now p.new.buf m.new.buf p.result p.ensures.0 p.ensures.1 m.ensures.1)
