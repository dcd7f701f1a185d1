-- `put_text` goes from byte to byte, with those that are left behind it.
use Rattle.std.proofs.Common.{◌+◌, ◌∷◌, [], get_or, drop, arith}
use Rattle.std.proofs.lemmas.List.{drop_more, at_drop_all}
use Rattle.dimacs.proofs.WroteLaws.{bytes_as, bytes_turn, bytes_end}
use Rattle.dimacs.proofs.writers.Writer.put_text.Goals as goal

pub loop-byte-preserved : goal.loop-byte-preserved
loop-byte-preserved c =
    let l = c.loop-byte in
    let s = c.args.bytes.now in
    bytes_turn (get_or s l.byte-index 0 ∷ []) (drop (l.byte-index + 1) s) (bytes_as (drop_more s l.byte-index 0 (omega arith)) l.invariant) c.put_byte.ensures

pub returns : goal.returns
returns c =
    let l = c.loop-byte in
    bytes_end (bytes_as (at_drop_all (λ s. s) c.args.bytes.now l.byte-index (omega arith)) l.invariant)
