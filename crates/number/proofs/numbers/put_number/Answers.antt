-- From the last byte to the first.
use Rattle.std.proofs.Common.{sym, ◌∙◌, arith}
use Rattle.number.proofs.NumberLaws.{bytes_start, bytes_next, bytes_end}
use Rattle.number.proofs.numbers.put_number.Goals as goal

pub loop-i-init : goal.loop-i-init
loop-i-init c = bytes_start c.args.n c.args.buf.now

pub loop-i-preserved : goal.loop-i-preserved
loop-i-preserved c = let l = c.loop-i in l.invariant ∙ bytes_next l.i l.rest l.buf (omega arith) (omega arith)

pub returns : goal.returns
returns c = let l = c.loop-i in sym (l.invariant ∙ bytes_end l.i l.rest l.buf (omega arith))
