use Rattle.std.proofs.Common.{drop}
use Rattle.dimacs.proofs.WroteLaws.{BytesLeft}
use Rattle.dimacs.proofs.writers.Writer.put_text.Given as goal

abbrev pub invariant-loop-byte : goal.invariant-loop-byte
invariant-loop-byte l = BytesLeft l.initial.self l.bytes l.self (drop l.byte-index l.bytes)
