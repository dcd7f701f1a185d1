-- The bytes still to come, before those that stand, are the bytes of the number.
use Rattle.std.proofs.Common.{◌≡◌, ◌++◌, length, drop}
use Rattle.number.specs.Numbers.{bytes_of}
use Rattle.number.proofs.numbers.put_number.Given as goal

abbrev pub invariant-loop-i : goal.invariant-loop-i
invariant-loop-i l = bytes_of (length l.initial.buf) l.n ≡ bytes_of l.i l.rest ++ drop l.i l.buf
