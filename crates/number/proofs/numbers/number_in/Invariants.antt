-- The number of all bytes is that of the bytes from here on behind the number so far, which has room for one byte more.
use Rattle.std.proofs.Common.{◌≡◌, ◌^◌, ◌<◌, ◌≤◌, length, drop}
use Rattle.number.specs.Numbers.{most_bytes, number_from, number_in}
use Rattle.number.proofs.numbers.number_in.Given as goal

abbrev pub invariant-loop-byte : goal.invariant-loop-byte
invariant-loop-byte l =
    (length l.first ≤ most_bytes)
    × (l.n < 256 ^ l.byte-index)
    × (number_in l.first ≡ number_from l.n (drop l.byte-index l.first))
