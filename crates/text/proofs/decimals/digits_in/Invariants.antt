-- What all the bytes say is what those from here on say behind the number so far, which is small enough for one digit more.
use Rattle.std.proofs.Common.{◌≡◌, ◌≤◌, drop}
use Rattle.text.specs.Decimals.{digits_from}
use Rattle.text.proofs.decimals.digits_in.Given as goal

abbrev pub invariant-loop-b : goal.invariant-loop-b
invariant-loop-b l = (l.n ≤ l.most) × (digits_from 0 l.bytes ≡ digits_from l.n (drop l.b-index l.bytes))
