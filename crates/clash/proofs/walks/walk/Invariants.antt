-- `walk` keeps a statement, drops a run or learns a bound at each turn; how far it has come goes with it, and either the index grows or the bound falls.
use Rattle.std.proofs.Common.{◌+◌, ◌-◌, ◌*◌, ◌≤◌}
use Rattle.std.specs.Option.{unwrap_or}
use Rattle.clash.proofs.TurnLaws.{Turn}
use Rattle.clash.proofs.walks.walk.Given as goal

abbrev pub invariant-loop-i : goal.invariant-loop-i
invariant-loop-i l = record { turn : Turn l.q l.part l.indexes l.kept l.i l.bound l.left; some : 1 ≤ l.run }

abbrev pub decreases-loop-i : goal.decreases-loop-i
decreases-loop-i l = (64 - l.i) * 128 + unwrap_or l.bound 65
