-- `sets_exist` is a recursion over the set names without a part, whose number falls.
use Rattle.std.proofs.Common.{◌-◌}
use Rattle.compare.proofs.trials.+sets_exist.Given as goal

abbrev pub decreases-sets_exist : goal.decreases-sets_exist
decreases-sets_exist l = 4 - l.place
