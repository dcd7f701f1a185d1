-- The task stays.
use Rattle.std.proofs.Common.{◌≡◌}
use Rattle.search.proofs.finders.Finder.each_has_mask.Given as goal

abbrev pub invariant-loop-k : goal.invariant-loop-k
invariant-loop-k l = l.self ≡ l.initial.self
