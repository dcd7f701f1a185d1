-- `next_mask` carries the bits that decide from place to place: the invariant is what is left of them, and that the reasons stand as they were.
use Rattle.std.proofs.Common.{◌≡◌}
use Rattle.mask.proofs.TrialLaws.{Carried}
use Rattle.mask.proofs.trials.next_mask.Given as goal

abbrev pub invariant-loop-q : goal.invariant-loop-q
invariant-loop-q l = (l.why ≡ l.fn.why) × Carried l.m l.why l.decided l.q l.c
