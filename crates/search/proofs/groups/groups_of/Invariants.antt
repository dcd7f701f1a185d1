-- The terms passed are in their classes' groups.
use Rattle.std.proofs.Common.{◌≡◌, take}
use Rattle.theory.specs.Arrangements.{classes}
use Rattle.search.specs.Groups.{GroupsOf}
use Rattle.search.proofs.groups.groups_of.Given as goal

abbrev pub invariant-loop-t : goal.invariant-loop-t
invariant-loop-t l = GroupsOf l.arrangement l.t l.groups.terms × (l.groups.count ≡ classes (take l.t l.arrangement))
