-- The loop stands before the class c: what is found is what is found from there on.
use Rattle.std.proofs.Common.{◌≡◌, ◌-◌}
use Rattle.search.proofs.StepLaws.{Before}
use Rattle.search.proofs.finders.Finder.+place.Given as goal

-- Fewer terms are still to be placed.
abbrev pub decreases-place : goal.decreases-place
decreases-place l = l.self.now.terms - l.placed.terms

abbrev pub invariant-loop-c : goal.invariant-loop-c
invariant-loop-c l =
    let task = l.initial.self in
    (l.self ≡ task) × Before task l.placed.arrangement l.placed.terms l.placed.groups.count l.c
