-- The loop stands before the group k: with the term in one of the groups before, nothing fits.
use Rattle.std.proofs.Common.{◌≡◌, ◌-◌, ◌^◌}
use Rattle.theory.specs.Sets.{fits}
use Rattle.mask.specs.Entries.{rows_of_entries}
use Rattle.cut.specs.Asked.{before}
use Rattle.cut.proofs.TriedLaws.{Tried}
use Rattle.search.proofs.finders.Finder.+all_fit.Given as goal

-- The terms from `term` on get fewer.
abbrev pub decreases-all_fit : goal.decreases-all_fit
decreases-all_fit l = l.self.now.terms - l.term

abbrev pub invariant-loop-k : goal.invariant-loop-k
invariant-loop-k l =
    let task = l.initial.self in
    (l.self ≡ task) × Tried fits (2 ^ task.sets) (rows_of_entries task.entries) (before task.asked l.term) l.groups.terms l.groups.count task.terms l.term l.k
