-- Terms put into groups that stand for classes: what it means that nothing fits.
use Rattle.std.specs.Prelude.{ℕ, ◌^◌, List}
use Rattle.theory.specs.Sets.{fits}
use Rattle.mask.specs.Entries.{rows_of_entries}
use Rattle.cut.specs.Asked.{before}
use Rattle.cut.specs.Standings.{NonePart, NoneStands}
use Rattle.search.specs.Tasks.{Task}

-- where the group has the asked terms before t, no arrangement of all terms, of a class of which it is a part, has a model
abbrev pub NoPart : Task → ℕ → ℕ → Type 0
NoPart task t group = NonePart fits (2 ^ task.sets) (rows_of_entries task.entries) (before task.asked t) group task.terms

-- where the first `count` groups have the asked terms before t, no arrangement of all terms, for classes of which they stand, has a model
abbrev pub NothingFits : Task → ℕ → List ℕ → ℕ → Type 0
NothingFits task t groups count = NoneStands fits (2 ^ task.sets) (rows_of_entries task.entries) (before task.asked t) groups count task.terms
