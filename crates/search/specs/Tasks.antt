-- What the steps of a search are about, and what they may rely on.
use Rattle.std.specs.Prelude.{ℕ, ◌≤◌, List, T}
use Rattle.question.specs.Limits.{max_sets, max_terms}
use Rattle.theory.specs.Solutions.{all_rows}
use Rattle.theory.specs.Sets.{row_declared}
use Rattle.mask.specs.Entries.{rows_of_entries}
use Rattle.cut.specs.Asked.{asks, all_asked_known, before}
use Rattle.search.specs.Memos.{Memo}

-- the entries, over so many terms and sets, and the group of the asked terms
pub record Task : Type 0 where
  pub entries : List ℕ
  pub terms : ℕ
  pub sets : ℕ
  pub asked : ℕ

-- the group `asked` has the terms that rows ask for, and they are among so many
abbrev pub AskedAre : List ℕ → ℕ → ℕ → Type 0
AskedAre entries asked terms = T (all_asked_known asks (before asked terms) (rows_of_entries entries))

-- there are at most twelve terms, masks are wide enough, rows name only these, the asked terms are those that rows ask for, and what the memo notes is right
pub record IsSound (task : Task) (memo : List ℕ) : Type 0 where
  pub few_terms : task.terms ≤ max_terms
  pub few_sets : task.sets ≤ max_sets
  pub declared : T (all_rows (row_declared task.terms task.sets) (rows_of_entries task.entries))
  pub asked_are : AskedAre task.entries task.asked task.terms
  pub remembered : Memo task.entries task.sets memo
