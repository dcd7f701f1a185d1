-- What the search answers to rows that are handed in.
use Rattle.std.specs.Prelude.{ℕ, ◌^◌, List, map, Option, Some, None, Result, Ok, Err}
use Rattle.std.proofs.Math.Option.{Option as Possibly, none, some}
use Rattle.outcome.specs.declared.refusals.Refusal.{Refusal}
use Rattle.outcome.specs.Checks.{accepted_then}
use Rattle.outcome.specs.Padded.{padded}
use Rattle.question.specs.Limits.{max_terms}
use Rattle.theory.specs.Arrangements.{classes}
use Rattle.theory.specs.Solutions.{Solution}
use Rattle.theory.specs.FirstModels.{first_model}
use Rattle.theory.specs.Sets.{fits}
use Rattle.row.specs.Rows.{row_of}
use Rattle.row.specs.Checks.{rows_checked}
use Rattle.search.specs.declared.answers.Found.{Found}

-- the arrays that show a model
abbrev pub shown : Possibly Solution → Option Found
shown none = None
shown (some sol) = Some (record { classes = classes sol.arrangement; arrangement = padded max_terms sol.arrangement; masks = padded max_terms sol.masks })

-- what was found: the first model, or none, which means impossible
abbrev pub answer_of : Possibly Solution → Result (Option Found) Refusal
answer_of o = Ok (shown o)

-- the answer to rows over so many terms and sets: 5, 7 (place 0), 12 (place the row), else the first model of the rows
unfoldable pub searched : ℕ → ℕ → List ℕ → Result (Option Found) Refusal
searched terms sets rows = accepted_then (rows_checked terms sets rows) Err (answer_of (first_model fits terms (2 ^ sets) (map row_of rows)))
