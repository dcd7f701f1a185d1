-- The rows of an accepted question pass the check of rows, and say the row list again.
use Rattle.std.proofs.Common.{Ok}
use mathlib.Core.Path.{◌≡◌}
use mathlib.Core.List.{map}
use native.Mathlib.Omega.{arith}
use Rattle.question.specs.declared.questions.Question.{Question}
use Rattle.question.specs.Questions.{terms_of}
use Rattle.question.specs.Checks.{IsAccepted}
use Rattle.question.proofs.StatementsLaws.{statements_length}
use Rattle.theory.specs.Reduction.{row_list}
use Rattle.theory.proofs.RowListLaws.{rows_declared}
use Rattle.row.specs.Rows.{row_of}
use Rattle.row.specs.Checks.{rows_checked}
use Rattle.row.proofs.AcceptedRows.{rows_accepted, packed_good, packed_say}
use Rattle.reduction.specs.Reducing.{packed_rows}
use Rattle.reduction.proofs.ReducingLaws.{packed_few}

module _ (q : Question) (accepted : IsAccepted q) where
  pub rows_pass : rows_checked (terms_of q) q.sets (packed_rows q) ≡ Ok tt
  unfolding packed_rows
  rows_pass = rows_accepted (terms_of q) q.sets (packed_rows q) (record {
    few_terms = accepted.few_terms;
    few_sets = accepted.few_sets;
    few_rows = packed_few q (omega (arith, statements_length q, accepted.few_statements)) accepted.few_terms;
    all_good = packed_good (terms_of q) q.sets accepted.few_terms accepted.few_sets (row_list q) (rows_declared q accepted);
  })

  pub rows_say : map row_of (packed_rows q) ≡ row_list q
  unfolding packed_rows
  rows_say = packed_say (terms_of q) q.sets accepted.few_terms accepted.few_sets (row_list q) (rows_declared q accepted)
