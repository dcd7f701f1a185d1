-- `row_count` counts the rows of a rule: one, or one for each term.
use Rattle.std.proofs.Common.{sym}
use Rattle.row.specs.Tests.{said}
use Rattle.reduction.proofs.WritingLaws.{each_length}
use Rattle.reduction.proofs.writing.row_count.Goals as goal

pub returns-in-EachTerm : goal.returns-in-EachTerm
returns-in-EachTerm c = rw c.in-EachTerm.is (sym (each_length (said c.in-EachTerm.field-0) c.args.terms))
