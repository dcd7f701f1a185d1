-- The count, or the number of records if that is smaller, is the length of the statements.
use Rattle.std.proofs.Common.{◌≡◌, length, arith}
use Rattle.question.proofs.StatementsLaws.{table_long, statements_length}
use Rattle.question.proofs.checks.statement_count.Goals as goal

pub returns : goal.returns
returns c =
    let q = c.args.q in
    let long : length q.table ≡ 64 = search table_long in
    (omega (arith, statements_length q), omega arith)
