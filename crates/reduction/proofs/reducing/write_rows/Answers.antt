-- `write_rows` refuses too many terms, then a buffer that is too short, and else writes the rows.
use Rattle.std.proofs.Common.{◌≤◌, sym, ap, ◌∙◌, arith, Ok, Err}
use Rattle.question.specs.Limits.{max_terms}
use Rattle.question.specs.Questions.{terms_of}
use Rattle.reduction.proofs.TableRows.{many, short, whole}
use Rattle.reduction.proofs.reducing.write_rows.Goals as goal

pub returns-then-n-gt-MAX_TERMS : goal.returns-then-n-gt-MAX_TERMS
returns-then-n-gt-MAX_TERMS c =
    let a = c.args in
    let left = many a.q a.rows.now (omega arith) in
    (ap Err c.new.ensures ∙ sym left.0, sym left.1)

pub returns-then-rows-count : goal.returns-then-rows-count
returns-then-rows-count c =
    let a = c.args in
    let few : terms_of a.q ≤ max_terms = omega arith in
    let left = short a.q a.rows.now few (omega (arith, c.count_rows-count.ensures, c.if-rows-count.true)) in
    (ap Err c.new-then-rows-count.ensures ∙ sym left.0, sym left.1)

pub returns : goal.returns
returns c =
    let a = c.args in
    let few : terms_of a.q ≤ max_terms = omega arith in
    let left = whole a.q a.rows.now few (omega (arith, c.count_rows-count.ensures, c.if-rows-count.false)) in
    (ap Ok c.count_rows-count.ensures ∙ sym left.0, c.put_rows.ensures ∙ sym left.1)
