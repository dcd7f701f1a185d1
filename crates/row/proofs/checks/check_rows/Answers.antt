-- `check_rows` refuses in document 01's order: each return rewrites with the tests that led there.
use Rattle.std.proofs.Common.{◌∙◌, sym, length, arith}
use borrow.Author.Tests.{lt-ltb, le-ltb}
use Rattle.question.specs.Limits.{max_terms, max_sets, max_rows}
use Rattle.row.specs.Checks.{rows_checked}
use Rattle.row.proofs.checks.check_rows.Goals as goal

pub returns-then-terms-gt-MAX_TERMS : goal.returns-then-terms-gt-MAX_TERMS
unfolding rows_checked
returns-then-terms-gt-MAX_TERMS c = simp (lt-ltb max_terms c.args.terms (omega arith)) cc

pub returns-then-sets-gt-MAX_SETS : goal.returns-then-sets-gt-MAX_SETS
unfolding rows_checked
returns-then-sets-gt-MAX_SETS c = simp (le-ltb max_terms c.args.terms (omega arith), lt-ltb max_sets c.args.sets (omega arith)) cc

pub returns-then-rows-gt-MAX_ROWS : goal.returns-then-rows-gt-MAX_ROWS
unfolding rows_checked
returns-then-rows-gt-MAX_ROWS c =
    simp (le-ltb max_terms c.args.terms (omega arith), le-ltb max_sets c.args.sets (omega arith), lt-ltb max_rows (length c.args.rows.now) (omega arith)) cc

pub returns : goal.returns
unfolding rows_checked
returns c =
    c.check_each.ensures
    ∙ sym (simp (le-ltb max_terms c.args.terms (omega arith), le-ltb max_sets c.args.sets (omega arith), le-ltb max_rows (length c.args.rows.now) (omega arith)))
