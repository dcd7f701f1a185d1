-- One turn: a good row leaves the check to the rows behind it, and the first bad row is refused.
use Rattle.std.proofs.Common.{sym, ap, ◌∙◌, Err}
use Rattle.row.proofs.CheckLaws.{turn, ended}
use Rattle.row.proofs.checks.check_each.Goals as goal

pub returns-then-not-row_good : goal.returns-then-not-row_good
returns-then-not-row_good c =
    let a = c.args in
    let bad = sym c.row_good.ensures ∙ c.if-not-row_good.true in
    ap Err c.new.ensures ∙ sym (c.loop-i.invariant ∙ (rw bad at (turn a.terms a.sets a.rows.now c.loop-i.i c.loop-i-test.true)))

pub loop-i-preserved : goal.loop-i-preserved
loop-i-preserved c =
    let a = c.args in
    let good = sym c.row_good.ensures ∙ c.if-not-row_good.false in
    c.loop-i.invariant ∙ (rw good at (turn a.terms a.sets a.rows.now c.loop-i.i c.loop-i-test.true))

pub returns : goal.returns
returns c = sym (c.loop-i.invariant ∙ ended _ _ c.args.rows.now c.loop-i.i c.loop-i-test.false)
