-- A turn moves a statement's witness from what is left to the terms so far.
use Rattle.std.proofs.Common.{sym, ◌∙◌, arith}
use Rattle.question.specs.Questions.{idle}
use Rattle.question.proofs.StatementsLaws.{witness_small, statements_length, statements_turn, statements_left, terms_start, terms_turn, terms_end}
use Rattle.question.proofs.checks.terms.Goals as goal

pub loop-entry-init : goal.loop-entry-init
loop-entry-init c = (omega arith, terms_start c.args.q)

pub overflow_add-total : goal.overflow_add-total
overflow_add-total c = omega (arith, c.witness_of-total.ensures, witness_small)

pub loop-entry-preserved : goal.loop-entry-preserved
loop-entry-preserved c =
    let q = c.args.q in
    let l = c.loop-entry in
    let next = statements_turn q _ l.entry-index idle (omega (arith, c.statement_count.ensures.0, statements_length q)) c.loop-entry-test.true in
    let w = c.witness_of-total.ensures in
    (omega (arith, witness_small), rw w (l.invariant.1 ∙ terms_turn q l.entry-index l.total _ next))

pub returns : goal.returns
returns c =
    let q = c.args.q in
    let l = c.loop-entry in
    let left = statements_left q _ l.entry-index (omega (arith, c.statement_count.ensures.0)) c.loop-entry-test.false in
    sym (l.invariant.1 ∙ terms_end q l.entry-index l.total left)
