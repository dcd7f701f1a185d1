-- A statement that is refused ends the check, and one that is accepted leaves the check of those after it.
use Rattle.std.proofs.Common.{sym, ap, ◌∙◌, arith, Err}
use Rattle.question.specs.Questions.{idle}
use Rattle.question.proofs.StatementsLaws.{witness_small, statements_length, statements_turn, statements_left}
use Rattle.question.proofs.CheckLaws.{turn_refused, turn_accepted, ended}
use Rattle.question.proofs.checks.check_statements.Goals as goal

pub returns-in-Err : goal.returns-in-Err
returns-in-Err c =
    let q = c.args.q in
    let l = c.loop-i in
    let next = statements_turn q q.count l.i idle (omega arith) c.loop-i-test.true in
    ap Err c.at.ensures ∙ sym (l.invariant.1 ∙ turn_refused q l.i l.terms _ next c.in-Err.reason c.in-Err.ensures)

pub overflow_add-terms : goal.overflow_add-terms
overflow_add-terms c = omega (arith, c.witness_of-terms.ensures, witness_small)

pub loop-i-preserved : goal.loop-i-preserved
loop-i-preserved c =
    let q = c.args.q in
    let l = c.loop-i in
    let next = statements_turn q q.count l.i idle (omega arith) c.loop-i-test.true in
    let w = c.witness_of-terms.ensures in
    (omega (arith, witness_small), rw w (l.invariant.1 ∙ turn_accepted q l.i l.terms _ next c.in_default.ensures))

pub returns : goal.returns
returns c =
    let q = c.args.q in
    let l = c.loop-i in
    sym (l.invariant.1 ∙ ended q l.i l.terms (statements_left q q.count l.i (omega (arith, statements_length q)) c.loop-i-test.false))
