-- At a turn the rows of the next statement come first of those left, so they fit behind those written.
use Rattle.std.proofs.Common.{ℕ, ◌≡◌, ◌+◌, ◌≤◌, ◌<◌, List, ◌++◌, sym, ap, subst, ◌∙◌, length, length-take, length-drop, length-append, get_or, arith}
use Rattle.question.specs.Questions.{idle}
use Rattle.statement.specs.Statements.{witness}
use Rattle.theory.specs.Reduction.{rule}
use Rattle.question.proofs.StatementsLaws.{witness_small, terms_start}
use Rattle.outcome.proofs.OverLaws.{Run, run_start, run_room, run_next, run_end}
use Rattle.reduction.specs.Rules.{rule_rows}
use Rattle.reduction.specs.Reducing.{packed_rows}
use Rattle.reduction.proofs.ReducingLaws.{rows_from, from_turn, from_end, packed_from}
use Rattle.reduction.proofs.reducing.put_rows.Goals as goal
use Rattle.reduction.proofs.reducing.put_rows.Goals.{After-rule_of}

pub loop-i-init : goal.loop-i-init
loop-i-init c =
    let a = c.args in
    let all_left = packed_from a.q ∙ ap (λ t. rows_from a.q t 0 a.q.elements) (sym c.requires.0) in
    record { few = omega arith; run = subst (λ rest. Run (packed_rows a.q) a.rows.now rest a.rows.now 0) all_left (run_start (packed_rows a.q) a.rows.now) }

-- what comes first of the rows left
turned : (c : After-rule_of) →
    let a = c.args in let s = (get_or a.q.table c.loop-i.i idle).statement in
    Run (packed_rows a.q) a.rows.now (rule_rows a.terms c.loop-i.witness (rule s) ++ rows_from a.q a.terms (c.loop-i.i + 1) (c.loop-i.witness + witness s)) c.loop-i.rows c.loop-i.at
turned c =
    let a = c.args in
    subst (λ rest. Run (packed_rows a.q) a.rows.now rest c.loop-i.rows c.loop-i.at)
    (from_turn a.q a.terms c.loop-i.i c.loop-i.witness idle (omega (arith, c.loop-i-test.true, c.statement_count-stated.ensures.0)))
    c.loop-i.invariant.run

room : (c : After-rule_of) →
    let a = c.args in
    (length c.loop-i.rows ≡ length a.rows.now) × (c.loop-i.at + length (rule_rows a.terms c.loop-i.witness (rule (get_or a.q.table c.loop-i.i idle).statement)) ≤ length a.rows.now)
room c =
    let a = c.args in
    let s = (get_or a.q.table c.loop-i.i idle).statement in
    let fits = run_room (turned c) c.requires.2 in
    (fits.0, omega (arith, fits.1, length-append (rule_rows a.terms c.loop-i.witness (rule s)) (rows_from a.q a.terms (c.loop-i.i + 1) (c.loop-i.witness + witness s)), c.requires.2))

-- the next witness has a number of one byte
small : (c : After-rule_of) → c.loop-i.witness < 256
small c = omega (arith, c.loop-i.invariant.few, terms_start c.args.q, c.requires.0, c.requires.1, c.statement_count-stated.ensures.1, c.loop-i-test.true)

pub put_rule-at-requires : goal.put_rule-at-requires
put_rule-at-requires c =
    let at = (goal.at.put_rule-at-requires c).After-rule_of in
    let fits = room at in
    (c.requires.1, rw c.rule_of.ensures (simp (length-take, length-drop) (omega (arith, fits.0, fits.1))), small at)

pub overflow_add-witness : goal.overflow_add-witness
overflow_add-witness c =
    let few : c.witness_of-witness.result ≤ 1 = rw c.witness_of-witness.ensures (witness_small _) in
    record { fits = omega (arith, few, small (goal.at.overflow_add-witness c).After-rule_of) }

pub loop-i-preserved : goal.loop-i-preserved
loop-i-preserved c =
    let a = c.args in
    let at = (goal.at.loop-i-preserved c).After-rule_of in
    let own = c.witness_of-witness in
    let s = (get_or a.q.table c.loop-i.i idle).statement in
    let few : own.result ≤ 1 = rw own.ensures (witness_small _) in
    let put = rw c.rule_of.ensures at c.put_rule-at.ensures in
    let rest : ℕ → List ℕ = λ v. rows_from a.q a.terms (c.loop-i.i + 1) (c.loop-i.witness + v) in
    record {
      few = omega (arith, c.loop-i.invariant.few, few);
      run = run_next (rule_rows a.terms c.loop-i.witness (rule s)) (rest (witness s)) (rest own.result) c.put_rule-at.new.rows c.put_rule-at.result (turned at) put.1 put.0 (ap rest own.ensures);
    }

pub returns : goal.returns
returns c =
    let a = c.args in
    (run_end (subst (λ rest. Run (packed_rows a.q) a.rows.now rest c.loop-i.rows c.loop-i.at) (from_end a.q a.terms c.loop-i.i c.loop-i.witness (omega (arith, c.loop-i-test.false, c.statement_count-stated.ensures.0))) c.loop-i.invariant.run)).1
