-- The rows of the statement at a turn are some of those left, and no table gives more than 768.
use Rattle.std.proofs.Common.{◌≡◌, ◌+◌, ap, sym, ◌∙◌, length, arith}
use Rattle.question.specs.Questions.{idle}
use Rattle.reduction.specs.Rules.{rule_rows}
use Rattle.reduction.proofs.ReducingLaws.{count_from, count_turn, count_end, packed_count, packed_few}
use Rattle.reduction.proofs.reducing.count_rows.Goals as goal
use Rattle.reduction.proofs.reducing.count_rows.Goals.{After-row_count-total}

pub loop-i-init : goal.loop-i-init
loop-i-init c =
    let q = c.args.q in
    omega (arith, ap (λ t. count_from q t 0) c.requires.0, packed_count q)

turned : (c : After-row_count-total) → let a = c.args in count_from a.q a.terms c.loop-i.i ≡ c.row_count-total.result + count_from a.q a.terms (c.loop-i.i + 1)
turned c =
    let a = c.args in
    count_turn a.q a.terms c.loop-i.i idle (omega (arith, c.loop-i-test.true, c.statement_count-i-end.ensures.0))
    ∙ ap (λ n. n + count_from a.q a.terms (c.loop-i.i + 1)) (sym (c.row_count-total.ensures ∙ ap (λ r. length (rule_rows a.terms 0 r)) c.rule_of.ensures))

pub overflow_add-total : goal.overflow_add-total
overflow_add-total c =
    let stated = c.statement_count-i-end.ensures in
    record { fits = omega (arith, turned (goal.at.overflow_add-total c).After-row_count-total, c.loop-i.invariant, packed_few c.args.q (omega (arith, stated.0, stated.1)) (omega (arith, c.requires.0, c.requires.1))) }

pub loop-i-preserved : goal.loop-i-preserved
loop-i-preserved c = omega (arith, turned (goal.at.loop-i-preserved c).After-row_count-total, c.loop-i.invariant)

pub returns : goal.returns
returns c =
    let a = c.args in
    omega (arith, c.loop-i.invariant, count_end a.q a.terms c.loop-i.i (omega (arith, c.loop-i-test.false, c.statement_count-i-end.ensures.0)))
