-- `walk`: what a turn leaves, and what is left behind the last.
use Rattle.std.proofs.Common.{◌≡◌, ◌+◌, ◌-◌, [], length, sym, ap, ap₂, subst, ◌∙◌, arith}
use Rattle.outcome.specs.Padded.{padded}
use Rattle.question.specs.Limits.{max_statements}
use Rattle.question.proofs.StatementsLaws.{table_long}
use Rattle.clash.specs.Clashes.{without_model}
use Rattle.clash.proofs.MeaningLaws.{search_none}
use Rattle.clash.proofs.TurnLaws.{Turn, is_next, isnt_next, turn_starts, turn_keeps, turn_accepted, turn_drops, turn_bounds, turn_ends}
use Rattle.clash.proofs.walks.walk.Goals as goal

pub loop-i-init : goal.loop-i-init
loop-i-init c =
    let q = c.args.q in
    let start = c.args.start in
    let long : length q.table ≡ 64 = search table_long in
    record {
      turn = subst (λ p. Turn q p (padded max_statements []) 0 start.from start.bound start.left) (sym c.drop_statements-part.ensures) (turn_starts q start c.requires.0 c.requires.1 long);
      some = omega arith;
    }

pub loop-i-preserved-then-eq : goal.loop-i-preserved-then-eq
loop-i-preserved-then-eq c =
    let l = c.loop-i in
    record { turn = turn_keeps l.invariant.turn c.loop-i-test.true (is_next l.bound (l.i + 1) (sym c.eq.ensures ∙ c.if-eq.true)); some = omega arith }

-- a run is dropped
pub loop-i-preserved-then-is_impossible : goal.loop-i-preserved-then-is_impossible
loop-i-preserved-then-is_impossible c =
    let l = c.loop-i in
    let t = l.invariant.turn in
    let lt = c.loop-i-test.true in
    let later = isnt_next l.bound (l.i + 1) (sym c.eq.ensures ∙ c.if-eq.false) in
    let n = c.run_length-n in
    let tested = search_none _ (turn_accepted t lt later n.result n.ensures.0 n.ensures.1 n.ensures.2) ∙ ap without_model (sym c.drop_statements-rest.ensures) ∙ sym c.is_impossible.ensures in
    record {
      turn =
          subst (λ p. Turn c.args.q p l.indexes l.kept (l.i + n.result) l.bound (l.left - 1)) (sym c.drop_statements-rest.ensures)
          (turn_drops t lt later n.result n.ensures.0 n.ensures.1 n.ensures.2 (tested ∙ c.if-is_impossible.true));
      some = omega (arith, n.ensures.0);
    }

-- or it can't be
pub loop-i-preserved : goal.loop-i-preserved
loop-i-preserved c =
    let l = c.loop-i in
    let t = l.invariant.turn in
    let lt = c.loop-i-test.true in
    let later = isnt_next l.bound (l.i + 1) (sym c.eq.ensures ∙ c.if-eq.false) in
    let n = c.run_length-n in
    let tested = search_none _ (turn_accepted t lt later n.result n.ensures.0 n.ensures.1 n.ensures.2) ∙ ap without_model (sym c.drop_statements-rest.ensures) ∙ sym c.is_impossible.ensures in
    record { turn = turn_bounds t lt later n.result n.ensures.0 n.ensures.1 n.ensures.2 n.ensures.3 (tested ∙ c.if-is_impossible.false); some = l.invariant.some }

pub returns : goal.returns
returns c = let e = turn_ends c.loop-i.invariant.turn c.loop-i-test.false in ap₂ (λ p x. record { part = p; indexes = x }) e.0 e.1
