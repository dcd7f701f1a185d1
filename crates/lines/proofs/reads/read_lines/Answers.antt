-- Each turn cuts off one line with its 0A, or all that is left without one.
use Rattle.std.proofs.Common.{rules, tests, of_calls, ◌≡◌, true, false, length, length-append, ap, sym, ◌∙◌, arith}
use Rattle.std.specs.Slice.Iter.{split_inclusive_rest}
use Rattle.text.specs.Pieces.{line_end, pieces}
use Rattle.lines.specs.Reads.{lines_from}
use Rattle.lines.proofs.WalkLaws.{at_fault, walk_starts, walk_end, walk_open, walk_line, stood, fell}
use Rattle.lines.proofs.CutLaws.{turn}
use Rattle.lines.proofs.reads.read_lines.Goals as goal

pub loop-line-init : goal.loop-line-init
loop-line-init c =
    let rest : split_inclusive_rest c.into_iter-line-iterator.result ≡ c.args.lines.now = ap split_inclusive_rest c.into_iter-line-iterator.ensures.into_iter_gives ∙ c.split_inclusive-line-items.ensures.rest in
    record {
      can = search of_calls;
      finite = search of_calls;
      place = omega (arith, ap length rest);
      comes = walk_starts _ _ _ c.start-r.ensures ∙ ap (λ l. lines_from c.args.most 0 c.start-r.result (pieces line_end l)) (sym rest);
    }

pub returns-in_default : goal.returns-in_default
returns-in_default c =
    let l = c.loop-line in
    let cut = turn _ line_end c.into_iter-line-iterator.result l.line-iterator c.next.new.self l.yielded c.in-Some.line l.yielded_by (λ x b q k. search (rules, tests)) c.in-Some.ensures.steps in
    c.bad_at.ensures ∙ sym (l.invariant.comes ∙ walk_open _ _ _ cut (search rules))

pub returns-then-eq : goal.returns-then-eq
returns-then-eq c =
    let l = c.loop-line in
    let cut = turn _ line_end c.into_iter-line-iterator.result l.line-iterator c.next.new.self l.yielded c.in-Some.line l.yielded_by (λ x b q k. search (rules, tests)) c.in-Some.ensures.steps in
    c.bad_at-then-eq.ensures ∙ sym (l.invariant.comes ∙ walk_line _ _ _ cut _ (search rules) (search rules) _ c.line_step.ensures ∙ fell _ c.line_step.new.r _ (at_fault _ true c.if-eq.ensures))

pub loop-line-preserved : goal.loop-line-preserved
loop-line-preserved c =
    let l = c.loop-line in
    let cut = turn _ line_end c.into_iter-line-iterator.result l.line-iterator c.next.new.self l.yielded c.in-Some.line l.yielded_by (λ x b q k. search (rules, tests)) c.in-Some.ensures.steps in
    record {
      can = search of_calls;
      finite = search of_calls;
      place = omega (arith, l.invariant.place, ap length cut.whole, length-append c.in-Some.line.now (split_inclusive_rest c.next.new.self));
      comes = l.invariant.comes ∙ walk_line _ _ _ cut _ (search rules) (search rules) _ c.line_step.ensures ∙ stood _ c.line_step.new.r _ (at_fault _ false c.if-eq.ensures);
    }

pub returns : goal.returns
returns c = let l = c.loop-line in c.ended.ensures ∙ sym (l.invariant.comes ∙ walk_end _ _ _ _ c.in-None.ensures.steps.0)
