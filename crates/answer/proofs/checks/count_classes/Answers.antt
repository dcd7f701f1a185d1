-- The first class number against the rule decides.
use Rattle.std.proofs.Common.{take, sym, ◌∙◌, arith}
use Rattle.answer.proofs.CheckLaws.{count_more, count_against, count_end}
use Rattle.answer.proofs.checks.count_classes.Goals as goal

pub returns-then-used-class : goal.returns-then-used-class
returns-then-used-class c =
    let l = c.loop-number in
    sym (l.invariant.1 ∙ count_against (take c.args.terms c.args.numbers) l.number-index l.used (omega arith) (omega arith))

pub loop-number-preserved : goal.loop-number-preserved
loop-number-preserved c =
    let l = c.loop-number in
    let more = count_more (take c.args.terms c.args.numbers) l.number-index l.used (omega arith) (omega arith) in
    (omega arith, l.invariant.1 ∙ cc)

pub returns : goal.returns
returns c = let l = c.loop-number in sym (l.invariant.1 ∙ count_end (take c.args.terms c.args.numbers) l.number-index l.used (omega arith))
