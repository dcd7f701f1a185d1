-- One row more, and at the end all of them.
use Rattle.std.proofs.Common.{sym, ap, ◌∙◌, arith, take_all}
use Rattle.outcome.specs.Writes.{over}
use Rattle.outcome.proofs.OverLaws.{copied_in}
use Rattle.row.specs.Parts.{packed}
use Rattle.row.specs.Rows.{pack_row}
use Rattle.row.specs.Tests.{said}
use Rattle.reduction.specs.Rules.{each_term}
use Rattle.reduction.proofs.WritingLaws.{each_length, each_at}
use Rattle.reduction.proofs.writing.put_each.Goals as goal

pub bounds-rows-c : goal.bounds-rows-c
bounds-rows-c c = omega (arith, each_length (said c.args.test) c.args.terms)

pub loop-c-preserved : goal.loop-c-preserved
unfolding pack_row
loop-c-preserved c =
    let a = c.args in
    let t = said a.test in
    let value = c.pack.ensures ∙ ap (λ p. packed (record p { term = c.loop-c.c })) c.new-parts.ensures ∙ sym (each_at t a.terms c.loop-c.c c.loop-c-test.true) in
    copied_in (each_term t a.terms) a.rows.now c.loop-c.rows c.loop-c.c c.pack.result (omega (arith, each_length t a.terms)) (omega (arith, each_length t a.terms)) c.loop-c.invariant value

pub returns : goal.returns
returns c =
    let a = c.args in
    let t = said a.test in
    (sym (each_length t a.terms), c.loop-c.invariant ∙ ap (λ b. over b a.rows.now) (take_all c.loop-c.c (each_term t a.terms) (omega (arith, each_length t a.terms))))
