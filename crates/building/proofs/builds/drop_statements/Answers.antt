-- Whatever the run is, the statement of a turn is copied, or left out.
use Rattle.std.proofs.Common.{◌<◌, length-take, get_or, take, sym, ap, ◌∙◌, arith}
use mathlib.Core.Logic.{⊎_elim}
use Rattle.question.specs.Limits.{max_statements}
use Rattle.question.specs.Questions.{idle}
use Rattle.question.specs.Builds.{added}
use Rattle.question.proofs.StatementsLaws.{statements_length, statements_front}
use Rattle.question.proofs.BuildLaws.{kept_none, kept_before, kept_behind, kept_inside, kept_all}
use Rattle.building.proofs.builds.drop_statements.Goals as goal
use Rattle.building.proofs.builds.drop_statements.Goals.{then-outside, else-outside}

pub loop-j-init : goal.loop-j-init
loop-j-init c = c.declare-rest.ensures ∙ sym (kept_none c.args.q c.args.i c.args.n)

pub loop-j-preserved : goal.loop-j-preserved
loop-j-preserved c =
    let q = c.args.q in
    let j = c.loop-j.j in
    let size = c.statement_count.ensures.0 in
    let s = (get_or (take c.statement_count.result q.table) j idle).statement in
    let next = statements_front q c.statement_count.result j idle (omega (arith, size, statements_length q)) c.loop-j-test.true in
    let few : j < max_statements = omega (arith, c.statement_count.ensures.1, length-take c.statement_count.result q.table) in
    elim c.if-outside.branch [
      | then-outside w ↦
          w.rest-is ∙ ap (λ r. added r s) c.loop-j.invariant
          ∙ ⊎_elim (kept_before q c.args.i c.args.n j s few next) (kept_behind q c.args.i c.args.n j s few next) (c.outside.ensures.out w.if-outside.true)
      | else-outside w ↦
          let within = c.outside.ensures.within w.if-outside.false in
          w.rest-is ∙ c.loop-j.invariant ∙ kept_inside q c.args.i c.args.n j s few next within.0 within.1
    ]

pub returns : goal.returns
returns c =
    let q = c.args.q in
    c.loop-j.invariant ∙ kept_all q c.args.i c.args.n c.loop-j.j (omega (arith, c.statement_count.ensures.0))
