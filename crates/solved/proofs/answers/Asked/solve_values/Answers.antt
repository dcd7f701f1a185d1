-- The terms and sets fit their arrays, and the model of the values is judged.
use Rattle.std.proofs.Common.{◌≡◌, length, ap, ◌∙◌, arith}
use Rattle.lines.specs.Values.{truth_of}
use Rattle.clauses.specs.Models.{model_said}
use Rattle.solved.specs.Solved.{model_of}
use Rattle.solved.specs.Said.{said_as, said_judged, said_judged_over}
use Rattle.solved.proofs.JudgingLaws.{model_arranged, few, said_solved}
use Rattle.solved.proofs.answers.Asked.solve_values.Goals as goal

pub overflow_cast-values : goal.overflow_cast-values
overflow_cast-values c = omega (arith, c.terms.ensures, (few c.args.self.now.question c.args.self.now.sound).0)

pub invariant_of-values : goal.invariant_of-values
invariant_of-values c = record {
  few_terms = omega (arith, c.terms.ensures, (few c.args.self.now.question c.args.self.now.sound).0);
  few_sets = (few c.args.self.now.question c.args.self.now.sound).1;
}

pub returns : goal.returns
returns c =
    let j = c.judge_model in
    let a = c.args in
    let old = a.buf.now in
    let is : c.model.result ≡ said_as (model_of a.self.now.question a.said.now.values) = c.model.ensures ∙ ap (λ n. said_as (model_said n a.self.now.question.sets (truth_of a.said.now.values))) c.terms.ensures in
    let all = said_solved a.self.now.question a.self.now.sound (model_of a.self.now.question a.said.now.values) (model_arranged a.self.now.question a.said.now.values) old in
    (j.ensures.0 ∙ ap (λ m. said_judged a.self.now.question m (length old)) is ∙ all.0, j.ensures.1 ∙ ap (λ m. said_judged_over a.self.now.question m old) is ∙ all.1)
