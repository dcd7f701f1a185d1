-- There are few terms and sets.
use Rattle.std.proofs.Common.{◌≡◌, ap, ◌∙◌, arith}
use Rattle.clauses.specs.Variables.{spare_variable}
use Rattle.solved.specs.Solved.{variables_of}
use Rattle.solved.proofs.JudgingLaws.{few}
use Rattle.solved.proofs.SolvingLaws.{variables_few}
use Rattle.solved.proofs.answers.Asked.variables.Goals as goal

pub overflow_cast-terms : goal.overflow_cast-terms
overflow_cast-terms c = omega (arith, c.terms.ensures, (few c.args.self.now.question c.args.self.now.sound).0)

pub overflow_cast-result : goal.overflow_cast-result
overflow_cast-result c =
    let q = c.args.self.now.question in
    let is : c.spare_variable.result ≡ variables_of q = c.spare_variable.ensures ∙ ap (λ n. spare_variable n q.sets) c.terms.ensures in
    omega (arith, variables_few q c.args.self.now.sound)
