-- `is_model` makes its three tests in order.
use Rattle.std.proofs.Common.{arith}
use Rattle.std.proofs.lemmas.Grind.{common_steps}
use Rattle.judge.specs.Models.{is_model}
use Rattle.judge.proofs.models.Model.is_model.Goals as goal

pub returns-then-elements_inside : goal.returns-then-elements_inside
unfolding is_model
returns-then-elements_inside c = grind (arith, common_steps)

pub returns-else-elements_inside : goal.returns-else-elements_inside
unfolding is_model
returns-else-elements_inside c = grind (arith, common_steps)
