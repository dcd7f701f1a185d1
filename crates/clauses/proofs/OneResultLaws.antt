-- Each public contract of this crate leaves one result.
use Rattle.outcome.specs.OneResult.{OneResult}
use Rattle.outcome.proofs.OneLaw.{both}
use Rattle.clauses.proofs.variables.pair_variable.Reads as pair_variable
use Rattle.clauses.proofs.variables.in_variable.Reads as in_variable
use Rattle.clauses.proofs.variables.spare_variable.Reads as spare_variable

pair_variable_one : OneResult pair_variable.Learnt
pair_variable_one κs given x y s t = both

in_variable_one : OneResult in_variable.Learnt
in_variable_one κs given x y s t = both

spare_variable_one : OneResult spare_variable.Learnt
spare_variable_one κs given x y s t = both
