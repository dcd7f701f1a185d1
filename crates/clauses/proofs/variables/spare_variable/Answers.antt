-- `spare_variable` fits in a number of the machine: its parts are at most the square of 255.
use Rattle.std.proofs.Common.{arith}
use Rattle.clauses.proofs.NumberingLaws.{pair_count_most, product_most}
use Rattle.clauses.proofs.variables.spare_variable.Goals as goal

pub overflow_add-result : goal.overflow_add-result
overflow_add-result c = let a = c.args in omega (arith, product_most a.terms a.sets (omega arith) (omega arith), pair_count_most a.terms (omega arith))

pub overflow_add-result-2 : goal.overflow_add-result-2
overflow_add-result-2 c = let a = c.args in omega (arith, product_most a.terms a.sets (omega arith) (omega arith), pair_count_most a.terms (omega arith))
