-- `in_variable` fits in a number of the machine: its parts are at most the square of 255, or a byte.
use Rattle.std.proofs.Common.{arith}
use Rattle.clauses.proofs.NumberingLaws.{pair_count_most, product_most}
use Rattle.clauses.proofs.variables.in_variable.Goals as goal

pub overflow_add-result-2 : goal.overflow_add-result-2
overflow_add-result-2 c = let a = c.args in omega (arith, product_most a.c a.sets (omega arith) (omega arith), pair_count_most a.terms (omega arith))

pub overflow_add-result-3 : goal.overflow_add-result-3
overflow_add-result-3 c = let a = c.args in omega (arith, product_most a.c a.sets (omega arith) (omega arith), pair_count_most a.terms (omega arith))
