-- `pair_variable` fits in a number of the machine.
use Rattle.std.proofs.Common.{arith}
use Rattle.clauses.proofs.NumberingLaws.{pair_index_most}
use Rattle.clauses.proofs.variables.pair_variable.Goals as goal

pub overflow_add-result : goal.overflow_add-result
overflow_add-result c = let a = c.args in omega (arith, pair_index_most a.terms a.c a.d (omega arith) (omega arith))
