-- `pair_count` is the sum of the numbers below `terms`.
use Rattle.std.proofs.Common.{◌^◌, refl, sym, ◌∙◌, arith}
use Rattle.std.proofs.lemmas.Iterator.{YieldsList-from_range}
use Rattle.std.proofs.lemmas.Iterator.Consumers.{sum_from_yields_List, fits_from_yields_list}
use Rattle.clauses.proofs.NumberingLaws.{pair_count_most, pair_count_sum}
use Rattle.clauses.proofs.variables.pair_count.Goals as goal

pub sum-requires-clause-fits : goal.sum-requires-clause-fits
sum-requires-clause-fits c =
    let n = c.args.terms in
    fits_from_yields_list _ (2 ^ 64) (YieldsList-from_range 0 n n refl (omega arith)) (omega (arith, pair_count_most n (omega arith), pair_count_sum n))

pub returns : goal.returns
returns c =
    let n = c.args.terms in
    sum_from_yields_List _ _ c.sum.ensures.ran (YieldsList-from_range 0 n n refl (omega arith)) ∙ sym (pair_count_sum n)
