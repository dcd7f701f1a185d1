-- `pair_index` adds up the pairs of each lower term.
use Rattle.std.proofs.Common.{◌+◌, ◌-◌, ◌^◌, refl, arith, rules}
use Rattle.std.specs.List.{range_with_len}
use Rattle.std.proofs.lemmas.Iterator.{YieldsList-from_range, YieldsList-from_map}
use Rattle.std.proofs.lemmas.Iterator.Consumers.{sum_by_from_yields_List, YieldsList-at}
use Rattle.std.proofs.lemmas.Iterator.Adapters.{at_most_from_yields_List, fits_from_length}
use Rattle.std.proofs.lemmas.List.FromFn.{length-range_with_len}
use Rattle.clauses.proofs.NumberingLaws.{sum_below, pair_index_sum}
use Rattle.clauses.proofs.variables.pair_index.Goals as goal

pub sum-lower-requires-clause-fits : goal.sum-lower-requires-clause-fits
sum-lower-requires-clause-fits c =
    let a = c.args in
    fits_from_length _ _ 255 (2 ^ 64) (at_most_from_yields_List (YieldsList-at c.map.ensures.source (YieldsList-from_range 0 a.c a.c refl (omega arith))) (omega (arith, length-range_with_len 0 a.c)))
    c.map.ensures.closure (omega arith) (λ x r q k. (search rules, search (rules, arith)))

pub overflow_add-result : goal.overflow_add-result
overflow_add-result c =
    let a = c.args in
    let lower = sum_below c.sum-lower.result 65026 (c.sum-lower.ensures.runs tt)
    (fits_from_length _ _ 255 65026 (at_most_from_yields_List (YieldsList-at c.map.ensures.source (YieldsList-from_range 0 a.c a.c refl (omega arith))) (omega (arith, length-range_with_len 0 a.c)))
    c.map.ensures.closure (omega arith) (λ x r q k. (search rules, search (rules, arith)))) in
    omega (arith, lower)

pub returns : goal.returns
returns c =
    let a = c.args in
    let lower = sum_by_from_yields_List (λ i. a.terms - (i + 1)) (range_with_len 0 a.c) c.map.result c.sum-lower.result c.sum-lower.ensures.ran
    (YieldsList-from_map _ _ (YieldsList-at c.map.ensures.source (YieldsList-from_range 0 a.c a.c refl (omega arith))) c.map.ensures.closure (λ x r q k. search rules)) in
    omega (arith, lower, pair_index_sum a.terms a.c a.d)
