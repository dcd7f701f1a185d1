-- An accepted question has few sets and few terms.
use Rattle.std.proofs.Common.{arith}
use Rattle.answer.proofs.checks.Asked.by.Goals as goal

pub mask_bound-requires : goal.mask_bound-requires
mask_bound-requires c = c.requires.few_sets

pub invariant_of-result : goal.invariant_of-result
invariant_of-result c = record { few_terms = omega (arith, c.requires.few_terms) }
