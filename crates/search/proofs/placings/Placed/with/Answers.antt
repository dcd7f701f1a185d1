-- `Placed::with`: one term more stands in a class and in its group.
use Rattle.std.proofs.Common.{◌<◌, arith}
use Rattle.question.specs.Limits.{max_terms}
use Rattle.search.proofs.PlacingLaws.{placing_next}
use Rattle.search.proofs.GroupLaws.{groups_next}
use Rattle.search.proofs.placings.Placed.with.Goals as goal

pub invariant_of-result : goal.invariant_of-result
invariant_of-result c =
    let here = c.args.self.placing in
    let room : c.args.self.terms < max_terms = omega arith in
    let inside : c.args.c < max_terms = omega (arith, here.few_classes) in
    let grown = c.with_term in
    record {
      placing = placing_next here c.args.c room grown.result.count c.requires.1 grown.ensures.count;
      groups_of = groups_next here c.args.self.groups_of c.args.c room inside grown.result.terms grown.ensures.terms;
    }
