-- `with_group`: a term alone is a group of terms.
use Rattle.std.proofs.Common.{arith}
use Rattle.search.proofs.FitLaws.{alone_small, groups_set}
use Rattle.search.proofs.groups.Groups.with_group.Goals as goal

pub invariant_of-self-clause-are_groups : goal.invariant_of-self-clause-are_groups
invariant_of-self-clause-are_groups c =
    groups_set c.args.self.terms c.args.self.are_groups c.args.self.count _ (omega (arith, c.term_alone.ensures, alone_small c.args.term c.requires.1))
