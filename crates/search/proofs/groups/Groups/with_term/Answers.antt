-- `with_term`: a group with one term more is a group of terms.
use Rattle.search.proofs.FitLaws.{groups_joined}
use Rattle.search.proofs.groups.Groups.with_term.Goals as goal

pub invariant_of-self-clause-are_groups : goal.invariant_of-self-clause-are_groups
invariant_of-self-clause-are_groups c = rw c.term_alone.ensures (groups_joined c.args.self.terms c.args.self.are_groups c.args.k c.args.term c.requires.1)
