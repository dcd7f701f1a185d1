-- `needs_a_group` says yes only where the term has no mask alone.
use borrow.Author.Tests.{not-true}
use Rattle.search.proofs.finders.Finder.needs_a_group.Goals as goal

pub returns-then-self-own-eq0-clause-no_part : goal.returns-then-self-own-eq0-clause-no_part
returns-then-self-own-eq0-clause-no_part c r = c.has_mask.ensures.no_part (not-true c.has_mask.result r)
