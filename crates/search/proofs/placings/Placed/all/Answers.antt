-- `Placed::all`: the classes are among twelve.
use Rattle.search.proofs.RenamedLaws.{class_few}
use Rattle.search.proofs.placings.Placed.all.Goals as goal

pub groups_of-requires : goal.groups_of-requires
groups_of-requires c = (c.requires.few_terms, class_few c.requires)
