-- The terms from `term` on get fewer.
use Rattle.std.proofs.Common.{◌-◌}
use Rattle.search.proofs.finders.Finder.+part_fits.Given as goal

abbrev pub decreases-part_fits : goal.decreases-part_fits
decreases-part_fits l = l.self.now.terms - l.term
