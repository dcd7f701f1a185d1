-- `each_has_mask`: where one of the groups has none, nothing fits.
use Rattle.std.proofs.Common.{get_or, subst}
use Rattle.search.specs.Fittings.{NoPart}
use Rattle.search.proofs.FitLaws.{lacking_cut}
use Rattle.search.proofs.finders.Finder.each_has_mask.Goals as goal

pub returns-then-not-has_mask-clause-nothing_fits : goal.returns-then-not-has_mask-clause-nothing_fits
returns-then-not-has_mask-clause-nothing_fits c r =
    lacking_cut c.args.self.now c.args.groups.terms c.args.groups.count c.loop-k.k c.loop-k-test.true (subst (λ d. NoPart d d.terms (get_or c.args.groups.terms c.loop-k.k 0)) c.loop-k.invariant (c.has_mask.ensures.no_part c.if-not-has_mask.true))
