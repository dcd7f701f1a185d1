-- `rest_fits` puts a term that has no mask alone into one group after another.
use Rattle.std.proofs.Common.{◌<◌, bit_or, get_or, length, sym, subst, ◌∙◌, inl, arith}
use Rattle.search.specs.Groups.{group_count}
use Rattle.search.specs.Fittings.{NoPart, NothingFits}
use Rattle.search.proofs.FitLaws.{sound_as, terms_as, alone_small, joined_small, group_stuck, group_lacks, alone_lacks}
use Rattle.search.proofs.finders.Finder.+rest_fits.Goals as goal
use Rattle.search.proofs.finders.Finder.+rest_fits.Goals.{else-has_mask-via-then-has_mask+else-rest_fits, else-has_mask-via-else-has_mask}

pub needs_a_group-requires : goal.needs_a_group-requires
needs_a_group-requires t c =
    let few = (sound_as c.self.view_is c.self.invariant).few_terms in
    let same = terms_as c.self.view_is in
    omega (arith, c.term_alone-own.ensures, alone_small c.args.term (omega arith))

pub has_mask-requires : goal.has_mask-requires
has_mask-requires t c =
    let few = (sound_as c.self.view_is c.self.invariant).few_terms in
    let same = terms_as c.self.view_is in
    let group = get_or c.args.groups.terms c.loop-k.k 0 in
    subst (λ n. bit_or group n < group_count) (sym c.term_alone-own.ensures) (joined_small group c.args.term (omega arith) (c.args.groups.are_groups.small c.loop-k.k))

pub rest_fits-requires-then-has_mask : goal.rest_fits-requires-then-has_mask
rest_fits-requires-then-has_mask t c =
    let few = (sound_as c.self.view_is c.self.invariant).few_terms in
    let same = terms_as c.self.view_is in
    let after = terms_as (c.has_mask.ensures.unchanged ∙ c.loop-k.invariant.0 ∙ c.needs_a_group.ensures.unchanged) in
    (omega arith, omega arith)

pub loop-k-preserved : goal.loop-k-preserved
loop-k-preserved t c =
    let task = c.needs_a_group.new.self in
    let g = c.args.groups in
    let k = c.loop-k.k in
    let inside : k < length g.terms = omega (arith, g.are_groups.long, g.few) in
    elim c.else-has_mask.branch [
      | else-has_mask-via-then-has_mask+else-rest_fits w ↦ (
        w.self-is ∙ w.rest_fits-then-has_mask.ensures.unchanged ∙ c.has_mask.ensures.unchanged ∙ c.loop-k.invariant.0,
        group_stuck task g.terms g.count c.args.term task.terms task.terms (λ d h. inl h) k c.loop-k.invariant.1 c.loop-k-test.true inside w.with_term.ensures.terms w.with_term.ensures.count
            (subst (λ d. NothingFits d d.terms w.with_term.result.terms w.with_term.result.count) (c.has_mask.ensures.unchanged ∙ c.loop-k.invariant.0) (w.rest_fits-then-has_mask.ensures.nothing_fits w.if-rest_fits.false)),
      )
      | else-has_mask-via-else-has_mask w ↦ (
        w.self-is ∙ c.has_mask.ensures.unchanged ∙ c.loop-k.invariant.0,
        group_lacks task g.terms g.count c.args.term task.terms task.terms (λ d h. inl h) k c.loop-k.invariant.1 c.loop-k-test.true inside c.term_alone-own.ensures
            (subst (λ d. NoPart d d.terms (bit_or (get_or g.terms k 0) c.term_alone-own.result)) c.loop-k.invariant.0 (c.has_mask.ensures.no_part w.if-has_mask.false)),
      )
    ]

pub returns-clause-nothing_fits : goal.returns-clause-nothing_fits
returns-clause-nothing_fits t c r =
    let same = terms_as c.self.view_is in
    let unchanged = c.needs_a_group.ensures.unchanged in
    let after = terms_as unchanged in
    let task = c.needs_a_group.new.self in
    subst (λ d. NothingFits d d.terms c.args.groups.terms c.args.groups.count) unchanged
    (alone_lacks task c.args.groups.terms c.args.groups.count c.args.term task.terms task.terms (λ d h. inl h) c.loop-k.k c.loop-k.invariant.1 (omega arith) (omega arith) c.term_alone-own.ensures
    (subst (λ d. NoPart d d.terms c.term_alone-own.result) (sym unchanged) (c.needs_a_group.ensures.no_part c.if-not-needs_a_group.false)))
