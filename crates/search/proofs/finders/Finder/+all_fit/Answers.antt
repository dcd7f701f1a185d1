-- `all_fit` puts the next asked term into one group after another, and then into a new one.
use Rattle.std.proofs.Common.{◌+◌, ◌<◌, bit_or, get_or, length, sym, ap, subst, ◌∙◌, arith}
use Rattle.question.specs.Masks.{bit}
use Rattle.cut.proofs.AskedLaws.{before_next}
use Rattle.search.specs.Groups.{group_count}
use Rattle.search.specs.Fittings.{NoPart, NothingFits}
use Rattle.search.proofs.FitLaws.{sound_as, terms_as, asked_as, fits_past, alone_small, joined_small, group_stuck, group_lacks, alone_lacks, alone_stuck}
use Rattle.search.proofs.finders.Finder.+all_fit.Goals as goal
use Rattle.search.proofs.finders.Finder.+all_fit.Goals.{else-part_fits-via-then-part_fits+else-all_fit, else-part_fits-via-else-part_fits}

pub returns-then-not-has_term-clause-nothing_fits : goal.returns-then-not-has_term-clause-nothing_fits
returns-then-not-has_term-clause-nothing_fits t c r =
    fits_past c.args.self.now c.args.term (ap (λ n. bit n c.args.term) (sym (asked_as c.self.view_is)) ∙ sym c.has_term.ensures ∙ c.if-not-has_term.true) c.args.groups.terms c.args.groups.count (c.all_fit.ensures.nothing_fits r)

pub part_fits-requires-clause-group_lt_group_count : goal.part_fits-requires-clause-group_lt_group_count
part_fits-requires-clause-group_lt_group_count t c =
    let few = (sound_as c.self.view_is c.self.invariant).few_terms in
    let same = terms_as c.self.view_is in
    let group = get_or c.args.groups.terms c.loop-k.k 0 in
    subst (λ n. bit_or group n < group_count) (sym c.term_alone-own.ensures) (joined_small group c.args.term (omega arith) (c.args.groups.are_groups.small c.loop-k.k))

pub all_fit-requires-then-part_fits : goal.all_fit-requires-then-part_fits
all_fit-requires-then-part_fits t c =
    let few = (sound_as c.self.view_is c.self.invariant).few_terms in
    let same = terms_as c.self.view_is in
    let after = terms_as (c.part_fits.ensures.unchanged ∙ c.loop-k.invariant.0) in
    let count = c.with_term.ensures.count in
    (omega arith, (omega arith, omega arith, omega arith))

pub loop-k-preserved : goal.loop-k-preserved
loop-k-preserved t c =
    let task = c.args.self.now in
    let i = c.args.term in
    let g = c.args.groups in
    let k = c.loop-k.k in
    let few = (sound_as c.self.view_is c.self.invariant).few_terms in
    let same = terms_as c.self.view_is in
    let inside : k < length g.terms = omega (arith, g.are_groups.long) in
    elim c.else-part_fits.branch [
      | else-part_fits-via-then-part_fits+else-all_fit w ↦ (
        w.self-is ∙ w.all_fit-then-part_fits.ensures.unchanged ∙ c.part_fits.ensures.unchanged ∙ c.loop-k.invariant.0,
        group_stuck task g.terms g.count i i (i + 1) (before_next task.asked i) k c.loop-k.invariant.1 c.loop-k-test.true inside w.with_term.ensures.terms w.with_term.ensures.count
            (subst (λ d. NothingFits d (i + 1) w.with_term.result.terms w.with_term.result.count) (c.part_fits.ensures.unchanged ∙ c.loop-k.invariant.0) (w.all_fit-then-part_fits.ensures.nothing_fits w.if-all_fit.false)),
      )
      | else-part_fits-via-else-part_fits w ↦ (
        w.self-is ∙ c.part_fits.ensures.unchanged ∙ c.loop-k.invariant.0,
        group_lacks task g.terms g.count i i (i + 1) (before_next task.asked i) k c.loop-k.invariant.1 c.loop-k-test.true inside c.term_alone-own.ensures
            (subst (λ d. NoPart d (i + 1) (bit_or (get_or g.terms k 0) c.term_alone-own.result)) c.loop-k.invariant.0 (c.part_fits.ensures.no_part w.if-part_fits.false)),
      )
    ]

pub part_fits-requires-2-clause-group_lt_group_count : goal.part_fits-requires-2-clause-group_lt_group_count
part_fits-requires-2-clause-group_lt_group_count t c =
    let few = (sound_as c.self.view_is c.self.invariant).few_terms in
    let same = terms_as c.self.view_is in
    omega (arith, c.term_alone-own.ensures, alone_small c.args.term (omega arith))

pub all_fit-requires-then-part_fits-2 : goal.all_fit-requires-then-part_fits-2
all_fit-requires-then-part_fits-2 t c =
    let few = (sound_as c.self.view_is c.self.invariant).few_terms in
    let same = terms_as c.self.view_is in
    let after = terms_as (c.part_fits-2.ensures.unchanged ∙ c.loop-k.invariant.0) in
    let count = c.with_group.ensures.count in
    (omega arith, (omega arith, omega arith, omega arith))

pub returns-then-part_fits-2-clause-nothing_fits : goal.returns-then-part_fits-2-clause-nothing_fits
returns-then-part_fits-2-clause-nothing_fits t c r =
    let task = c.args.self.now in
    let i = c.args.term in
    let g = c.args.groups in
    let few = (sound_as c.self.view_is c.self.invariant).few_terms in
    let same = terms_as c.self.view_is in
    let room : g.count < length g.terms = omega (arith, g.are_groups.long) in
    alone_stuck task g.terms g.count i i (i + 1) (before_next task.asked i) c.loop-k.k c.loop-k.invariant.1 (omega arith) (omega arith) room c.with_group.ensures.terms c.with_group.ensures.count
    (subst (λ d. NothingFits d (i + 1) c.with_group.result.terms c.with_group.result.count) (c.part_fits-2.ensures.unchanged ∙ c.loop-k.invariant.0) (c.all_fit-then-part_fits-2.ensures.nothing_fits r))

pub returns-else-part_fits-2-clause-nothing_fits : goal.returns-else-part_fits-2-clause-nothing_fits
returns-else-part_fits-2-clause-nothing_fits t c r =
    let task = c.args.self.now in
    let i = c.args.term in
    let same = terms_as c.self.view_is in
    alone_lacks task c.args.groups.terms c.args.groups.count i i (i + 1) (before_next task.asked i) c.loop-k.k c.loop-k.invariant.1 (omega arith) (omega arith) c.term_alone-own.ensures
    (subst (λ d. NoPart d (i + 1) c.term_alone-own.result) c.loop-k.invariant.0 (c.part_fits-2.ensures.no_part r))
