-- `part_fits` asks of the group without the next asked term and then with it.
use Rattle.std.proofs.Common.{◌≡◌, ◌+◌, ◌<◌, bit_or, sym, ap, subst, ◌∙◌, arith}
use Rattle.question.specs.Masks.{bit}
use Rattle.search.specs.Groups.{group_count}
use Rattle.search.specs.Fittings.{NoPart}
use Rattle.search.proofs.FitLaws.{sound_as, terms_as, asked_as, part_neither, part_past, joined_small}
use Rattle.search.proofs.finders.Finder.+part_fits.Goals as goal

pub returns-then-term-self-clause-no_part : goal.returns-then-term-self-clause-no_part
returns-then-term-self-clause-no_part t c r =
    let task = c.args.self.now in
    let all : c.args.term ≡ task.terms = c.if-term-self.true ∙ terms_as c.self.view_is in
    subst (λ n. NoPart task n c.args.group) (sym all) (c.has_mask.ensures.no_part r)

pub part_fits-requires-then-has_term : goal.part_fits-requires-then-has_term
part_fits-requires-then-has_term t c =
    let few = (sound_as c.self.view_is c.self.invariant).few_terms in
    let same = terms_as c.self.view_is in
    let after = terms_as c.part_fits.ensures.unchanged in
    let small : bit_or c.args.group c.term_alone.result < group_count = subst (λ n. bit_or c.args.group n < group_count) (sym c.term_alone.ensures) (joined_small c.args.group c.args.term (omega arith) c.requires.group_lt_group_count) in
    (omega arith, (small, omega arith))

pub returns-then-has_term-clause-no_part : goal.returns-then-has_term-clause-no_part
returns-then-has_term-clause-no_part t c r =
    part_neither c.args.self.now c.args.term c.args.group _ c.term_alone.ensures (c.part_fits.ensures.no_part c.if-part_fits.false)
    (subst (λ d. NoPart d (c.args.term + 1) (bit_or c.args.group c.term_alone.result)) c.part_fits.ensures.unchanged (c.part_fits-then-has_term.ensures.no_part r))

pub returns-else-has_term-clause-no_part : goal.returns-else-has_term-clause-no_part
returns-else-has_term-clause-no_part t c r =
    let same = asked_as (c.self-2.view_is ∙ c.part_fits.ensures.unchanged) in
    part_past c.args.self.now c.args.term (ap (λ n. bit n c.args.term) (sym same) ∙ sym c.has_term.ensures ∙ r) c.args.group (c.part_fits.ensures.no_part c.if-part_fits.false)
