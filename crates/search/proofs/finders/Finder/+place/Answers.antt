-- `place` tries the classes for the next term one after another.
use Rattle.std.proofs.Common.{◌≡◌, ◌+◌, refl, sym, ap, subst, ◌∙◌, take, arith}
use Rattle.std.proofs.Math.Option.{none}
use Rattle.search.specs.Answers.{shown}
use Rattle.search.specs.Placings.{found}
use Rattle.search.proofs.FitLaws.{sound_as, terms_as, unfit_cut}
use Rattle.search.proofs.StepLaws.{modelled, whole, before_first, found_next, class_hit, class_miss, class_end}
use Rattle.search.proofs.finders.Finder.+place.Goals as goal

pub returns-then-not-all_fit-clause-value : goal.returns-then-not-all_fit-clause-value
returns-then-not-all_fit-clause-value t c =
    ap shown (sym (unfit_cut c.args.placed.placing c.args.placed.groups_of c.args.self.now c.requires (c.all_fit.ensures.nothing_fits c.if-not-all_fit.true)))

pub returns-then-placed-self-clause-value : goal.returns-then-placed-self-clause-value
returns-then-placed-self-clause-value t c =
    let p = c.args.placed in
    let same = c.self.view_is ∙ c.all_fit.ensures.unchanged in
    c.model.ensures ∙ ap (λ d. shown (modelled d (take p.terms p.arrangement))) same ∙ ap shown (sym (whole c.args.self.now p.arrangement p.terms (c.if-placed-self.true ∙ terms_as same)))

pub loop-c-init : goal.loop-c-init
loop-c-init t c =
    let p = c.args.placed in
    let same = terms_as c.self.view_is in
    let after = terms_as c.all_fit.ensures.unchanged in
    (refl, before_first c.all_fit.new.self p.arrangement p.terms p.groups.count p.placing (omega arith))

pub returns-then-is_some-clause-value : goal.returns-then-is_some-clause-value
returns-then-is_some-clause-value t c =
    let p = c.args.placed in
    let task = c.all_fit.new.self in
    let few = (sound_as c.self.view_is c.self.invariant).few_terms in
    let same = terms_as c.self.view_is in
    let after = terms_as c.all_fit.ensures.unchanged in
    let next = found_next task p.arrangement p.terms p.groups.count p.placing c.loop-c.c (omega arith) c.loop-c.invariant.0 c.with.ensures.arrangement c.with.ensures.terms in
    subst (λ d. c.place-found.result ≡ shown (found d p.arrangement p.terms)) c.all_fit.ensures.unchanged
    (class_hit task p.arrangement p.terms p.groups.count c.loop-c.c (omega arith) c.place-found.result (c.place-found.ensures.value ∙ ap shown next) c.loop-c.invariant.1 (sym c.is_some.ensures ∙ c.if-is_some.true))

pub loop-c-preserved : goal.loop-c-preserved
loop-c-preserved t c =
    let p = c.args.placed in
    let task = c.all_fit.new.self in
    let few = (sound_as c.self.view_is c.self.invariant).few_terms in
    let same = terms_as c.self.view_is in
    let after = terms_as c.all_fit.ensures.unchanged in
    let next = found_next task p.arrangement p.terms p.groups.count p.placing c.loop-c.c (omega arith) c.loop-c.invariant.0 c.with.ensures.arrangement c.with.ensures.terms in (
      c.place-found.ensures.unchanged ∙ c.loop-c.invariant.0,
      class_miss task p.arrangement p.terms p.groups.count c.loop-c.c (omega arith) c.place-found.result (c.place-found.ensures.value ∙ ap shown next) c.loop-c.invariant.1 (sym c.is_some.ensures ∙ c.if-is_some.false),
    )

pub returns-else-is_some-clause-value : goal.returns-else-is_some-clause-value
returns-else-is_some-clause-value t c =
    let p = c.args.placed in
    let task = c.all_fit.new.self in
    let few = (sound_as c.self.view_is c.self.invariant).few_terms in
    let same = terms_as c.self.view_is in
    let after = terms_as c.all_fit.ensures.unchanged in
    let next = found_next task p.arrangement p.terms p.groups.count p.placing c.loop-c.c (omega arith) c.loop-c.invariant.0 c.with.ensures.arrangement c.with.ensures.terms in
    let missed = class_miss task p.arrangement p.terms p.groups.count c.loop-c.c (omega arith) c.place-found.result (c.place-found.ensures.value ∙ ap shown next) c.loop-c.invariant.1 (sym c.is_some.ensures ∙ c.if-is_some.false) in
    ap shown (sym (subst (λ d. found d p.arrangement p.terms ≡ none) c.all_fit.ensures.unchanged (class_end task p.arrangement p.terms p.groups.count (c.loop-c.c + 1) (omega arith) missed)))
