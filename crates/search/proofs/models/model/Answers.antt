-- `model` takes the smallest mask of one class after another.
use Rattle.std.proofs.Common.{◌≡◌, ◌<◌, take, subst, ◌∙◌, arith, length-set}
use Rattle.question.specs.Limits.{max_terms}
use Rattle.search.proofs.PlacingLaws.{RestZero, rest_set}
use Rattle.search.proofs.SmallestLaws.{mask_is, mask_lacks}
use Rattle.search.proofs.ModelLaws.{MasksTo, model_none, model_more, model_all}
use Rattle.search.proofs.models.model.Goals as goal

pub returns-in_err-m : goal.returns-in_err-m
returns-in_err-m c =
    let a = c.args in
    let found = c.smallest_mask in
    let here = c.args.placed.placing in
    let its_terms = c.args.placed.groups_of.are c.loop-k.k (omega (arith, here.few_classes, here.few_terms)) in
    c.from_residual.ensures ∙ model_none a.entries.now a.sets a.placed.arrangement a.placed.terms a.placed.groups.count here c.requires.declared c.loop-k.k _ its_terms (omega arith)
    (mask_lacks a.entries.now a.sets _ c.requires.sets_le_max_sets found.result found.ensures c.in_err-m.was)

pub loop-k-preserved : goal.loop-k-preserved
loop-k-preserved c =
    let a = c.args in
    let l = c.loop-k in
    let found = c.smallest_mask in
    let here = c.args.placed.placing in
    let inside : l.k < max_terms = omega (arith, here.few_classes, here.few_terms) in (
      length-set l.masks l.k _ ∙ l.invariant.0,
      rest_set l.masks l.k _ inside l.invariant.1,
      model_more a.entries.now a.sets a.placed.arrangement a.placed.terms a.placed.groups.count here c.requires.declared l.k _ (c.args.placed.groups_of.are l.k inside) l.masks _ (omega arith)
          (mask_is a.entries.now a.sets _ c.requires.sets_le_max_sets found.result found.ensures _ c.in_ok-m.was) l.invariant.2,
    )

pub returns : goal.returns
returns c =
    let a = c.args in
    let l = c.loop-k in
    let all : l.k ≡ a.placed.groups.count = omega arith in
    model_all a.entries.now a.sets a.placed.arrangement a.placed.terms a.placed.groups.count c.args.placed.placing c.requires.declared l.masks l.invariant.0 (subst (λ n. RestZero n l.masks) all l.invariant.1)
    (subst (λ n. MasksTo a.entries.now a.sets (take a.placed.terms a.placed.arrangement) n l.masks) all l.invariant.2)
