-- `check_answer` goes by the verdict, then by the class numbers, then by the masks: a law for each way out.
use Rattle.std.proofs.Common.{ℕ, ◌≡◌, Bool, true, false, cond, Some, None, take, refl, sym, ◌∙◌, arith}
use Rattle.std.specs.Bool.{then_some}
use Rattle.std.proofs.lemmas.List.{length-take}
use Rattle.answer.proofs.GoodLaws.{classes_few, counted, check_none, check_against, check_masks}
use Rattle.answer.proofs.checks.check_answer.Goals as goal

then_is : (b : Bool) (n : ℕ) → then_some b n ≡ cond b (Some n) None
then_is true n = refl
then_is false n = refl

pub returns-in_err-classes-in-Possible : goal.returns-in_err-classes-in-Possible
returns-in_err-classes-in-Possible c =
    let a = c.args in
    c.from_residual.ensures ∙ sym (check_against a.asked.bound a.asked.terms a.a c.in-Possible.is (sym c.count_classes.ensures ∙ c.in_err-classes-in-Possible.was))

pub all_below-requires : goal.all_below-requires
all_below-requires c =
    let a = c.args in
    let l = take a.asked.terms a.a.arrangement in
    let k = counted l _ (sym c.count_classes.ensures ∙ c.in_ok-classes-in-Possible.was) in
    omega (arith, k.1, classes_few l k.0, length-take a.asked.terms a.a.arrangement)

pub returns-in-Impossible : goal.returns-in-Impossible
returns-in-Impossible c = sym (check_none c.args.asked.bound c.args.asked.terms c.args.a c.in-Impossible.is)

pub returns-in_ok-classes-in-Possible : goal.returns-in_ok-classes-in-Possible
returns-in_ok-classes-in-Possible c =
    let a = c.args in
    let count = sym c.count_classes.ensures ∙ c.in_ok-classes-in-Possible.was in
    let checked = check_masks a.asked.bound a.asked.terms a.a _ _ c.in-Possible.is count (sym c.all_below.ensures) in
    c.then_some.ensures ∙ then_is c.all_below.result _ ∙ sym checked
