-- `write_good` refuses an answer that is not good, and writes a good one.
use Rattle.std.proofs.Common.{refl, sym, ap, ◌∙◌, arith, Err}
use Rattle.answer.specs.Answers.{said}
use Rattle.answer.specs.Writes.{good_written, good_over}
use Rattle.answer.proofs.GoodLaws.{is_good_lem, is_bad, good_few}
use Rattle.answer.proofs.writes.write_good.Goals as goal

pub invariant_of-write_fitting : goal.invariant_of-write_fitting
invariant_of-write_fitting c =
    let a = c.args in
    let good = is_good_lem a.asked.bound (said a.asked.terms a.a) _ (sym c.check_answer.ensures ∙ c.in-Some.is) in
    record { few_terms = a.asked.few_terms; few_classes = omega (arith, good.1, good_few a.asked.bound a.asked.terms a.a good.0); counted = good.1 }

pub returns-in-None : goal.returns-in-None
unfolding good_written good_over
returns-in-None c =
    let a = c.args in
    rw (is_bad a.asked.bound (said a.asked.terms a.a) (sym c.check_answer.ensures ∙ c.in-None.is)) (ap Err c.new.ensures, refl)

pub returns-in-Some : goal.returns-in-Some
unfolding good_written good_over
returns-in-Some c =
    let a = c.args in
    let w = c.write_fitting.ensures in
    rw (is_good_lem a.asked.bound (said a.asked.terms a.a) _ (sym c.check_answer.ensures ∙ c.in-Some.is)).0 (w.0, w.1)
