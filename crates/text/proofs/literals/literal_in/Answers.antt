-- By the first byte: a minus, or a number.
use Rattle.std.proofs.Common.{◌≡◌, sym, ap, ◌∙◌, arith}
use borrow.Author.Tests.{eqb-true, eq-eqb, ltb-true, ltb-false}
use Rattle.text.specs.Decimals.{number_up_to}
use Rattle.text.specs.Literals.{minus, plain, denial, word_read}
use Rattle.text.proofs.WordLaws.{word_none, word_minus, word_plain}
use Rattle.outcome.proofs.Never.{never}
use Rattle.text.proofs.literals.literal_in.Goals as goal
use Rattle.text.proofs.literals.literal_in.Goals.{in_default-via-then-word-lt1, in_default-via-in-len1-up+else-is_minus}

pub returns-in_err-decimal_in-in-len1-up : goal.returns-in_err-decimal_in-in-len1-up
returns-in_err-decimal_in-in-len1-up c =
    let a = c.args in
    c.from_residual.ensures ∙ ap denial c.in_err-decimal_in-in-len1-up.ensures ∙ sym (word_minus a.most a.word.now (omega arith) (eqb-true _ minus (sym c.is_minus.ensures ∙ c.if-is_minus.true)))

pub returns-in_ok-decimal_in-in-len1-up : goal.returns-in_ok-decimal_in-in-len1-up
returns-in_ok-decimal_in-in-len1-up c =
    let a = c.args in
    c.denial.ensures ∙ ap denial c.in_ok-decimal_in-in-len1-up.ensures ∙ sym (word_minus a.most a.word.now (omega arith) (eqb-true _ minus (sym c.is_minus.ensures ∙ c.if-is_minus.true)))

pub returns-in_err-decimal_in-in_default : goal.returns-in_err-decimal_in-in_default
returns-in_err-decimal_in-in_default c =
    let a = c.args in
    let digits : word_read a.most a.word.now ≡ plain (number_up_to a.most a.word.now) = elim c.in_default.branch [
      | in_default-via-then-word-lt1 w ↦ word_none a.most a.word.now (omega (arith, ltb-true, ltb-false))
      | in_default-via-in-len1-up+else-is_minus w ↦ word_plain a.most a.word.now (omega (arith, ltb-false)) (λ e. let no = w.is_minus.ensures in let f = w.if-is_minus.false in let is = eq-eqb _ minus e in never cc)
    ] in
    c.from_residual-in_err-decimal_in-in_default.ensures ∙ ap plain c.in_err-decimal_in-in_default.ensures ∙ sym digits

pub returns-in_ok-decimal_in-in_default : goal.returns-in_ok-decimal_in-in_default
returns-in_ok-decimal_in-in_default c =
    let a = c.args in
    let digits : word_read a.most a.word.now ≡ plain (number_up_to a.most a.word.now) = elim c.in_default.branch [
      | in_default-via-then-word-lt1 w ↦ word_none a.most a.word.now (omega (arith, ltb-true, ltb-false))
      | in_default-via-in-len1-up+else-is_minus w ↦ word_plain a.most a.word.now (omega (arith, ltb-false)) (λ e. let no = w.is_minus.ensures in let f = w.if-is_minus.false in let is = eq-eqb _ minus e in never cc)
    ] in
    ap plain c.in_ok-decimal_in-in_default.ensures ∙ sym digits
