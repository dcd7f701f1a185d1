-- One digit is the number; else the digits of the tenth are laid, and the last one goes behind them.
use Rattle.std.proofs.Common.{◌∷◌, [], ◌+◌, ◌/◌, ◌%◌, length, length-append, set, sym, ap, ◌∙◌, arith}
use mathlib.Core.Path.{ap₂}
use Rattle.text.specs.Laid.{laid}
use Rattle.text.specs.Decimals.{digit, decimal}
use Rattle.text.proofs.LaidLaws.{laid_one, laid_behind}
use Rattle.text.proofs.DigitLaws.{digits_one, decimal_more, decimal_few}
use Rattle.text.proofs.decimals.+put_digits.Goals as goal

pub returns-then-n-lt10 : goal.returns-then-n-lt10
returns-then-n-lt10 t c =
    let a = c.args in
    let one = digits_one a.n a.n c.if-n-lt10.true in
    (ap length (sym one), c.put_byte.ensures ∙ sym (laid_one a.at _ a.buf.now) ∙ ap (λ l. laid a.at l a.buf.now) (sym one))

pub overflow_add-at : goal.overflow_add-at
overflow_add-at t c = omega (arith, c.put_digits-tens.ensures.0, decimal_few (c.args.n / 10))

pub overflow_add-result : goal.overflow_add-result
overflow_add-result t c = omega (arith, c.put_digits-tens.ensures.0, decimal_few (c.args.n / 10))

pub returns : goal.returns
returns t c =
    let a = c.args in
    let more = decimal_more a.n (omega (arith, c.if-n-lt10.false)) in
    let count = c.put_digits-tens.ensures.0 in (
      omega (arith, count, ap length more, length-append (decimal (a.n / 10)) (digit (a.n % 10) ∷ [])),
      c.put_byte-2.ensures ∙ ap₂ (λ l k. set l (a.at + k) (digit (a.n % 10))) c.put_digits-tens.ensures.1 count
          ∙ sym (laid_one _ _ _) ∙ laid_behind a.at (decimal (a.n / 10)) (digit (a.n % 10) ∷ []) a.buf.now ∙ ap (λ l. laid a.at l a.buf.now) (sym more),
    )
