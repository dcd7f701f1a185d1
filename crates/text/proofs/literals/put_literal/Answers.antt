-- The minus, where there is one, and the digits behind it.
use Rattle.std.proofs.Common.{◌≡◌, ◌∷◌, [], ◌++◌, cond, ◌+◌, length, sym, ap, ◌∙◌, arith}
use Rattle.text.specs.Laid.{laid}
use Rattle.text.specs.Decimals.{decimal}
use Rattle.text.specs.Literals.{minus, literal_text}
use Rattle.text.proofs.LaidLaws.{laid_first}
use Rattle.text.proofs.DigitLaws.{decimal_short}
use Rattle.text.proofs.literals.put_literal.Goals as goal

pub overflow_add-result : goal.overflow_add-result
overflow_add-result c = omega (arith, c.put_digits.ensures.0, decimal_short c.args.l.variable)

pub returns-then-l : goal.returns-then-l
returns-then-l c =
    let a = c.args in
    let text : literal_text a.l ≡ minus ∷ decimal a.l.variable = ap (λ b. cond b (minus ∷ []) [] ++ decimal a.l.variable) c.if-l.true in (
      omega (arith, c.put_digits.ensures.0, ap length text),
      c.put_digits.ensures.1 ∙ ap (λ l. laid (a.at + 1) (decimal a.l.variable) l) c.put_byte.ensures
          ∙ sym (laid_first a.at minus (decimal a.l.variable) a.buf.now) ∙ ap (λ t. laid a.at t a.buf.now) (sym text),
    )
