-- By the first byte: no byte, a 0 before others, or digits.
use Rattle.std.proofs.Common.{◌≡◌, arith, sym, rules, tests}
use borrow.Author.Tests.{ltb-true, ltb-false}
use Rattle.text.specs.Decimals.{digits_from, up_to, number_up_to}
use Rattle.text.proofs.NumberLaws.{number_none, number_led, number_other, number_single}
use Rattle.text.proofs.decimals.decimal_in.Goals as goal
use Rattle.text.proofs.decimals.decimal_in.Goals.{in_default-via-then-bytes-lt2, in_default-via-else-bytes-lt2+in_default-1}

pub returns-in-empty : goal.returns-in-empty
returns-in-empty c = let a = c.args in sym (number_none a.most a.bytes.now (omega arith))

pub returns-in-48 : goal.returns-in-48
returns-in-48 c = let a = c.args in let none = number_led a.most a.bytes.now (omega arith) (omega arith) in search (rules, tests)

pub returns-in_default : goal.returns-in_default
returns-in_default c =
    let a = c.args in
    let digits : number_up_to a.most a.bytes.now ≡ up_to a.most (digits_from 0 a.bytes.now) = elim c.in_default.branch [
      | in_default-via-then-bytes-lt2 w ↦ number_single a.most a.bytes.now (omega (arith, ltb-true, ltb-false))
      | in_default-via-else-bytes-lt2+in_default-1 w ↦ number_other a.most a.bytes.now (omega (arith, ltb-false)) (λ e. omega arith)
    ] in
    cc
