-- What was said so far, put before what follows: a byte that is no digit, a number that is too large, one digit more, or the end.
use Rattle.std.proofs.Common.{◌≡◌, true, false, get_or, sym, ap, ◌∙◌, arith}
use Rattle.text.specs.Decimals.{is_digit, up_to}
use Rattle.text.proofs.NumberLaws.{digits_above, digits_end, digits_stop, digits_next}
use Rattle.text.proofs.decimals.digits_in.Goals as goal

pub returns-then-not-is_ascii_digit : goal.returns-then-not-is_ascii_digit
returns-then-not-is_ascii_digit c =
    let a = c.args in
    let l = c.loop-b in
    let no_digit : is_digit (get_or a.bytes.now l.b-index 0) ≡ false = cc in
    sym (ap (up_to a.most) l.invariant.1 ∙ digits_stop a.most l.n a.bytes.now l.b-index (omega arith) no_digit)

pub returns-then-greatest-n : goal.returns-then-greatest-n
returns-then-greatest-n c =
    let a = c.args in
    let l = c.loop-b in
    let a_digit : is_digit (get_or a.bytes.now l.b-index 0) ≡ true = cc in
    let next = digits_next a.most l.n a.bytes.now l.b-index (omega arith) a_digit in
    sym (ap (up_to a.most) (l.invariant.1 ∙ next) ∙ digits_above a.most _ _ (omega arith))

pub loop-b-preserved : goal.loop-b-preserved
loop-b-preserved c =
    let a = c.args in
    let l = c.loop-b in
    let a_digit : is_digit (get_or a.bytes.now l.b-index 0) ≡ true = cc in
    let next = digits_next a.most l.n a.bytes.now l.b-index (omega arith) a_digit in
    (omega arith, cc)

pub returns : goal.returns
returns c =
    let a = c.args in
    let l = c.loop-b in
    sym (ap (up_to a.most) l.invariant.1 ∙ digits_end a.most l.n a.bytes.now l.b-index (omega arith) (omega arith))
