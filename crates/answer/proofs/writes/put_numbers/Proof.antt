-- `put_numbers` writes the field of the first class numbers.
use mathlib.Core.Path.{◌≡◌, sym, ◌∙◌}
use native.Mathlib.Omega.{arith}
use borrow.Author.Rules.{rules}
use lib.ListN.{length, take}
use lib.Seq.{length-take-le}
use Rattle.field.proofs.WriteLaws.{written}
use Rattle.answer.proofs.writes.put_numbers.Statement.{statement}
use Rattle.answer.proofs.writes.put_numbers.Tie as tie

slice_aggregate_put_field : tie.Need-slice_bounds-put_field-end
slice_aggregate_put_field c =
    let a = c.args in
    let long : length a.numbers ≡ 12 = search rules in
    sym (length-take-le a.terms a.numbers (omega arith))

returns : tie.Need-returns
returns c =
    let a = c.args in
    let long : length a.numbers ≡ 12 = search rules in
    let size : length (take a.terms a.numbers) ≡ a.terms = length-take-le a.terms a.numbers (omega arith) in
    let whole = written 0x41 (take a.terms a.numbers) a.buf.now (omega arith) (omega arith) in
    let f = c.put_field.ensures in
    (f.0 ∙ whole.0 ∙ omega arith, f.1 ∙ whole.1)

pub put_numbers_spec : {M : Type 1} → statement M
put_numbers_spec = tie.close (tie.spec (λ c. search rules) slice_aggregate_put_field (λ c κs. search rules) (λ c. search rules) returns)
