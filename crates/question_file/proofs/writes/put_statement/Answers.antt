-- What is lent of the names is the body, and the field is written with it.
use Rattle.std.proofs.Common.{ap, ap₂, ◌∙◌, length, take, arith}
use Rattle.statement.specs.Statements.{tag_of}
use Rattle.field.specs.Writes.{field_count, field_over}
use Rattle.field.proofs.WriteLaws.{written}
use Rattle.question_file.specs.Bodies.{body_of}
use Rattle.question_file.proofs.BodyLaws.{field}
use Rattle.question_file.proofs.StatementBytesLaws.{padded_body}
use Rattle.question_file.proofs.writes.put_statement.Goals as goal

pub returns : goal.returns
returns c =
    let a = c.args in
    let body = ap₂ take c.body_length-n.ensures c.name_bytes-names.ensures ∙ padded_body a.s in
    let whole = written (tag_of a.s) (body_of a.s) a.buf.now (omega (arith, (field a.s).few)) (omega arith) in
    let f = c.put_field.ensures in
    (f.0 ∙ ap (λ b. field_count b (length a.buf.now)) body ∙ whole.0 ∙ omega arith, f.1 ∙ ap₂ (λ t b. field_over t b a.buf.now) c.tag.ensures body ∙ whole.1)
