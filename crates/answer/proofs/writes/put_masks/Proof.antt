-- `put_masks` writes the field of the first masks' bytes.
use Prim.Native.Nat.{◌*◌}
use mathlib.Core.Path.{◌≡◌, sym, ap, ◌∙◌}
use native.Mathlib.Omega.{arith}
use borrow.Author.Rules.{rules}
use lib.ListN.{length, take, length-take}
use lib.Seq.{length-take-le}
use Rattle.question.specs.Limits.{max_terms}
use Rattle.field.specs.Writes.{field_count, field_over}
use Rattle.field.proofs.WriteLaws.{written}
use Rattle.body.specs.Bodies.{mask_bytes, masks_body}
use Rattle.body.proofs.BodyLaws.{body_length}
use Rattle.answer.proofs.writes.put_masks.Statement.{statement}
use Rattle.answer.proofs.writes.put_masks.Tie as tie

slice_aggregate_put_field : tie.Need-slice_bounds-put_field-end
slice_aggregate_put_field c =
    let body = c.mask_body-body.result in
    let long : length body ≡ max_terms * mask_bytes = search rules in
    sym (length-take-le (c.args.classes * mask_bytes) body (omega arith))

returns : tie.Need-returns
returns c =
    let a = c.args in
    let masks = take a.classes a.masks in
    let whole = written 0x42 (masks_body mask_bytes masks) a.buf.now (omega (arith, body_length mask_bytes masks, length-take a.classes a.masks)) (omega arith) in
    let f = c.put_field.ensures in
    (f.0 ∙ ap (λ b. field_count b (length a.buf.now)) c.mask_body-body.ensures ∙ whole.0 ∙ omega arith, f.1 ∙ ap (λ b. field_over 0x42 b a.buf.now) c.mask_body-body.ensures ∙ whole.1)

pub put_masks_spec : {M : Type 1} → statement M
put_masks_spec =
    tie.close
    (tie.spec
    (λ c. search rules)
    (λ c κs. search rules)
    (λ c. search rules)
    slice_aggregate_put_field
    (λ c κs. search rules)
    (λ c. search rules)
    returns)
