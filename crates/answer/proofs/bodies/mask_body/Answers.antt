-- Mask by mask.
use Rattle.std.proofs.Common.{◌≡◌, ◌+◌, ◌-◌, ◌*◌, length, get_or, take, drop, refl, ap, ◌∙◌, arith}
use Rattle.std.proofs.lemmas.List.{length-append, length-take, length-drop}
use Rattle.number.specs.Numbers.{bytes_of}
use Rattle.number.proofs.NumberLaws.{bytes_length}
use Rattle.body.specs.Bodies.{mask_bytes}
use Rattle.body.proofs.BodyLaws.{body_none, body_more}
use Rattle.answer.proofs.bodies.mask_body.Goals as goal

pub loop-k-init : goal.loop-k-init
loop-k-init c = (refl, body_none mask_bytes)

pub loop-k-preserved : goal.loop-k-preserved
loop-k-preserved c =
    let l = c.loop-k in
    let masks = c.args.masks in
    let at = l.k * mask_bytes in
    let n = at + mask_bytes - at in
    let part : length (take n (drop at l.body)) ≡ mask_bytes = simp (length-take, length-drop) (omega arith) in
    let stored : c.put_number.new.buf ≡ bytes_of mask_bytes (get_or masks l.k 0) = c.put_number.ensures ∙ ap (λ i. bytes_of i c.from.result) part ∙ ap (bytes_of mask_bytes) c.from.ensures in (
      simp (length-append, length-take, length-drop) (omega (arith, ap length stored, bytes_length mask_bytes (get_or masks l.k 0))),
      rw stored (body_more mask_bytes masks (take at l.body) (drop n (drop at l.body)) l.k (omega arith) l.invariant.1),
    )
