-- Mask by mask.
use Rattle.std.proofs.Common.{◌≡◌, ◌/◌, refl, length, min, sym, ap, ◌∙◌, arith}
use Rattle.std.proofs.Math.ListN.{length-set}
use Rattle.question.specs.Limits.{max_terms}
use Rattle.outcome.specs.Padded.{padded}
use Rattle.outcome.proofs.PaddedLaws.{padded_more, padded_none, padded_all}
use Rattle.body.specs.Bodies.{mask_bytes, masks_in}
use Rattle.body.proofs.BodyLaws.{in_length, in_at}
use Rattle.body.proofs.bodies.masks_in.Goals as goal

pub loop-k-init : goal.loop-k-init
loop-k-init c = (refl, padded_none max_terms)

pub loop-k-preserved : goal.loop-k-preserved
loop-k-preserved c =
    let l = c.loop-k in
    let body = c.args.body.now in
    let count = c.min-count.result in
    let size = in_length mask_bytes count body in
    let mask = c.mask_at.ensures ∙ sym (in_at mask_bytes count l.k body (omega arith)) in
    (simp length-set l.invariant.0, rw l.invariant.1 (padded_more max_terms (masks_in mask_bytes count body) l.k _ (omega arith) (omega arith) mask))

pub returns : goal.returns
returns c =
    let l = c.loop-k in
    let body = c.args.body.now in
    let count = c.min-count.result in
    let all : count ≡ min max_terms (length body / mask_bytes) = omega arith in
    padded_all max_terms (masks_in mask_bytes count body) l.masks l.k (omega (arith, in_length mask_bytes count body)) l.invariant.1
    ∙ ap (λ n. padded max_terms (masks_in mask_bytes n body)) all
