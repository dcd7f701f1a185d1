-- The bytes so far are those of the masks so far.
use Rattle.std.proofs.Common.{◌≡◌, ◌*◌, length, take}
use Rattle.question.specs.Limits.{max_terms}
use Rattle.body.specs.Bodies.{mask_bytes, masks_body}
use Rattle.answer.proofs.bodies.mask_body.Given as goal

abbrev pub invariant-loop-k : goal.invariant-loop-k
invariant-loop-k l =
    (length l.body ≡ max_terms * mask_bytes) × (take (l.k * mask_bytes) l.body ≡ masks_body mask_bytes (take l.k l.masks))
