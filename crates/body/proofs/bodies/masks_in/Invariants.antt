-- The entries are the masks so far, and 0 past them.
use Rattle.std.proofs.Common.{◌≡◌, length, take}
use Rattle.question.specs.Limits.{max_terms}
use Rattle.outcome.specs.Padded.{padded}
use Rattle.body.specs.Bodies.{mask_bytes, masks_in}
use Rattle.body.proofs.bodies.masks_in.Given as goal

abbrev pub invariant-loop-k : goal.invariant-loop-k
invariant-loop-k l = (length l.masks ≡ max_terms) × (l.masks ≡ padded max_terms (take l.k (masks_in mask_bytes l.count l.body)))
