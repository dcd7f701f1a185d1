-- So far each class has its smallest mask, and past those the masks are 0.
use Rattle.std.proofs.Common.{◌≡◌, length, take}
use Rattle.question.specs.Limits.{max_terms}
use Rattle.search.proofs.PlacingLaws.{RestZero}
use Rattle.search.proofs.ModelLaws.{MasksTo}
use Rattle.search.proofs.models.model.Given as goal

abbrev pub invariant-loop-k : goal.invariant-loop-k
invariant-loop-k l =
    (length l.masks ≡ max_terms) × RestZero l.k l.masks × MasksTo l.entries l.sets (take l.placed.terms l.placed.arrangement) l.k l.masks
