-- The count of all is the count from here on, where so many classes stand before.
use Rattle.std.proofs.Common.{◌≡◌, ◌≤◌, drop}
use Rattle.answer.specs.Checks.{class_count}
use Rattle.answer.proofs.CheckLaws.{count_from}
use Rattle.answer.proofs.checks.count_classes.Given as goal

abbrev pub invariant-loop-number : goal.invariant-loop-number
invariant-loop-number l =
    (l.used ≤ l.number-index) × (class_count l.number-items ≡ count_from l.used (drop l.number-index l.number-items))
