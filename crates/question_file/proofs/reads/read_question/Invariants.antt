-- The question of the whole file is that of the fields from here on, and what is left of the data falls.
use Rattle.std.proofs.Common.{◌-◌, length}
use Rattle.question_file.proofs.ReadLaws.{Reached}
use Rattle.question_file.proofs.KeptLaws.{Kept}
use Rattle.question_file.proofs.reads.read_question.Given as goal

abbrev pub invariant-loop-elements : goal.invariant-loop-elements
invariant-loop-elements l = Reached l.bytes l.at l.q × Kept l.q l.total

abbrev pub decreases-loop-elements : goal.decreases-loop-elements
decreases-loop-elements l = length l.bytes - l.at
