-- Each public contract of this crate leaves one outcome: one result, and of the writer one buffer.
use Rattle.outcome.specs.OneResult.{OneResult}
use Rattle.outcome.specs.OneOutcome.{OneOutcome}
use Rattle.outcome.proofs.OneLaw.{both}
use Rattle.question_file.proofs.fields.field_at.Reads as field_at
use Rattle.question_file.proofs.reads.read_question.Reads as read_question
use Rattle.question_file.proofs.writes.write_question.Reads as write_question

field_at_one : OneResult field_at.Learnt
field_at_one κs given x y s t = both

read_question_one : OneResult read_question.Learnt
read_question_one κs given x y s t = both

write_question_one : OneOutcome write_question.Learnt (λ κs s. s.1.0.now)
write_question_one κs given x y s t p q = (both p.0 q.0, both p.1 q.1)
