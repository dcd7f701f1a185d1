-- Each public contract of this crate leaves one outcome: one result, and of the writer one buffer.
use Rattle.outcome.specs.OneResult.{OneResult}
use Rattle.outcome.specs.OneOutcome.{OneOutcome}
use Rattle.outcome.proofs.OneLaw.{both}
use Rattle.answer.proofs.answers.Answer.filler.Reads as filler
use Rattle.answer.proofs.answers.Answer.impossible.Reads as impossible
use Rattle.answer.proofs.reads.read_answer.Reads as read_answer
use Rattle.answer.proofs.writes.write_answer.Reads as write_answer

filler_one : OneResult filler.Learnt
filler_one κs given x y s t = both

impossible_one : OneResult impossible.Learnt
impossible_one κs given x y s t = both

read_answer_one : OneResult read_answer.Learnt
read_answer_one κs given x y s t = both

write_answer_one : OneOutcome write_answer.Learnt (λ κs s. s.1.1.0.now)
write_answer_one κs given x y s t p q = (both p.0 q.0, both p.1 q.1)
