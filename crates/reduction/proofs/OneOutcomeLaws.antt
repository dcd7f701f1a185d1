-- Each public contract of this crate leaves one result and one buffer.
use Rattle.outcome.specs.OneOutcome.{OneOutcome}
use Rattle.outcome.proofs.OneLaw.{both}
use Rattle.reduction.proofs.reducing.write_rows.Reads as write_rows
use Rattle.reduction.proofs.reducing.reduce.Reads as reduce

write_rows_one : OneOutcome write_rows.Learnt (λ κs exit. exit.1.0.now)
write_rows_one κs given x y s t p q = (both p.0 q.0, both p.1 q.1)

reduce_one : OneOutcome reduce.Learnt (λ κs exit. exit.1.0.now)
reduce_one κs given x y s t p q = (both p.0 q.0, both p.1 q.1)
