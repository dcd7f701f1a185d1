-- Each public contract of this crate leaves one result and one buffer.
use Rattle.outcome.specs.OneOutcome.{OneOutcome}
use Rattle.outcome.proofs.OneLaw.{both}
use Rattle.solved.proofs.answers.solve.Reads as solve
use Rattle.solved.proofs.files.solve_file.Reads as solve_file

solve_one : OneOutcome solve.Learnt (λ κs s. s.1.1.0.now)
solve_one κs given x y s t p q = (both p.0 q.0, both p.1 q.1)

solve_file_one : OneOutcome solve_file.Learnt (λ κs s. s.1.1.0.now)
solve_file_one κs given x y s t p q = (both p.0 q.0, both p.1 q.1)
