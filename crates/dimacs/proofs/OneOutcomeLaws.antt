-- Each public contract of this crate leaves one result and one buffer.
use Rattle.outcome.specs.OneOutcome.{OneOutcome}
use Rattle.outcome.proofs.OneLaw.{both}
use Rattle.dimacs.proofs.writes.write_clauses.Reads as write_clauses
use Rattle.dimacs.proofs.files.clauses_file.Reads as clauses_file

write_clauses_one : OneOutcome write_clauses.Learnt (λ κs s. s.1.0.now)
write_clauses_one κs given x y s t p q = (both p.0 q.0, both p.1 q.1)

clauses_file_one : OneOutcome clauses_file.Learnt (λ κs s. s.1.0.now)
clauses_file_one κs given x y s t p q = (both p.0 q.0, both p.1 q.1)
