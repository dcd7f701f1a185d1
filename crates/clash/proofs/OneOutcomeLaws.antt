-- Each public contract of this crate leaves one outcome: one result, and of the call that writes the three buffers.
use Rattle.outcome.specs.OneResult.{OneResult}
use Rattle.outcome.specs.OneOutcome.{OneOutcome}
use Rattle.outcome.proofs.OneLaw.{both}
use Rattle.clash.specs.Files.{three}
use Rattle.clash.proofs.clashes.clash.Reads as clash
use Rattle.clash.proofs.files.clash_file.Reads as clash_file

clash_one : OneResult clash.Learnt
clash_one κs given x y s t = both

clash_file_one : OneOutcome clash_file.Learnt (λ κs s. three s.1.0.now s.1.1.0.now s.1.1.1.0.now)
clash_file_one κs given x y s t p q = (both p.0 q.0, both p.1 q.1)
