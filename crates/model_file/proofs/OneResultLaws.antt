-- Each public contract of this crate leaves one result.
use Rattle.outcome.specs.OneResult.{OneResult}
use Rattle.outcome.proofs.OneLaw.{both}
use Rattle.model_file.proofs.reads.read_model.Reads as read_model
use Rattle.model_file.proofs.files.judge_file.Reads as judge_file

read_model_one : OneResult read_model.Learnt
read_model_one κs given x y s t = both

judge_file_one : OneResult judge_file.Learnt
judge_file_one κs given x y s t = both
