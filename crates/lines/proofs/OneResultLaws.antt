-- Each public contract of this crate leaves one result.
use Rattle.outcome.specs.OneResult.{OneResult}
use Rattle.outcome.proofs.OneLaw.{both}
use Rattle.lines.proofs.reads.read_lines.Reads as read_lines
use Rattle.lines.proofs.readings.Reading.value.Reads as value

read_lines_one : OneResult read_lines.Learnt
read_lines_one κs given x y s t = both

value_one : OneResult value.Learnt
value_one κs given x y s t = both
