-- Each public contract of this crate leaves one result.
use Rattle.outcome.specs.OneResult.{OneResult}
use Rattle.outcome.proofs.OneLaw.{both}
use Rattle.outcome.proofs.refusals.Refusal.new.Reads as new
use Rattle.outcome.proofs.verdicts.U8FromVerdict.from.Reads as from

new_one : OneResult new.Learnt
new_one κs given x y s t = both

from_one : OneResult from.Learnt
from_one κs given x y s t = both
