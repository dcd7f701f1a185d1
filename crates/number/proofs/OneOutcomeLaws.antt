-- Each public contract of this crate leaves one result, and where a buffer is lent one buffer.
use mathlib.Core.Path.{refl}
use Rattle.outcome.specs.OneResult.{OneResult}
use Rattle.outcome.specs.OneOutcome.{OneOutcome}
use Rattle.outcome.proofs.OneLaw.{both}
use Rattle.number.proofs.numbers.number_in.Reads as number_in
use Rattle.number.proofs.numbers.put_number.Reads as put_number

number_in_one : OneResult number_in.Learnt
number_in_one κs given x y s t = both

put_number_one : OneOutcome put_number.Learnt (λ κs s. s.1.0.now)
put_number_one κs given x y s t p q = (refl, both p q)
