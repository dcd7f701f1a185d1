-- Each public contract of this crate leaves one result.
use Rattle.outcome.specs.OneResult.{OneResult}
use Rattle.outcome.proofs.OneLaw.{both}
use Rattle.body.proofs.bodies.numbers_in.Reads as numbers_in
use Rattle.body.proofs.bodies.masks_in.Reads as masks_in

numbers_in_one : OneResult numbers_in.Learnt
numbers_in_one κs given x y s t = both

masks_in_one : OneResult masks_in.Learnt
masks_in_one κs given x y s t = both
