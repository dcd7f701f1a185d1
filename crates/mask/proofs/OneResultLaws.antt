-- Each public contract of this crate leaves one result.
use Rattle.outcome.specs.OneResult.{OneResult}
use Rattle.outcome.proofs.OneLaw.{both}
use Rattle.row.proofs.SaidLaws.{said_once}
use Rattle.mask.proofs.entries.entry_of.Reads as entry_of
use Rattle.mask.proofs.entries.row_in.Reads as row_in
use Rattle.mask.proofs.entries.test_in.Reads as test_in
use Rattle.mask.proofs.entries.terms_in.Reads as terms_in
use Rattle.mask.proofs.masks.smallest_mask.Reads as smallest_mask

entry_of_one : OneResult entry_of.Learnt
entry_of_one κs given x y s t = both

row_in_one : OneResult row_in.Learnt
row_in_one κs given x y s t = both

test_in_one : OneResult test_in.Learnt
test_in_one κs given x y s t p q = said_once x y (both p.0 q.0)

terms_in_one : OneResult terms_in.Learnt
terms_in_one κs given x y s t = both

smallest_mask_one : OneResult smallest_mask.Learnt
smallest_mask_one κs given x y s t = both
