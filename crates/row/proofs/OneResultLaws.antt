-- Each public contract of this crate leaves one result.
use Rattle.outcome.specs.OneResult.{OneResult}
use Rattle.outcome.proofs.OneLaw.{both}
use Rattle.row.proofs.SaidLaws.{said_once}
use Rattle.row.proofs.parts.pack.Reads as pack
use Rattle.row.proofs.parts.unpack.Reads as unpack
use Rattle.row.proofs.parts.RowParts.new.Reads as new
use Rattle.row.proofs.parts.RowParts.test.Reads as test
use Rattle.row.proofs.comparisons.same_test.Reads as same_test
use Rattle.row.proofs.checks.check_rows.Reads as check_rows

pack_one : OneResult pack.Learnt
pack_one κs given x y s t = both

unpack_one : OneResult unpack.Learnt
unpack_one κs given x y s t = both

new_one : OneResult new.Learnt
new_one κs given x y s t = both

test_one : OneResult test.Learnt
test_one κs given x y s t p q = said_once x y (both p q)

same_test_one : OneResult same_test.Learnt
same_test_one κs given x y s t = both

check_rows_one : OneResult check_rows.Learnt
check_rows_one κs given x y s t = both
