-- `entry_of` puts the parts one behind the other: the place is a byte, so nothing is lost.
use Rattle.row.proofs.SaidLaws.{said_row}
use Rattle.mask.specs.Entries.{entry_of}
use Rattle.mask.proofs.entries.entry_of.Goals as goal

pub returns : goal.returns
unfolding entry_of
returns c = rw (c.lowest_set-place.ensures, said_row c.test.result c.unpack.result c.args.row c.test.ensures c.unpack.ensures)
