-- `test_in` reads the test of the row's number, whose places have four bits each.
use Rattle.std.proofs.Common.{◌≡◌}
use Rattle.row.specs.Rows.{row_of}
use Rattle.row.specs.Tests.{said}
use Rattle.row.proofs.RoomLaws.{row_room}
use Rattle.row.proofs.SaidLaws.{said_row}
use Rattle.mask.specs.Entries.{row_in}
use Rattle.mask.proofs.entries.test_in.Goals as goal
use Rattle.mask.proofs.entries.test_in.Goals.{After-test}

read : (c : After-test) → said c.test.result ≡ (row_of (row_in c.args.entry)).test
read c = let e = said_row c.test.result c.unpack.result _ c.test.ensures c.unpack.ensures in cc

pub returns-clause-value : goal.returns-clause-value
returns-clause-value c = read (goal.at.returns-clause-value c).After-test

pub returns-clause-room : goal.returns-clause-room
returns-clause-room c = rw (read (goal.at.returns-clause-room c).After-test) (row_room (row_in c.args.entry))
