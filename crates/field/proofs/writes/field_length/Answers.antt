-- `field_length` looks the tag up, and each arm says what the file knows of it.
use Rattle.std.proofs.Common.{rules}
use Rattle.field.specs.Writes.{field_length}
use Rattle.field.proofs.writes.field_length.Goals as goal

pub returns-in-None : goal.returns-in-None
unfolding field_length
returns-in-None c = search rules

pub returns-in-Some-Fixed : goal.returns-in-Some-Fixed
unfolding field_length
returns-in-Some-Fixed c = search rules

pub returns-in-Some-Depends : goal.returns-in-Some-Depends
unfolding field_length
returns-in-Some-Depends c = search rules
