-- Each public contract of this crate leaves one result, and where a buffer is lent one buffer.
use Rattle.outcome.specs.OneResult.{OneResult}
use Rattle.outcome.specs.OneOutcome.{OneOutcome}
use Rattle.outcome.proofs.OneLaw.{both}
use Rattle.field.proofs.tags.length_of.Reads as length_of
use Rattle.field.proofs.heads.byte_at.Reads as byte_at
use Rattle.field.proofs.frames.frame_at.Reads as frame_at
use Rattle.field.proofs.writes.field_length.Reads as field_length
use Rattle.field.proofs.writes.put_field.Reads as put_field

length_of_one : OneResult length_of.Learnt
length_of_one κs given x y s t = both

byte_at_one : OneResult byte_at.Learnt
byte_at_one κs given x y s t = both

frame_at_one : OneResult frame_at.Learnt
frame_at_one κs given x y s t = both

field_length_one : OneResult field_length.Learnt
field_length_one κs given x y s t = both

put_field_one : OneOutcome put_field.Learnt (λ κs s. s.1.1.0.now)
put_field_one κs given x y s t p q = (both p.0 q.0, both p.1 q.1)
