-- Each public contract of this crate leaves one result, and where a buffer is lent one buffer.
use mathlib.Core.Path.{refl}
use Rattle.outcome.specs.OneResult.{OneResult}
use Rattle.outcome.specs.OneOutcome.{OneOutcome}
use Rattle.outcome.proofs.OneLaw.{both}
use Rattle.text.proofs.bytes.put_byte.Reads as put_byte
use Rattle.text.proofs.decimals.put_decimal.Reads as put_decimal
use Rattle.text.proofs.literals.put_literal.Reads as put_literal
use Rattle.text.proofs.literals.literal_in.Reads as literal_in
use Rattle.text.proofs.pieces.piece_length.Reads as piece_length

put_byte_one : OneOutcome put_byte.Learnt (λ κs s. s.1.1.0.now)
put_byte_one κs given x y s t p q = (refl, both p q)

put_decimal_one : OneOutcome put_decimal.Learnt (λ κs s. s.1.1.0.now)
put_decimal_one κs given x y s t p q = (both p.0 q.0, both p.1 q.1)

put_literal_one : OneOutcome put_literal.Learnt (λ κs s. s.1.1.0.now)
put_literal_one κs given x y s t p q = (both p.0 q.0, both p.1 q.1)

literal_in_one : OneResult literal_in.Learnt
literal_in_one κs given x y s t = both

piece_length_one : OneResult piece_length.Learnt
piece_length_one κs given x y s t = both
