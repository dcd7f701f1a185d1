-- The bits of a mask that are to blame where it fails a test: every mask that has them fails it too.
use Rattle.std.specs.Prelude.{ℕ, ◌^◌, Bool, not, cond}
use Rattle.std.specs.Int.Bits.{bit_or}
use Rattle.question.specs.Masks.{bit}
use Rattle.theory.specs.Sets.{Test, IsSame, IsNotSame, IsIn, IsNotIn, ExactlyIfIn, ExactlyIfNotIn, ExactlyIfSame, ExactlyIfOr, ExactlyIfAnd, ExactlyIfAndNot}

-- of three numbers the bits of all, or of the first two, or of the first and the last
abbrev pub two_or_three : Bool → Bool → ℕ → ℕ → ℕ → ℕ
two_or_three all second x y z = cond all (bit_or (bit_or x y) z) (cond second (bit_or x y) (bit_or x z))

-- the bits of the sets that the test names. Of three sets two are enough where the other can't help:
-- x = y ∪ z fails by x out and y in, or x out and z in; x = y ∩ z by x in and y out, or x in and z out; x = y \ z by x in and y out, or x in and z in
unfoldable pub blamed : ℕ → Test → ℕ
blamed m (IsSame d) = 0
blamed m (IsNotSame d) = 0
blamed m (IsIn x) = 2 ^ x
blamed m (IsNotIn x) = 2 ^ x
blamed m (ExactlyIfIn x y) = bit_or (2 ^ x) (2 ^ y)
blamed m (ExactlyIfNotIn x y) = bit_or (2 ^ x) (2 ^ y)
blamed m (ExactlyIfSame x a) = 2 ^ x
blamed m (ExactlyIfOr x y z) = two_or_three (bit m x) (bit m y) (2 ^ x) (2 ^ y) (2 ^ z)
blamed m (ExactlyIfAnd x y z) = two_or_three (not (bit m x)) (not (bit m y)) (2 ^ x) (2 ^ y) (2 ^ z)
blamed m (ExactlyIfAndNot x y z) = two_or_three (not (bit m x)) (not (bit m y)) (2 ^ x) (2 ^ y) (2 ^ z)
