-- The test that a value of the code's type says, and the tests that a row has room for.
use Rattle.std.specs.Prelude.{◌^◌, ◌<◌}
use Rattle.theory.specs.Lists.{Every}
use Rattle.theory.specs.Sets as sets
use Rattle.row.specs.Parts.{place_bits}
use Rattle.row.specs.declared.tests.Test.{Test}
use Rattle.row.specs.declared.tests.Test.TheVariants.{IsSame, IsNotSame, IsIn, IsNotIn, ExactlyIfIn, ExactlyIfNotIn, ExactlyIfSame, ExactlyIfOr, ExactlyIfAnd, ExactlyIfAndNot}

-- variant by variant
abbrev pub said : Test → sets.Test
said (IsSame d) = sets.IsSame d
said (IsNotSame d) = sets.IsNotSame d
said (IsIn x) = sets.IsIn x
said (IsNotIn x) = sets.IsNotIn x
said (ExactlyIfIn x y) = sets.ExactlyIfIn x y
said (ExactlyIfNotIn x y) = sets.ExactlyIfNotIn x y
said (ExactlyIfSame x a) = sets.ExactlyIfSame x a
said (ExactlyIfOr x y z) = sets.ExactlyIfOr x y z
said (ExactlyIfAnd x y z) = sets.ExactlyIfAnd x y z
said (ExactlyIfAndNot x y z) = sets.ExactlyIfAndNot x y z

-- each place of the test has room in a row
abbrev pub HasRoom : sets.Test → Type 0
HasRoom t = Every (λ p. sets.number_of p < 2 ^ place_bits) (sets.places_of t)
